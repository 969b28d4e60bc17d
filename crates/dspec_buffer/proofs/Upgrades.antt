-- A buffer while a text is upgraded into it, record by record.
use Rattle.std.proofs.Common.{leb, ◌≡◌, ◌≤◌, ◌<◌, ◌⊎◌, ◌+◌, ◌++◌, ◌^◌, ℕ, Bool, true, false, IsTrue, Option, List, [], ◌∷◌, length, refl, sym, ap, subst, ◌∙◌, arith, append_assoc, ⊎_elim}
use Rattle.std.proofs.lemmas.Bool.{lt-ltb, leb-true, leb-false, Decides.nat_tests, Decides.eqb_tells}
use Rattle.std.proofs.lemmas.List.{append-nil, reverse-append, map-append, length-reverse, length-map, Elements.All-cons, Elements.All-nil}
use Rattle.dspec_buffer.specs.Words.{Record, EnabledRows, FieldTable, enabled, table_shape, table_accepts, table_text, enabled-IsLimited, table-shapes_fit, table-texts_fit, table-texts_differ}
use Rattle.dspec_buffer.specs.Words.{Piece, one, records, reserved, align_of, size_of, piece_fits, BufferText, Stored, HasPieces, stamped, all_stamped, IsOldText, new_extent, HasNew, IsUpgradable}
use Rattle.dspec_buffer.specs.Words.{IsUpgraded, FillsUp, Field, Header, Two, Shape}
use Rattle.dspec_buffer.proofs.{Accepted.AllAccepted, Accepted.back_accepted, Accepted.first_accepted, Accepted.others_accepted, Keeping.records-alone, OneReading.one_reading, SchemaLaws.SchemaLaws}
use Rattle.dspec_buffer.proofs.{Texts.text_facts}

-- the records of a text are accepted
pub text_accepted : (shape : ℕ → Option Shape) (accepted : Record → Bool) (text : Record → List ℕ) (o : ℕ) (b : List ℕ) (rs : List Record)
    → BufferText shape accepted text o b rs → AllAccepted accepted rs
text_accepted shape accepted text o b [] h = All-nil (λ r. IsTrue (accepted r))
text_accepted shape accepted text o b (r ∷ rs) (gap, (rest, (stands, h))) =
    All-cons (λ q. IsTrue (accepted q)) r rs stands.is_accepted (text_accepted shape accepted text (o + length gap + length (text r)) rest rs h)

pub laws_of : (h : Header) (rows : List (List Field)) → SchemaLaws (table_shape h (enabled rows)) (table_accepts h (enabled rows)) (table_text h (enabled rows))
laws_of h rows = record {
  zero_has_none = refl;
  shapes_fit = table-shapes_fit h (enabled rows) (enabled-IsLimited rows);
  texts_fit = table-texts_fit h (enabled rows);
  texts_differ = table-texts_differ h (enabled rows);
}

-- a record that is accepted without a stamp is accepted with one
pub stamped-accepted : (h : Header) (fields : FieldTable) (r : Record) (stamp : ℕ) → stamp < 2 ^ 64 → IsTrue (table_accepts h fields r) → IsTrue (table_accepts Two fields (stamped stamp r))
stamped-accepted h fields r stamp small accepted = grind (arith, nat_tests, lt-ltb)

-- one record more is one piece more
pub one-more : (stamp : ℕ) (rs : List Record) (r : Record) → all_stamped stamp (rs ++ r ∷ []) ≡ one (stamped stamp r) ∷ all_stamped stamp rs
one-more stamp rs r = grind (arith, nat_tests, map-append, reverse-append)

reserved-ge : (o a n : ℕ) → (a ≡ 4) ⊎ (a ≡ 8) → o ≤ reserved o a n
reserved-ge o a n aligned =
    ⊎_elim (λ none. rw none.0 (omega arith)) (λ some. rw some.0 (⊎_elim (λ four. rw four (omega arith)) (λ eight. rw eight (omega arith)) aligned)) (eqb_tells n 0)

-- what has been done when these records are left
pub record IsUpgrading (old : EnabledRows) (stamp : ℕ) (text : List ℕ) (size : ℕ) (to : Stored) (left : List Record) : Type 0 where
  pub done : List Record
  pub is_text : IsOldText old text (done ++ left)
  pub kept : HasNew old to (all_stamped stamp done)
  pub fit : new_extent old (all_stamped stamp done) ≤ size
  pub same : to.size ≡ size

-- a piece for each record
count-done : (stamp : ℕ) (rs : List Record) → length (records (all_stamped stamp rs)) ≡ length rs
count-done stamp rs = grind (arith, nat_tests, records-alone, length-reverse, length-map)

module _ (old : EnabledRows) (stamp : ℕ) (text : List ℕ) (size : ℕ) where
  pub upgrading-accepted : (to : Stored) (r : Record) (left : List Record) → stamp < 2 ^ 64 → IsUpgrading old stamp text size to (r ∷ left)
      → IsTrue (table_accepts Two (enabled old.rows) (stamped stamp r))
  upgrading-accepted to r left small h =
      let accepted : Record → Bool = table_accepts old.header (enabled old.rows) in
      let all = text_accepted (table_shape old.header (enabled old.rows)) accepted (table_text old.header (enabled old.rows)) 0 text (h.done ++ r ∷ left) h.is_text in
      stamped-accepted old.header (enabled old.rows) r stamp small (first_accepted accepted r left (back_accepted accepted h.done (r ∷ left) all))

  upgrading-next : (to new : Stored) (r : Record) (left : List Record) (h : IsUpgrading old stamp text size to (r ∷ left))
      → HasNew old new (one (stamped stamp r) ∷ all_stamped stamp h.done) → new_extent old (one (stamped stamp r) ∷ all_stamped stamp h.done) ≤ size → new.size ≡ to.size
      → IsUpgrading old stamp text size new left
  upgrading-next to new r left h kept fit same =
      let more = one-more stamp h.done r in
      let Kept : List Piece → Type 0 = λ ps. HasNew old new ps in
      let Fit : List Piece → Type 0 = λ ps. new_extent old ps ≤ size in
      let Text : List Record → Type 0 = λ rs. IsOldText old text rs in
      record {
        done = h.done ++ r ∷ [];
        is_text = subst Text (sym (append_assoc h.done (r ∷ []) left)) h.is_text;
        kept = subst Kept (sym more) kept;
        fit = subst Fit (sym more) fit;
        same = same ∙ h.same;
      }

  pub upgrading-end : (to : Stored) → IsUpgrading old stamp text size to [] → IsUpgraded old stamp text to to.count
  upgrading-end to h = grind (arith, nat_tests, append-nil, count-done)

  upgrading-full : (to : Stored) (r : Record) (left : List Record) (h : IsUpgrading old stamp text size to (r ∷ left))
      → size < new_extent old (one (stamped stamp r) ∷ all_stamped stamp h.done) → FillsUp old stamp text size to.count
  upgrading-full to r left h over = grind (arith, nat_tests, count-done)

-- what a push answers and keeps, by some enablings
abbrev pub Answers : EnabledRows → Stored → Record → Bool → Type 0
Answers new to q b =
    (ps : List Piece) → HasPieces (table_shape new.header (enabled new.rows)) (table_accepts new.header (enabled new.rows)) (table_text new.header (enabled new.rows)) to ps
    → b ≡ piece_fits (table_shape new.header (enabled new.rows)) ps (one q) to.size

abbrev pub Keeps : EnabledRows → Stored → Record → Stored → Type 0
Keeps new to q to' =
    (ps : List Piece) → HasPieces (table_shape new.header (enabled new.rows)) (table_accepts new.header (enabled new.rows)) (table_text new.header (enabled new.rows)) to ps
    → HasPieces (table_shape new.header (enabled new.rows)) (table_accepts new.header (enabled new.rows)) (table_text new.header (enabled new.rows)) to' (one q ∷ ps)

abbrev with_stamps : EnabledRows → EnabledRows
with_stamps old = record { header = Two; rows = old.rows }

module _ (old : EnabledRows) (stamp : ℕ) (text : List ℕ) (size : ℕ) where
  -- a record that was refused is the first that doesn't fit
  pub upgrading-refused : (to : Stored) (r q : Record) (left : List Record) (new : EnabledRows) (b : Bool) → IsUpgrading old stamp text size to (r ∷ left)
      → new ≡ with_stamps old → q ≡ stamped stamp r → Answers new to q b → b ≡ false → FillsUp old stamp text size to.count
  upgrading-refused to r q left new b h is same answer refused =
      let answer' : Answers (with_stamps old) to (stamped stamp r) b = subst (λ p. Answers (with_stamps old) to p b) same (subst (λ e. Answers e to q b) is answer) in
      let fit : b ≡ leb (new_extent old (one (stamped stamp r) ∷ all_stamped stamp h.done)) to.size = answer' (all_stamped stamp h.done) h.kept in
      let over : to.size < new_extent old (one (stamped stamp r) ∷ all_stamped stamp h.done) =
      leb-false (new_extent old (one (stamped stamp r) ∷ all_stamped stamp h.done)) to.size (sym fit ∙ refused) in
      upgrading-full old stamp text size to r left h (omega (arith, over, h.same))

  -- one that was kept is done
  pub upgrading-pushed : (to to' : Stored) (r q : Record) (left : List Record) (new : EnabledRows) (b : Bool) → IsUpgrading old stamp text size to (r ∷ left)
      → new ≡ with_stamps old → q ≡ stamped stamp r → Answers new to q b → b ≡ true → Keeps new to q to' → to'.size ≡ to.size → IsUpgrading old stamp text size to' left
  upgrading-pushed to to' r q left new b h is same answer pushed keeps long =
      let answer' : Answers (with_stamps old) to (stamped stamp r) b = subst (λ p. Answers (with_stamps old) to p b) same (subst (λ e. Answers e to q b) is answer) in
      let keeps' : Keeps (with_stamps old) to (stamped stamp r) to' = subst (λ p. Keeps (with_stamps old) to p to') same (subst (λ e. Keeps e to q to') is keeps) in
      let fit : b ≡ leb (new_extent old (one (stamped stamp r) ∷ all_stamped stamp h.done)) to.size = answer' (all_stamped stamp h.done) h.kept in
      let within : new_extent old (one (stamped stamp r) ∷ all_stamped stamp h.done) ≤ to.size =
      leb-true (new_extent old (one (stamped stamp r) ∷ all_stamped stamp h.done)) to.size (sym fit ∙ pushed) in
      upgrading-next old stamp text size to to' r left h (keeps' (all_stamped stamp h.done) h.kept) (omega (arith, within, h.same)) long

  -- the record that comes next is accepted with the stamp
  pub upgrading-next-accepted : (to : Stored) (r q : Record) (left : List Record) (new : EnabledRows) → stamp < 2 ^ 64 → IsUpgrading old stamp text size to (r ∷ left)
      → new ≡ with_stamps old → q ≡ stamped stamp r → IsTrue (table_accepts new.header (enabled new.rows) q)
  upgrading-next-accepted to r q left new small h is same = grind (arith, nat_tests, upgrading-accepted old stamp text size to r left small h)

  -- more records never reach less far
  reach : (xs ys : List Record) → stamp < 2 ^ 64 → AllAccepted (table_accepts old.header (enabled old.rows)) ys → new_extent old (all_stamped stamp xs) ≤ new_extent old (all_stamped stamp (xs ++ ys))
  reach xs [] small ok = grind (arith, nat_tests, append-nil)
  reach xs (y ∷ ys) small ok =
      let accepted : Record → Bool = table_accepts old.header (enabled old.rows) in
      let new_shape : ℕ → Option Shape = table_shape Two (enabled old.rows) in
      let facts = text_facts new_shape (table_accepts Two (enabled old.rows)) (table_text Two (enabled old.rows)) (laws_of Two old.rows) (stamped stamp y)
      (stamped-accepted old.header (enabled old.rows) y stamp small (first_accepted accepted y ys ok)) in
      let here : new_extent old (all_stamped stamp xs) ≤ new_extent old (one (stamped stamp y) ∷ all_stamped stamp xs) =
      reserved-ge (new_extent old (all_stamped stamp xs)) (align_of new_shape (stamped stamp y)) (size_of new_shape (stamped stamp y)) facts.aligned in
      let Here : List Piece → Type 0 = λ ps. new_extent old (all_stamped stamp xs) ≤ new_extent old ps in
      let one_on : new_extent old (all_stamped stamp xs) ≤ new_extent old (all_stamped stamp (xs ++ y ∷ [])) = subst Here (sym (one-more stamp xs y)) here in
      let others : new_extent old (all_stamped stamp (xs ++ y ∷ [])) ≤ new_extent old (all_stamped stamp (xs ++ y ∷ [] ++ ys)) = reach (xs ++ y ∷ []) ys small (others_accepted accepted y ys ok) in
      let Reach : List Record → Type 0 = λ rs. new_extent old (all_stamped stamp xs) ≤ new_extent old (all_stamped stamp rs) in
      let all : new_extent old (all_stamped stamp xs) ≤ new_extent old (all_stamped stamp (xs ++ y ∷ [] ++ ys)) = omega (arith, one_on, others) in
      subst Reach (append_assoc xs (y ∷ []) ys) all

  -- where one record doesn't fit, they don't all fit
  pub fills-not-upgradable : (n : ℕ) → stamp < 2 ^ 64 → FillsUp old stamp text size n → ¬ IsUpgradable old stamp text size
  fills-not-upgradable n small f u =
      let accepted : Record → Bool = table_accepts old.header (enabled old.rows) in
      let same : u.all ≡ f.before ++ f.first ∷ f.after =
      one_reading (table_shape old.header (enabled old.rows)) accepted (table_text old.header (enabled old.rows)) (laws_of old.header old.rows) 0 text u.all
      (f.before ++ f.first ∷ f.after) u.is_text f.is_text in
      let ok = text_accepted (table_shape old.header (enabled old.rows)) accepted (table_text old.header (enabled old.rows)) 0 text (f.before ++ f.first ∷ f.after) f.is_text in
      let after : AllAccepted accepted f.after = others_accepted accepted f.first f.after (back_accepted accepted f.before (f.first ∷ f.after) ok) in
      let on : new_extent old (all_stamped stamp (f.before ++ f.first ∷ [])) ≤ new_extent old (all_stamped stamp (f.before ++ f.first ∷ [] ++ f.after)) =
      reach (f.before ++ f.first ∷ []) f.after small after in
      let whole : new_extent old (all_stamped stamp (f.before ++ f.first ∷ [] ++ f.after)) ≡ new_extent old (all_stamped stamp u.all) =
      ap (λ rs. new_extent old (all_stamped stamp rs)) (append_assoc f.before (f.first ∷ []) f.after ∙ sym same) in
      let first : new_extent old (all_stamped stamp (f.before ++ f.first ∷ [])) ≡ new_extent old (one (stamped stamp f.first) ∷ all_stamped stamp f.before) =
      ap (new_extent old) (one-more stamp f.before f.first) in
      omega (arith, on, whole, first, f.over, u.fit)
