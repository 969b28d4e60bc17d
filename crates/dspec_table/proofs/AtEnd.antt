-- All seats are back.
use Rattle.std.proofs.Common.{◌≡◌, ◌⊎◌, ◌≤◌, ◌<◌, ◌^◌, arith, ℕ, zero, suc, List, [], ◌∷◌, ◌++◌, length, Some, refl, sym, ap, ◌∙◌, subst, ⊎_elim, inl, inr}
use Rattle.std.proofs.lemmas.Bool.Decides.{nat_tests}
use Rattle.std.specs.Prelude.{slice_get, slice_index}
use mathlib.Core.Option.{some, some-injective, some-ne-none}
use lib.ListN.{get_elem?}
use Rattle.atomic_table.specs.{Seated.TableId, Table.Final, Table.Seen}
use Rattle.dspec_table.specs.Words.{Config, Deed, Holder, of_cpu, of_consumer, part_of, Since, HasAuthors, IsSound, Shows, AreWords, IsWordNumber, ask_place, WordsRule, Parts, Remembers, Least}
use Rattle.dspec_table.specs.Words.{holdings, known, In, AllAt, Joined, Recalled, Ended, past_of}
use Rattle.dspec_table.specs.declared.{rule.View.View, seats.CpuSeat.CpuSeat}
use Rattle.dspec_table.proofs.{Dealing.got_pushed, Limits.shown_number, Pasts.each_in, Pasts.others_since}

in_front : {A : Type 0} (p : A) (ps qs : List A) → In p ps → In p (ps ++ qs)
in_front p [] qs i = absurd i
in_front p (x ∷ xs) qs i = ⊎_elim (λ e. inl e) (λ r. inr (in_front p xs qs r)) i

in_after : {A : Type 0} (p : A) (ps qs : List A) → In p (ps ++ p ∷ qs)
in_after p [] qs = inl refl
in_after p (x ∷ xs) qs = inr (in_after p xs qs)

-- what is taken of each seat, from those that are left or from those joined
pub joined_more : {A : Type 0} (f : CpuSeat → A) (all left : List CpuSeat) (next : CpuSeat) (also more : List A)
    → ((c : ℕ) (s : CpuSeat) → slice_get all c ≡ Some s → (slice_get (left ++ next ∷ []) c ≡ Some s) ⊎ In (f s) also)
    → (c : ℕ) (s : CpuSeat) → slice_get all c ≡ Some s → (slice_get left c ≡ Some s) ⊎ In (f s) (also ++ f next ∷ more)
joined_more f all left next also more before c s e = ⊎_elim
    (λ (there : slice_get (left ++ next ∷ []) c ≡ Some s). ⊎_elim
    (λ old. inl old)
    (λ (new : (c ≡ length left) × (next ≡ s)). inr (subst (λ (x : CpuSeat). In (f x) (also ++ f next ∷ more)) new.1 (in_after (f next) also more)))
    (got_pushed left next s c there))
    (λ i. inr (in_front (f s) also (f next ∷ more) i))
    (before c s e)

pub got_front : (xs : List CpuSeat) (x : CpuSeat) (c : ℕ) (s : CpuSeat) → slice_get xs c ≡ Some s → slice_get (xs ++ x ∷ []) c ≡ Some s
got_front [] x c s e = absurd (cc (e))
got_front (y ∷ ys) x zero s e = e
got_front (y ∷ ys) x (suc c) s e = got_front ys x c s e

pub got_last : (xs : List CpuSeat) (x : CpuSeat) → slice_get (xs ++ x ∷ []) (length xs) ≡ Some x
got_last [] x = refl
got_last (y ∷ ys) x = got_last ys x

pub part_in : (log : List Deed) (ps : List (Holder × List Deed)) (p : Holder × List Deed) → Parts log ps → In p ps → part_of p.0 log ≡ p.1
part_in log [] p all i = absurd i
part_in log (x ∷ xs) p all i = ⊎_elim (λ (e : p ≡ x). subst (λ (y : Holder × List Deed). part_of y.0 log ≡ y.1) (sym e) all.0) (λ r. part_in log xs p all.1 r) i

pub ends : (key k : Config) (z : TableId) (id : ℕ) (v first : View) (seats : List CpuSeat) (ws xs : List ℕ) → key ≡ k → v.who ≡ first.who → v.own ≡ first.own
    → first.who ≡ of_consumer → v.seen ≡ first.seen → v.asks ≡ first.asks
    → ((c : ℕ) (s : CpuSeat) → slice_get seats c ≡ Some s → s.cpu ≡ c) → Joined seats v → Recalled seats v → Final (Seen (WordsRule key) id v) ws xs → Ended k ws seats first
ends key k z id v first seats ws xs is who own consumer seen asks order joined recalled final =
    let st = final.0 in
    let kept = final.1.0 in
    let log = kept.log in
    let mine = kept.knows id v final.1.1 in
    let told = kept.asks id v final.1.1 in
    let few : (c : ℕ) → c < k.cpus → c < key.cpus = λ c lt. subst (λ (x : Config). c < x.cpus) (sym is) lt in
    let stands : (c : ℕ) → c < k.cpus → slice_index ws (ask_place k c) ≡ slice_index first.asks c =
    λ c lt. ap (λ (x : Config). slice_index ws (ask_place x c)) (sym is) ∙ (ap (λ l. slice_index l (ask_place key c)) (sym final.2)
    ∙ (sym (told.exact (who ∙ consumer) c (few c lt)) ∙ ap (λ l. slice_index l c) asks)) in
    record {
      log = log;
      sound = subst (λ x. IsSound x log) is kept.sound;
      rests = kept.rests;
      shows = subst (λ x. Shows x ws log) is (subst (λ l. Shows key l log) final.2 kept.shows);
      authors = subst (λ x. HasAuthors x log) is kept.authors;
      of_each = λ c s e. ap (λ x. part_of x log) (ap of_cpu (sym (order c s e)) ∙ sym s.who_is) ∙ part_in log v.also ((known s).who, (known s).own) mine.parts.1 (joined c s e);
      of_consumer = ap (λ x. part_of x log) (sym consumer ∙ sym who) ∙ (mine.parts.0 ∙ own);
      since_each = λ c s e.
          let past : Remembers log (past_of (known s)) = each_in (Remembers log) v.past (past_of (known s)) mine.past (recalled c s e) in
          let part : part_of (known s).who log ≡ (known s).own = part_in log v.also ((known s).who, (known s).own) mine.parts.1 (joined c s e) in
          subst (λ x. Since x (known s).seen log) (s.who_is ∙ ap of_cpu (order c s e)) (others_since (known s).who (known s).seen log (past.own ∙ sym part) past.since);
      since_consumer = subst (λ x. Since x first.seen log) (who ∙ consumer) (subst (λ l. Since v.who l log) seen mine.since);
      asks = stands;
      asked = λ c s e a lt.
          let low = each_in (λ p. Least key st.words p.asks) v.past (past_of (known s)) told.past (recalled c s e) a (few a lt) in
          let here = stands a lt in
          let at : slice_index st.words (ask_place key a) ≡ slice_index ws (ask_place k a) =
          ap (λ (x : Config). slice_index st.words (ask_place x a)) is ∙ ap (λ l. slice_index l (ask_place k a)) final.2 in
          omega arith;
    }

-- the places of the slots have words at the end
pub ends_in_words : (key k : Config) (id : ℕ) (v : View) (ws xs : List ℕ) → key ≡ k → k.max_issues ≤ 2 ^ 57 → Final (Seen (WordsRule key) id v) ws xs → AreWords k ws
ends_in_words key k id v ws xs is few final s one most =
    let kept = final.1.0 in
    let few' : key.max_issues ≤ 2 ^ 57 = subst (λ (x : Config). x.max_issues ≤ 2 ^ 57) (sym is) few in
    let most' : s ≤ key.nspec = subst (λ (x : Config). s ≤ x.nspec) (sym is) most in
    let shows = subst (λ l. Shows key l kept.log) final.2 kept.shows in
    subst IsWordNumber (sym (shows.slots s one most')) (shown_number key s kept.log few' kept.sound)

pub got_is : (xs : List ℕ) (i n : ℕ) → get_elem? xs i ≡ some n → slice_index xs i ≡ n
got_is [] i n e = absurd (some-ne-none n (sym e))
got_is (x ∷ xs) zero n e = some-injective x n e
got_is (x ∷ xs) (suc i) n e = got_is xs i n e

-- one turn of the loop that takes the seats back
module _ (z : TableId) (items left : List CpuSeat) (next : CpuSeat) (popped : items ≡ left ++ next ∷ []) where
  pub at_last : AllAt z items → next.seat.table_id ≡ z
  at_last at = at (length left) next (subst (λ l. slice_get l (length left) ≡ Some next) (sym popped) (got_last left next))

  pub at_rest : AllAt z items → AllAt z left
  at_rest at c s e = at c s (subst (λ l. slice_get l c ≡ Some s) (sym popped) (got_front left next c s e))

  taken_rest : {A : Type 0} (f : CpuSeat → A) (all : List CpuSeat) (also more there : List A) → there ≡ also ++ f next ∷ more
      → ((c : ℕ) (s : CpuSeat) → slice_get all c ≡ Some s → (slice_get items c ≡ Some s) ⊎ In (f s) also)
      → (c : ℕ) (s : CpuSeat) → slice_get all c ≡ Some s → (slice_get left c ≡ Some s) ⊎ In (f s) there
  taken_rest f all also more there is before c s e = grind (arith, nat_tests, joined_more)

  pub joined_rest : (all : List CpuSeat) (v w : View) → w.also ≡ v.also ++ holdings (known next)
      → ((c : ℕ) (s : CpuSeat) → slice_get all c ≡ Some s → (slice_get items c ≡ Some s) ⊎ In ((known s).who, (known s).own) v.also)
      → (c : ℕ) (s : CpuSeat) → slice_get all c ≡ Some s → (slice_get left c ≡ Some s) ⊎ In ((known s).who, (known s).own) w.also
  joined_rest all v w is before = taken_rest (λ s. ((known s).who, (known s).own)) all v.also (known next).also w.also is before

  pub recalled_rest : (all : List CpuSeat) (v w : View) → w.past ≡ v.past ++ past_of (known next) ∷ (known next).past
      → ((c : ℕ) (s : CpuSeat) → slice_get all c ≡ Some s → (slice_get items c ≡ Some s) ⊎ In (past_of (known s)) v.past)
      → (c : ℕ) (s : CpuSeat) → slice_get all c ≡ Some s → (slice_get left c ≡ Some s) ⊎ In (past_of (known s)) w.past
  recalled_rest all v w is before = taken_rest (λ s. past_of (known s)) all v.past (known next).past w.past is before
