-- That a service settles a speculation that is decided, and a clean releases one that all have settled.
use Prim.Native.Nat.{zero, suc}
use Rattle.std.proofs.Common.{◌≡◌, ◌≤◌, ◌<◌, ◌⊎◌, inl, inr, ℕ, Bool, true, false, not, ◌&&◌, ◌||◌, ◌==◌, List, [], ◌∷◌, ◌++◌, Option, None, is_none, if◌then◌else◌, refl, sym, ap, ◌∙◌, subst, ⊎_elim}
use Rattle.std.proofs.Common.{arith}
use Rattle.std.proofs.lemmas.Bool.Decides.{nat_tests}
use Rattle.dspec_interleaving.specs.Words.{Shape, Speculation, issue, present, verdict, is_undecided, solo, solo_of, settled, same_id, IsSound, owes, settled_at, settled_up, settles_as, all_settled}
use Rattle.dspec_interleaving.specs.Words.{is_reapable, cleaned_at, cleaned_up, IsReleased, Config, Deed, Settle, Release}
use Rattle.dspec_deeds.proofs.{Acked.settled_stays, PresentIds.decided_shut, PresentIds.present_is, PresentIds.decided_given, SoundLists.opened_by_now, StayingDecided.shut_stays}
use Rattle.dspec_deeds.proofs.{TestLemmas.either_way, TestLemmas.and_tells, TestLemmas.number_is_itself, TestLemmas.id_is_itself}
use Rattle.dspec_interleaving.proofs.{CleanedParts.IsQuiet, CleanedParts.cleaned_up_rests, WholeSettling.IsAtRest, WholeSettling.settled_up_rests, WholeStates.Grows, WholeStates.grows_twice}
use Rattle.dspec_interleaving.proofs.{WholeStates.released_stays}

-- the speculation was decided, by no CPU alone
pub record IsShared (id : Speculation) (h : List Deed) : Type 0 where
  pub ruled : is_undecided (verdict id h) ≡ false
  pub shared : solo id h ≡ None

-- it stays so
shared_more : (k : Config) (id : Speculation) (ds h : List Deed) → IsSound k (ds ++ h) → IsShared id h → IsShared id (ds ++ h)
shared_more k id [] h sound s = s
shared_more k id (d ∷ ds) h sound s =
    let low = shared_more k id ds h sound.0 s in
    let same = shut_stays k d (ds ++ h) id sound (decided_shut id (ds ++ h) low.ruled) in
    record { ruled = ap is_undecided same.0 ∙ low.ruled; shared = (λ i. solo_of (same.0 i) (same.1 i)) ∙ low.shared }

pub shared_stays : (k : Config) (id : Speculation) (h now : List Deed) → Grows h now → IsSound k now → IsShared id h → IsShared id now
shared_stays k id h now g sound s = subst (IsShared id) (sym g.is) (shared_more k id g.deeds h (subst (IsSound k) g.is sound) s)

pub settled_more : (c : ℕ) (id : Speculation) (h now : List Deed) → Grows h now → settled c id h ≡ true → settled c id now ≡ true
settled_more c id h now g s = subst (λ l. settled c id l ≡ true) (sym g.is) (go g.deeds)
  where
    go : (ds : List Deed) → settled c id (ds ++ h) ≡ true
    go [] = s
    go (d ∷ ds) = settled_stays c id d (ds ++ h) (go ds)

-- a decided speculation whose slot wasn't released since is the slot's present one
pub unreleased : (k : Config) (id : Speculation) (h : List Deed) → IsSound k h → is_undecided (verdict id h) ≡ false → IsReleased id h ⊎ (issue id.slot h ≡ id.issue)
unreleased k id h sound ruled =
    let low = opened_by_now k h id sound (decided_given k h id sound ruled) in
    ⊎_elim
    (λ (t : (issue id.slot h == id.issue) ≡ true). let now : issue id.slot h ≡ id.issue = grind (arith, nat_tests) in inr now)
    (λ (f : (issue id.slot h == id.issue) ≡ false). let past : id.issue < issue id.slot h = grind (arith, nat_tests) in inl past)
    (either_way (issue id.slot h == id.issue))

-- a list with a deed more, or as it is
grows_if : (b : Bool) (d : Deed) (h : List Deed) → Grows h (if b then d ∷ h else h)
grows_if true d h = record { deeds = d ∷ []; is = refl }
grows_if false d h = record { deeds = []; is = refl }

module _ (shape : ℕ → Option Shape) (k : Config) (c : ℕ) (id : Speculation) where
  -- what a service leaves of a slot
  settled_at_grows : (s : ℕ) (h : List Deed) → Grows h (settled_at shape k c s h)
  settled_at_grows s h = grows_if (owes shape k c s h) _ h

  settled_at_issue : (t s : ℕ) (h : List Deed) → issue t (settled_at shape k c s h) ≡ issue t h
  settled_at_issue t s h = go (owes shape k c s h)
    where
      go : (b : Bool) → issue t (if b then Settle c (present s h) (settles_as shape k c (verdict (present s h) h) (present s h) h) ∷ h else h) ≡ issue t h
      go true = refl
      go false = refl

  settles_present : (h : List Deed) → IsShared id h → issue id.slot h ≡ id.issue → settled c id (settled_at shape k c id.slot h) ≡ true
  settles_present h s now = ⊎_elim
      (λ (t : settled c id h ≡ true). settled_more c id h _ (settled_at_grows id.slot h) t)
      (λ (f : settled c id h ≡ false).
      let is : present id.slot h ≡ id = present_is id h now in
      let owing : owes shape k c id.slot h ≡ true = ap (λ j. not (is_undecided (verdict j h)) && (is_none (solo j h) && not (settled c j h))) is
      ∙ (λ i. not (s.ruled i) && (is_none (s.shared i) && not (f i))) in
      let here : settled c id (Settle c (present id.slot h) (settles_as shape k c (verdict (present id.slot h) h) (present id.slot h) h) ∷ h) ≡ true =
      rw (number_is_itself c) (ap (λ j. same_id id j || settled c id h) is ∙ ap (λ b. b || settled c id h) (id_is_itself id)) in
      ap (λ (b : Bool). settled c id (if b then Settle c (present id.slot h) (settles_as shape k c (verdict (present id.slot h) h) (present id.slot h) h) ∷ h else h)) owing ∙ here)
      (either_way (settled c id h))

  settled_up_grows : (n : ℕ) (h : List Deed) → Grows h (settled_up shape k c n h)
  settled_up_grows zero h = record { deeds = []; is = refl }
  settled_up_grows (suc n) h = grows_twice h _ _ (settled_up_grows n h) (settled_at_grows (suc n) (settled_up shape k c n h))

  settled_up_issue : (t n : ℕ) (h : List Deed) → issue t (settled_up shape k c n h) ≡ issue t h
  settled_up_issue t zero h = refl
  settled_up_issue t (suc n) h = settled_at_issue t (suc n) (settled_up shape k c n h) ∙ settled_up_issue t n h

  -- a service settles what is decided, whose slot is among the first
  pub settles_by : (n : ℕ) (h : List Deed) → IsAtRest k c h → IsShared id h → issue id.slot h ≡ id.issue → 1 ≤ id.slot → id.slot ≤ n → settled c id (settled_up shape k c n h) ≡ true
  settles_by zero h at s now one le = absurd (omega arith)
  settles_by (suc n) h at s now one le = ⊎_elim
      (λ (t : (id.slot == suc n) ≡ true).
      let same : id.slot ≡ suc n = grind (arith, nat_tests) in
      subst (λ m. settled c id (settled_at shape k c m (settled_up shape k c n h)) ≡ true) same
      (settles_present (settled_up shape k c n h) (shared_stays k id h _ (settled_up_grows n h) (settled_up_rests shape k c n h at).sound s) (settled_up_issue id.slot n h ∙ now)))
      (λ (f : (id.slot == suc n) ≡ false).
      let below : id.slot ≤ n = grind (arith, nat_tests) in
      settled_more c id (settled_up shape k c n h) _ (settled_at_grows (suc n) (settled_up shape k c n h)) (settles_by n h at s now one below))
      (either_way (id.slot == suc n))

module _ (k : Config) (id : Speculation) where
  cleaned_at_grows : (s : ℕ) (h : List Deed) → Grows h (cleaned_at k s h)
  cleaned_at_grows s h = grows_if (is_reapable k s h) _ h

  cleaned_up_grows : (n : ℕ) (h : List Deed) → Grows h (cleaned_up k n h)
  cleaned_up_grows zero h = record { deeds = []; is = refl }
  cleaned_up_grows (suc n) h = grows_twice h _ _ (cleaned_up_grows n h) (cleaned_at_grows (suc n) (cleaned_up k n h))

  all_settled_more : (n : ℕ) (h now : List Deed) → Grows h now → all_settled k n id h ≡ true → all_settled k n id now ≡ true
  all_settled_more zero h now g e = refl
  all_settled_more (suc n) h now g e =
      let both = and_tells (all_settled k n id h) (settled n id h) e in
      ap (λ b. b && settled n id now) (all_settled_more n h now g both.0) ∙ settled_more n id h now g both.1

  releases_present : (h : List Deed) → IsShared id h → all_settled k k.cpus id h ≡ true → issue id.slot h ≡ id.issue → IsReleased id (cleaned_at k id.slot h)
  releases_present h s all now =
      let is : present id.slot h ≡ id = present_is id h now in
      let reapable : is_reapable k id.slot h ≡ true = ap (λ j. not (is_undecided (verdict j h)) && (is_none (solo j h) && all_settled k k.cpus j h)) is
      ∙ (λ i. not (s.ruled i) && (is_none (s.shared i) && all i)) in
      subst (λ (b : Bool). IsReleased id (if b then Release id.slot ∷ h else h)) (sym reapable) (rw (number_is_itself id.slot) (omega arith))

  -- a clean releases what every CPU has settled, whose slot is among the first
  pub releases_by : (n : ℕ) (h : List Deed) → IsQuiet k h → IsShared id h → all_settled k k.cpus id h ≡ true → 1 ≤ id.slot → id.slot ≤ n → IsReleased id (cleaned_up k n h)
  releases_by zero h q s all one le = absurd (omega arith)
  releases_by (suc n) h q s all one le = ⊎_elim
      (λ (t : (id.slot == suc n) ≡ true).
      let same : id.slot ≡ suc n = grind (arith, nat_tests) in
      let g = cleaned_up_grows n h in
      let sound = (cleaned_up_rests k n h q).sound in
      let s' = shared_stays k id h _ g sound s in
      ⊎_elim
      (λ (r : IsReleased id (cleaned_up k n h)). released_stays id (cleaned_up k n h) _ (cleaned_at_grows (suc n) (cleaned_up k n h)) r)
      (λ (now : issue id.slot (cleaned_up k n h) ≡ id.issue). subst (λ m. IsReleased id (cleaned_at k m (cleaned_up k n h))) same
      (releases_present (cleaned_up k n h) s' (all_settled_more k.cpus h _ g all) now))
      (unreleased k id (cleaned_up k n h) sound s'.ruled))
      (λ (f : (id.slot == suc n) ≡ false).
      let below : id.slot ≤ n = grind (arith, nat_tests) in
      released_stays id (cleaned_up k n h) _ (cleaned_at_grows (suc n) (cleaned_up k n h)) (releases_by n h q s all one below))
      (either_way (id.slot == suc n))
