-- Only the present speculation of a slot can be open.
use Rattle.std.proofs.Common.{◌≡◌, ◌≢◌, suc, ◌<◌, true, false, ◌==◌, List, [], ◌∷◌, if◌then◌else◌, refl, sym, ap, ◌∙◌, subst, ⊎_elim, arith, true≢false}
use Rattle.std.proofs.lemmas.Bool.Decides.{nat_tests}
use Rattle.dspec_deeds.specs.Words.{Speculation, same_id, issue, releases, present, opens, opened, Ruling, undecided, committed, discarded, verdict, is_undecided, is_open, IsSound}
use Rattle.dspec_deeds.specs.declared.{config.Config.Config, deed.Deed.Deed, deed.Deed.TheVariants.Opened, deed.Deed.TheVariants.Release}
use Rattle.dspec_deeds.proofs.{SoundLists.opened_by_now, SoundLists.unseen, TestLemmas.either_way, TestLemmas.off, TestLemmas.and_tells, TestLemmas.same_number, TestLemmas.same_id_tells}

-- nothing decided is open
pub decided_shut : (id : Speculation) (h : List Deed) → is_undecided (verdict id h) ≡ false → is_open id h ≡ false
decided_shut id h e = grind arith

-- what was not open stays so, where it is not given out
stays_shut : (id : Speculation) (d : Deed) (h : List Deed) → opens id d ≡ false → is_open id h ≡ false → is_open id (d ∷ h) ≡ false
stays_shut id d h not_given shut = grind arith

-- a speculation of an earlier issue is not open
pub past_shut : (k : Config) (h : List Deed) (id : Speculation) → IsSound k h → id.issue < issue id.slot h → is_open id h ≡ false
past_shut k [] id s past = absurd (omega arith)
past_shut k (d ∷ h) id s past = ⊎_elim
    (λ (t : releases id.slot d ≡ true). released d s (past_shut k h id s.0) t (subst (λ b. id.issue < (if b then suc (issue id.slot h) else issue id.slot h)) t past))
    (λ (f : releases id.slot d ≡ false).
    let before : id.issue < issue id.slot h = subst (λ b. id.issue < (if b then suc (issue id.slot h) else issue id.slot h)) f past in
    stays_shut id d h (not_given d s before) (past_shut k h id s.0 before))
    (either_way (releases id.slot d))
  where
    not_given : (d : Deed) → IsSound k (d ∷ h) → id.issue < issue id.slot h → opens id d ≡ false
    not_given (Opened c j) s before = ⊎_elim
        (λ (t : same_id id j ≡ true). let now : j.issue ≡ issue j.slot h = s.1.1.3 in let e : id.issue
        ≡ issue id.slot h = subst (λ (x : Speculation). x.issue ≡ issue x.slot h) (sym (same_id_tells id j t)) now in absurd (omega arith))
        (λ f. f)
        (either_way (same_id id j))
    not_given d s before = refl

    released : (d : Deed) → IsSound k (d ∷ h) → (id.issue < issue id.slot h → is_open id h ≡ false) → releases id.slot d ≡ true → id.issue < suc (issue id.slot h) → is_open id (d ∷ h) ≡ false
    released (Release n) s ih t le = ⊎_elim
        (λ (now : (id.issue == issue id.slot h) ≡ true).
        let slot = same_number id.slot n t in
        let is : id ≡ present n h = λ i. record { issue = (same_number id.issue (issue id.slot h) now ∙ ap (λ x. issue x h) slot) i; slot = slot i } in
        decided_shut id h (subst (λ j. is_undecided (verdict j h) ≡ false) (sym is) s.1.1.0.0))
        (λ (older : (id.issue == issue id.slot h) ≡ false). let before : id.issue < issue id.slot h = grind (arith, nat_tests) in ih before)
        (either_way (id.issue == issue id.slot h))
    released d s ih t le = absurd (true≢false (sym t))

-- only the present speculation of a slot can be open
pub open_is_present : (k : Config) (h : List Deed) (id : Speculation) → IsSound k h → issue id.slot h ≢ id.issue → is_open id h ≡ false
open_is_present k h id s other = grind (arith, nat_tests, opened_by_now, past_shut)

-- the identifier of the present issue is the present speculation
pub present_is : (id : Speculation) (h : List Deed) → issue id.slot h ≡ id.issue → present id.slot h ≡ id
present_is id h e = λ i. record { issue = e i; slot = id.slot }

-- what is open is of the present issue of its slot
pub open_is_now : (k : Config) (h : List Deed) (id : Speculation) → IsSound k h → is_open id h ≡ true → issue id.slot h ≡ id.issue
open_is_now k h id s now = grind (arith, nat_tests, same_number, open_is_present, off)

-- an open speculation is its slot's present one, given out and undecided
pub record IsPresent (id : Speculation) (h : List Deed) : Type 0 where
  pub now : issue id.slot h ≡ id.issue
  pub is : present id.slot h ≡ id
  pub given : opened id h ≡ true
  pub free : verdict id h ≡ undecided

-- what the test of a decision tells
is_undecided_tells : (v : Ruling) → is_undecided v ≡ true → v ≡ undecided
is_undecided_tells undecided e = refl
is_undecided_tells (committed c) e = absurd (true≢false (sym e))
is_undecided_tells (discarded c) e = absurd (true≢false (sym e))

-- what is open is present
pub open_present : (k : Config) (h : List Deed) (id : Speculation) → IsSound k h → is_open id h ≡ true → IsPresent id h
open_present k h id s now = grind (arith, nat_tests, and_tells, open_is_now, present_is, is_undecided_tells)

-- a later speculation of a slot was not given out
pub later_unopened : (k : Config) (h : List Deed) (id : Speculation) → IsSound k h → issue id.slot h < id.issue → opened id h ≡ false
later_unopened k h id s later = grind (arith, nat_tests, opened_by_now)

-- what was decided was given out
pub decided_given : (k : Config) (h : List Deed) (id : Speculation) → IsSound k h → is_undecided (verdict id h) ≡ false → opened id h ≡ true
decided_given k h id s e = grind (arith, nat_tests, unseen)
