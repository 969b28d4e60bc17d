-- What the conditions on the next deed come to over a whole list.
use Rattle.std.proofs.Common.{◌≡◌, ℕ, ◌+◌, ◌≤◌, ◌<◌, true, false, not, ◌&&◌, List, [], ◌∷◌, None, refl, sym, ap, ◌∙◌, subst, ⊎_elim, arith, true≢false}
use Rattle.std.proofs.lemmas.Bool.Decides.{nat_tests}
use Rattle.std.specs.Prelude.{nat_lt}
use Rattle.dspec_deeds.specs.Words.{Speculation, is_halt, halted, issue, opens, opened, solo, solo_of, settles, settled, late, IsSound, is_drop, growing, batches, total, one_if, settlements}
use Rattle.dspec_deeds.specs.Words.{SettlesOnce, goes_on, late_calls, IsGivenBelow, drops_of}
use Rattle.dspec_deeds.specs.declared.{config.Config.Config, deed.Deed.Deed, deed.Deed.TheVariants.Opened, deed.Deed.TheVariants.Settle}
use Rattle.dspec_deeds.proofs.{Acked.settled_decided, PresentIds.decided_shut, StayingDecided.shut_stays, TestLemmas.either_way, TestLemmas.off, TestLemmas.and_tells, TestLemmas.or_none}
use Rattle.dspec_deeds.proofs.{TestLemmas.or_tells, TestLemmas.same_id_tells}

-- a CPU that has settled isn't one that settles now
settles_new : (k : Config) (c : ℕ) (id : Speculation) (d : Deed) (h : List Deed) → IsSound k (d ∷ h) → settles c id d ≡ true → (settled c id h ≡ false) × (solo id h ≡ None)
settles_new k c id d h h1 h2 = grind arith

-- none where it hasn't settled
no_settlement : (c : ℕ) (id : Speculation) (h : List Deed) → settled c id h ≡ false → settlements c id h ≡ 0
no_settlement c id [] e = refl
no_settlement c id (d ∷ h) e = let both = or_none (settles c id d) (settled c id h) e in
    let here : one_if (settles c id d) ≡ 0 = ap one_if both.0 in
    let rest = no_settlement c id h both.1 in
    omega arith

settled_at_most : (k : Config) (c : ℕ) (id : Speculation) (h : List Deed) → IsSound k h → settlements c id h ≤ 1
settled_at_most k c id [] sound = omega arith
settled_at_most k c id (d ∷ h) sound = grind (arith, nat_tests, settled_at_most k c id h sound.0, no_settlement, settles_new)

-- a settlement decides nothing, and calls nobody
settle_leaves : (c : ℕ) (id : Speculation) (d : Deed) (h : List Deed) → settles c id d ≡ true → solo id (d ∷ h) ≡ solo id h
settle_leaves c id (Settle a j f) h t = refl
settle_leaves c id d h t = absurd (true≢false (sym t))

settled_not_alone : (k : Config) (c : ℕ) (id : Speculation) (h : List Deed) → IsSound k h → settled c id h ≡ true → solo id h ≡ None
settled_not_alone k c id [] sound e = absurd (true≢false (sym e))
settled_not_alone k c id (d ∷ h) sound e = ⊎_elim
    (λ (t : settles c id d ≡ true). settle_leaves c id d h t ∙ (settles_new k c id d h sound t).1)
    (λ (t : settled c id h ≡ true).
    let same = shut_stays k d h id sound (decided_shut id h (settled_decided k c id h sound.0 t)) in
    (λ i. solo_of (same.0 i) (same.1 i)) ∙ settled_not_alone k c id h sound.0 t)
    (or_tells (settles c id d) (settled c id h) e)

pub settles_once : (k : Config) (c : ℕ) (id : Speculation) (h : List Deed) → IsSound k h → SettlesOnce c id h
settles_once k c id h sound = grind (arith, nat_tests, settled_at_most, settled_decided, settled_not_alone)

-- a call that goes on after the stop is of a CPU that has done nothing since
goes_on_early : (k : Config) (c : ℕ) (d : Deed) (h : List Deed) → IsSound k (d ∷ h) → halted h ≡ true → goes_on c d ≡ true → (late c h ≡ false) × (late c (d ∷ h) ≡ true)
goes_on_early k c d h sound stop goes = grind (arith, nat_tests)

-- who is late stays late
stays_late : (k : Config) (c : ℕ) (d : Deed) (h : List Deed) → IsSound k (d ∷ h) → halted h ≡ true → late c (d ∷ h) ≡ false → late c h ≡ false
stays_late k c d h sound stop e = grind arith

-- one at most, and none of a CPU that has done nothing since the stop
record AreFew (c : ℕ) (h : List Deed) : Type 0 where
  pub most : late_calls c h ≤ 1
  pub none : late c h ≡ false → late_calls c h ≡ 0

running_few : (c : ℕ) (h : List Deed) → halted h ≡ false → late_calls c h ≡ 0
running_few c [] e = refl
running_few c (d ∷ h) e = let both = or_none (is_halt d) (halted h) e in
    let here : one_if (halted h && goes_on c d) ≡ 0 = ap (λ b. one_if (b && goes_on c d)) both.1 in
    let rest = running_few c h both.1 in
    omega arith

few : (k : Config) (c : ℕ) (h : List Deed) → IsSound k h → AreFew c h
few k c [] sound = record { most = omega arith; none = λ e. refl }
few k c (d ∷ h) sound = let was = few k c h sound.0 in ⊎_elim
    (λ (t : (halted h && goes_on c d) ≡ true).
    let both = and_tells (halted h) (goes_on c d) t in
    let early = goes_on_early k c d h sound both.0 both.1 in
    let here : one_if (halted h && goes_on c d) ≡ 1 = ap one_if t in
    let rest = was.none early.0 in
    record { most = omega arith; none = λ e. off (late c (d ∷ h)) early.1 e })
    (λ (f : (halted h && goes_on c d) ≡ false).
    let here : one_if (halted h && goes_on c d) ≡ 0 = ap one_if f in
    let most = was.most in
    record {
      most = omega arith;
      none = λ e. ⊎_elim
          (λ (stop : halted h ≡ true). let rest = was.none (stays_late k c d h sound stop e) in omega arith)
          (λ (runs : halted h ≡ false). let rest = running_few c h runs in omega arith)
          (either_way (halted h));
    })
    (either_way (halted h && goes_on c d))

pub late_once : (k : Config) (c : ℕ) (h : List Deed) → IsSound k h → late_calls c h ≤ 1
late_once k c h sound = (few k c h sound).most

-- what was given out was of a slot that isn't retired
pub given_below : (k : Config) (h : List Deed) → IsSound k h → IsGivenBelow k h
given_below k [] sound id e = absurd (true≢false (sym e))
given_below k (d ∷ h) sound id e = ⊎_elim (here d sound) (λ t. given_below k h sound.0 id t) (or_tells (opens id d) (opened id h) e)
  where
    here : (d : Deed) → IsSound k (d ∷ h) → opens id d ≡ true → id.issue < k.max_issues
    here (Opened a j) s t =
        let free = s.1.1.2 in
        let now : j.issue ≡ issue j.slot h = s.1.1.3 in
        let low : nat_lt (issue j.slot h) k.max_issues ≡ true = (and_tells (not (opened record { issue = issue j.slot h; slot = j.slot } h)) (nat_lt (issue j.slot h) k.max_issues) free).1 in
        let less : j.issue < k.max_issues = grind (arith, nat_tests) in
        subst (λ (x : Speculation). x.issue < k.max_issues) (sym (same_id_tells id j t)) less
    here d s t = absurd (true≢false (sym t))

-- the drops of a CPU's batches, and of what grows, are the CPU's drops
pub drops_add_up : (c : ℕ) (h : List Deed) → drops_of (batches c h) + (growing c h).drops ≡ total (λ d. one_if (is_drop c d)) h
drops_add_up c [] = refl
drops_add_up c (d ∷ h) = grind (arith, nat_tests, drops_add_up c h)
