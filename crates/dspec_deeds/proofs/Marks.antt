-- The mark of a slot tells of its present speculation whether the CPU is a caller.
use Rattle.std.proofs.Common.{◌≡◌, ℕ, suc, ◌+◌, ◌≤◌, Bool, true, false, ◌&&◌, ◌==◌, List, [], ◌∷◌, Some, None, if◌then◌else◌, refl, sym, ap, ◌∙◌, subst, ⊎_elim, arith, true≢false}
use Rattle.std.proofs.lemmas.Bool.Decides.{nat_tests}
use Rattle.dspec_deeds.specs.Words.{Speculation, spoken_granted, spoken_stopped, same_id, is_among, issue, present, opened, is_open, callers, joined, part, mark, IsSound}
use Rattle.dspec_deeds.specs.declared.{calls.Actor.TheVariants.Cpu, config.Config.Config, deed.Deed.Deed, deed.Deed.TheVariants.Trace, deed.Deed.TheVariants.Scan, deed.Deed.TheVariants.Opened}
use Rattle.dspec_deeds.specs.declared.{deed.Deed.TheVariants.Miss, deed.Deed.TheVariants.Speculate, deed.Deed.TheVariants.Commit, deed.Deed.TheVariants.Discard, deed.Deed.TheVariants.Settle}
use Rattle.dspec_deeds.specs.declared.{deed.Deed.TheVariants.Seal, deed.Deed.TheVariants.Release, deed.Deed.TheVariants.Halt}
use Rattle.dspec_deeds.proofs.{PresentIds.open_is_present, SoundLists.granted_goes, SoundLists.answered_open, SoundLists.unseen, SoundLists.opened_by_now, TestLemmas.either_way, TestLemmas.off}
use Rattle.dspec_deeds.proofs.{TestLemmas.and_tells, TestLemmas.same_number, TestLemmas.number_is_itself, TestLemmas.other_number, TestLemmas.id_is_itself, TestLemmas.has_joined}

-- it rests on the CPU's own deeds
pub mark_part : (c s : ℕ) (h : List Deed) → mark c s (part (Cpu c) h) ≡ mark c s h
mark_part c s [] = refl
mark_part c s (d ∷ h) = grind (arith, nat_tests, mark_part c s h)

-- what a mark tells of the present speculation
pub record Tells (c s i m : ℕ) (cs : List ℕ) : Type 0 where
  pub now : is_among c cs ≡ (m == i + 1)
  pub bound : m ≤ i + 1

-- of a list that is legal in its common part
pub mark_tells : (k : Config) (c s : ℕ) (h : List Deed) → IsSound k h → Tells c s (issue s h) (mark c s h) (callers (present s h) h)
mark_tells k c s [] sound = record { now = grind (arith, nat_tests); bound = omega arith }
mark_tells k c s (Trace a r f ∷ h) sound = mark_tells k c s h sound.0
mark_tells k c s (Scan a b ∷ h) sound = mark_tells k c s h sound.0
mark_tells k c s (Opened a j ∷ h) sound = mark_tells k c s h sound.0
mark_tells k c s (Miss a n b ∷ h) sound = mark_tells k c s h sound.0
mark_tells k c s (Commit a j f ∷ h) sound = mark_tells k c s h sound.0
mark_tells k c s (Discard a j f ∷ h) sound = mark_tells k c s h sound.0
mark_tells k c s (Settle a j f ∷ h) sound = mark_tells k c s h sound.0
mark_tells k c s (Seal a ∷ h) sound = mark_tells k c s h sound.0
mark_tells k c s (Halt ∷ h) sound = mark_tells k c s h sound.0
mark_tells k c s (Release n ∷ h) sound =
    let was = mark_tells k c s h sound.0 in
    let P : Bool → Type 0 = λ b. Tells c s (if b then suc (issue s h) else issue s h) (mark c s h) (callers record { issue = if b then suc (issue s h) else issue s h; slot = s } h) in
    ⊎_elim
    (λ (t : (s == n) ≡ true).
    let next : Speculation = record { issue = suc (issue s h); slot = s } in
    let un : opened next h ≡ false = ⊎_elim (λ (o : opened next h ≡ true). let le = opened_by_now k h next sound.0 o in absurd (omega arith)) (λ f. f) (either_way (opened next h)) in
    let none = (unseen k h next sound.0 un).1 in
    let low = was.bound in
    subst P (sym t) record { now = ap (is_among c) none ∙ sym (other_number (mark c s h) (suc (issue s h) + 1) (omega arith)); bound = omega arith })
    (λ (f : (s == n) ≡ false). subst P (sym f) was)
    (either_way (s == n))
mark_tells k c s (Speculate a j r f ∷ h) sound = go (mark_tells k c s h sound.0) (spoken_granted f) refl
  where
    go : (was : Tells c s (issue s h) (mark c s h) (callers (present s h) h)) → (b : Bool) → spoken_granted f ≡ b
        → Tells c s (issue s h) (if b && ((c == a) && (s == j.slot)) then j.issue + 1 else mark c s h) (joined (if b && same_id (present s h) j then Some a else None) (callers (present s h) h))
    go was false e = was
    go was true e = ⊎_elim
        (λ (t : (s == j.slot) ≡ true).
        let at = same_number s j.slot t in
        let now_open = answered_open h a j (spoken_stopped f) (spoken_granted f) (granted_goes f e) e sound.1.1.1 in
        let issues : issue j.slot h ≡ j.issue = ⊎_elim (λ (q : (issue j.slot h == j.issue) ≡ true). same_number (issue j.slot h) j.issue q)
        (λ (q : (issue j.slot h == j.issue) ≡ false). off (is_open j h) now_open
        (open_is_present k h j sound.0 (λ (p : issue j.slot h ≡ j.issue). true≢false (sym (grind (arith, nat_tests)) ∙ q)))) (either_way (issue j.slot h == j.issue)) in
        let is : j.issue ≡ issue s h = sym issues ∙ ap (λ x. issue x h) (sym at) in
        let back = sym is in
        let path : present s h ≡ j = λ i. record { issue = back i; slot = at i } in
        let same : same_id (present s h) j ≡ true = subst (λ x. same_id (present s h) x ≡ true) path (id_is_itself (present s h)) in
        ⊎_elim
        (λ (me : (c == a) ≡ true). rw (same, t, me, is) record { now = has_joined c a (callers (present s h) h) ∙ (rw me (sym (number_is_itself (issue s h + 1)))); bound = omega arith })
        (λ (other : (c == a) ≡ false). rw (same, t, other) record { now = has_joined c a (callers (present s h) h) ∙ (rw other was.now); bound = was.bound })
        (either_way (c == a)))
        (λ (n : (s == j.slot) ≡ false).
        let no : same_id (present s h) j ≡ false = ⊎_elim (λ (q : same_id (present s h) j ≡ true). off (s == j.slot) (and_tells (issue s h == j.issue) (s == j.slot) q).1 n)
        (λ q. q) (either_way (same_id (present s h) j)) in
        rw (no, n) (flat (c == a)))
        (either_way (s == j.slot))
      where
        flat : (b : Bool) → Tells c s (issue s h) (if b && false then j.issue + 1 else mark c s h) (callers (present s h) h)
        flat true = was
        flat false = was
