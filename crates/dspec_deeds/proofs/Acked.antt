-- The acknowledgements that the list shows, and what the CPUs have settled.
use Rattle.std.proofs.Common.{◌≡◌, ℕ, suc, ◌+◌, ◌≤◌, true, false, not, ◌||◌, ◌==◌, List, [], ◌∷◌, refl, sym, ap, subst, ⊎_elim, arith, true≢false}
use Rattle.std.proofs.lemmas.Bool.Decides.{nat_tests}
use Rattle.std.specs.Prelude.{nat_le, nat_lt}
use Rattle.dspec_deeds.specs.Words.{Speculation, same_id, issue, releases, present, verdict, undecided, committed, discarded, Ruling, is_undecided, settled, settles, acks, ack, SettlesAs, IsSound}
use Rattle.dspec_deeds.specs.declared.{config.Config.Config, deed.DecideFate.DecideFate, deed.Deed.Deed, deed.Deed.TheVariants.Settle}
use Rattle.dspec_deeds.proofs.{TestLemmas.either_way, TestLemmas.off, TestLemmas.and_tells, TestLemmas.or_tells, TestLemmas.or_true, TestLemmas.same_id_tells, WordChanges.ack_stays}

-- the settlement that a test found
settlement : (c s : ℕ) (d : Deed) (h : List Deed) (k : Config) → IsSound k (d ∷ h) → acks c s d ≡ true
    → (ack c s (d ∷ h) ≡ issue s h + 1) × (settles c (present s h) d ≡ true) × (issue s (d ∷ h) ≡ issue s h)
settlement c s d h k h1 h2 = grind arith

-- an acknowledgement is of an issue that was reached
pub ack_bound : (k : Config) (c s : ℕ) (h : List Deed) → IsSound k h → ack c s h ≤ issue s h + 1
ack_bound k c s [] sound = omega arith
ack_bound k c s (d ∷ h) sound = grind (arith, nat_tests, ack_bound k c s h sound.0)

-- acknowledgements never fall
pub acks_rise : (k : Config) (c s : ℕ) (d : Deed) (h : List Deed) → IsSound k (d ∷ h) → ack c s h ≤ ack c s (d ∷ h)
acks_rise k c s d h sound = grind (arith, nat_tests, settlement, ack_bound, ack_stays)

-- what was settled stays so
pub settled_stays : (c : ℕ) (id : Speculation) (d : Deed) (h : List Deed) → settled c id h ≡ true → settled c id (d ∷ h) ≡ true
settled_stays c id d h e = rw e (or_true (settles c id d))

-- an acknowledgement past the present issue says that the CPU has settled
pub acked : (k : Config) (c s : ℕ) (h : List Deed) → IsSound k h → issue s h + 1 ≤ ack c s h → settled c (present s h) h ≡ true
acked k c s [] sound le = absurd (omega arith)
acked k c s (d ∷ h) sound le = ⊎_elim
    (λ (t : acks c s d ≡ true).
    let is = settlement c s d h k sound t in
    let p : present s h ≡ present s (d ∷ h) = λ i. record { issue = sym is.2 i; slot = s } in
    subst (λ j. settled c j (d ∷ h) ≡ true) p (ap (λ b. b || settled c (present s h) h) is.1))
    (λ (f : acks c s d ≡ false). ⊎_elim
    (λ (r : releases s d ≡ true). let b = ack_bound k c s h sound.0 in let e = ack_stays c s d h f in let up : issue s (d ∷ h) ≡ suc (issue s h) = rw r refl in absurd (omega arith))
    (λ (r : releases s d ≡ false).
    let e = ack_stays c s d h f in
    let same : issue s (d ∷ h) ≡ issue s h = rw r refl in
    let p : present s h ≡ present s (d ∷ h) = λ i. record { issue = sym same i; slot = s } in
    subst (λ j. settled c j (d ∷ h) ≡ true) p (settled_stays c (present s h) d h (acked k c s h sound.0 (omega arith))))
    (either_way (releases s d)))
    (either_way (acks c s d))

-- a settlement acknowledges
settles_acks : (c : ℕ) (id : Speculation) (d : Deed) (h : List Deed) → settles c id d ≡ true → ack c id.slot (d ∷ h) ≡ id.issue + 1
settles_acks c id d h h1 = grind arith

-- what a CPU has settled it has acknowledged
pub settled_acked : (k : Config) (c : ℕ) (id : Speculation) (h : List Deed) → IsSound k h → settled c id h ≡ true → id.issue + 1 ≤ ack c id.slot h
settled_acked k c id [] sound e = absurd (true≢false (sym e))
settled_acked k c id (d ∷ h) sound e = ⊎_elim
    (λ (t : settles c id d ≡ true). let now = settles_acks c id d h t in omega arith)
    (λ (t : settled c id h ≡ true). let before = settled_acked k c id h sound.0 t in let up = acks_rise k c id.slot d h sound in omega arith)
    (or_tells (settles c id d) (settled c id h) e)

-- the acknowledgement is past the present issue exactly where the CPU has settled the present speculation
pub ack_tells : (k : Config) (c s : ℕ) (h : List Deed) → IsSound k h → nat_le (ack c s h) (issue s h) ≡ not (settled c (present s h) h)
ack_tells k c s h sound = ⊎_elim
    (λ (t : settled c (present s h) h ≡ true). let le = settled_acked k c (present s h) h sound t in rw t (let past : nat_le (ack c s h) (issue s h) ≡ false = grind (arith, nat_tests) in past))
    (λ (f : settled c (present s h) h ≡ false). rw f (⊎_elim
    (λ (t : nat_le (ack c s h) (issue s h) ≡ true). t)
    (λ (n : nat_le (ack c s h) (issue s h) ≡ false).
    let past : issue s h + 1 ≤ ack c s h = grind (arith, nat_tests) in
    off (settled c (present s h) h) (acked k c s h sound past) f)
    (either_way (nat_le (ack c s h) (issue s h)))))
    (either_way (settled c (present s h) h))

-- the same, by the other test
pub acked_is : (k : Config) (c s : ℕ) (h : List Deed) → IsSound k h → nat_lt (issue s h) (ack c s h) ≡ settled c (present s h) h
acked_is k c s h sound = ⊎_elim
    (λ (t : settled c (present s h) h ≡ true). let le = settled_acked k c (present s h) h sound t in rw t (let past : nat_lt (issue s h) (ack c s h) ≡ true = grind (arith, nat_tests) in past))
    (λ (f : settled c (present s h) h ≡ false). rw f (⊎_elim
    (λ (t : nat_lt (issue s h) (ack c s h) ≡ true). let past : issue s h + 1 ≤ ack c s h = grind (arith, nat_tests) in off (settled c (present s h) h) (acked k c s h sound past) f)
    (λ n. n)
    (either_way (nat_lt (issue s h) (ack c s h)))))
    (either_way (settled c (present s h) h))

-- a decision is never undone
pub decided_stays : (id : Speculation) (d : Deed) (h : List Deed) → is_undecided (verdict id h) ≡ false → is_undecided (verdict id (d ∷ h)) ≡ false
decided_stays id d h e = grind arith

-- what a CPU has settled was decided
pub settled_decided : (k : Config) (c : ℕ) (id : Speculation) (h : List Deed) → IsSound k h → settled c id h ≡ true → is_undecided (verdict id h) ≡ false
settled_decided k c id [] sound e = absurd (true≢false (sym e))
settled_decided k c id (d ∷ h) sound e = ⊎_elim
    (λ (t : settles c id d ≡ true). decided_stays id d h (here d sound t))
    (λ (t : settled c id h ≡ true). decided_stays id d h (settled_decided k c id h sound.0 t))
    (or_tells (settles c id d) (settled c id h) e)
  where
    ruled : (v : Ruling) (f : DecideFate) → SettlesAs v f → is_undecided v ≡ false
    ruled undecided f never = absurd never
    ruled (committed a) f e = refl
    ruled (discarded a) f e = refl

    here : (d : Deed) → IsSound k (d ∷ h) → settles c id d ≡ true → is_undecided (verdict id h) ≡ false
    here (Settle a j f) sound t = subst (λ x. is_undecided (verdict x h) ≡ false) (sym (same_id_tells id j (and_tells (c == a) (same_id id j) t).1)) (ruled (verdict j h) f sound.1.1.1.1)
    here d sound t = absurd (true≢false (sym t))
