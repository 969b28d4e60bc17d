-- A list with Seals is legal in its common part where the list without them is.
use Rattle.std.proofs.Common.{arith, ◌≡◌, ◌⊎◌, ℕ, true, false, ◌||◌, if◌then◌else◌, List, [], ◌∷◌, refl, sym, ◌∙◌, subst, ⊎_elim}
use Rattle.std.proofs.lemmas.Bool.Decides.{nat_tests}
use Rattle.dspec_deeds.specs.Words.{halted, late, owed, facts, Follows, FollowsBy, IsSound, is_seal, bare}
use Rattle.dspec_deeds.specs.declared.{config.Config.Config, deed.Deed.Deed, deed.Deed.TheVariants.Discard, deed.Deed.TheVariants.Seal}
use Rattle.dspec_deeds.proofs.BareReads.{seal_is, halted_bare, issue_bare, opened_bare, verdict_bare, callers_bare, settled_bare, scan_bare, since_bare, author_bare, owing_bare}
use Rattle.dspec_deeds.proofs.TestLemmas.{either_way, same_number, or_false, and_false}

-- a Seal of the CPU makes nobody later: the session was not stopped, or the CPU has done a deed since
abbrev pub IsNoLater : ℕ → List Deed → Type 0
IsNoLater c h = (halted h ≡ false) ⊎ (late c h ≡ true)

-- a Seal is put where it makes nobody later, and no release is owed
abbrev pub MayPut : Deed → List Deed → Type 0
MayPut (Seal c) h = IsNoLater c h × (owed h ≡ 0)
MayPut d h = Unit {0}

abbrev pub ArePut : List Deed → Type 0
ArePut [] = Unit {0}
ArePut (d ∷ h) = ArePut h × MayPut d h

-- put so, Seals leave what is owed
pub owed_bare : (h : List Deed) → ArePut h → owed h ≡ owed (bare h)
owed_bare [] p = refl
owed_bare (Seal c ∷ h) p = sym p.1.1 ∙ owed_bare h p.0
owed_bare (Discard c j f ∷ h) p = owing_bare (Discard c j f) h
owed_bare (d ∷ h) p = refl

-- where a Seal may be put the CPU is late exactly where the session was stopped
late_there : (c : ℕ) (h : List Deed) → IsNoLater c h → (late c h || halted h) ≡ late c h
late_there c h = ⊎_elim (λ (e : halted h ≡ false). rw e (or_false (late c h))) (λ (e : late c h ≡ true). rw e refl)

late_bare : (c : ℕ) (h : List Deed) → ArePut h → late c h ≡ late c (bare h)
late_bare c [] p = refl
late_bare c (d ∷ h) p = grind (arith, nat_tests, late_bare c h p.0, seal_is, halted_bare, author_bare, late_there, same_number, and_false, or_false)

facts_bare : (k : Config) (h : List Deed) → ArePut h → facts k h ≡ facts k (bare h)
facts_bare k h p = grind (arith, nat_tests, halted_bare, issue_bare, opened_bare, verdict_bare, callers_bare, settled_bare, scan_bare, since_bare, late_bare, owed_bare)

-- the Seals put in keep the list legal in its common part
pub sound_with_seals : (k : Config) (h : List Deed) → ArePut h → IsSound k (bare h) → IsSound k h
sound_with_seals k [] p s = tt
sound_with_seals k (d ∷ h) p s = ⊎_elim
    (λ (t : is_seal d ≡ true).
    let q = seal_is d t in
    let put : MayPut (Seal q.0) h = subst (λ x. MayPut x h) q.1 p.1 in
    let rest : IsSound k h = sound_with_seals k h p.0 (subst (λ b. IsSound k (if b then bare h else d ∷ bare h)) t s) in
    (rest, subst (λ x. Follows k h x) (sym q.1) (put.1, tt)))
    (λ (f : is_seal d ≡ false).
    let now : IsSound k (d ∷ bare h) = subst (λ b. IsSound k (if b then bare h else d ∷ bare h)) f s in
    (sound_with_seals k h p.0 now.0, subst (λ x. FollowsBy k x d) (sym (facts_bare k h p.0)) now.1))
    (either_way (is_seal d))
