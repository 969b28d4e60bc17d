-- What a legal list keeps.
use Rattle.std.proofs.Common.{◌≡◌, ℕ, ◌≤◌, Bool, true, false, ◌&&◌, List, [], ◌∷◌, refl, sym, ◌∙◌, subst, ⊎_elim, arith, true≢false}
use Rattle.std.proofs.lemmas.Bool.Decides.{nat_tests}
use Rattle.dspec_deeds.specs.Words.{Speculation, spoken_granted, spoken_stopped, is_commit, is_discard, decided_stopped, same_id, halted, issue, opens, opened, verdict, undecided, is_open, callers}
use Rattle.dspec_deeds.specs.Words.{scan, late, is_halt, StopsOrActs, IsSound}
use Rattle.dspec_deeds.specs.declared.{config.Config.Config, deed.DecideFate.DecideFate, deed.Deed.Deed, deed.Deed.TheVariants.Scan, deed.Deed.TheVariants.Opened, deed.Deed.TheVariants.Miss}
use Rattle.dspec_deeds.specs.declared.{deed.Deed.TheVariants.Speculate, deed.Deed.TheVariants.Commit, deed.Deed.TheVariants.Discard, deed.SpeculateFate.SpeculateFate}
use Rattle.dspec_deeds.proofs.TestLemmas.{or_none, or_tells, same_id_tells}

-- a granted record was not stopped
pub granted_goes : (f : SpeculateFate) → spoken_granted f ≡ true → spoken_stopped f ≡ false
granted_goes f h1 = grind arith

-- a commit that decided was not stopped
pub commit_goes : (f : DecideFate) → is_commit f ≡ true → decided_stopped f ≡ false
commit_goes f h1 = grind arith

-- a discard that decided was not stopped
pub discard_goes : (f : DecideFate) → is_discard f ≡ true → decided_stopped f ≡ false
discard_goes f h1 = grind arith

-- what was done was done to an open speculation
pub answered_open : (h : List Deed) (c : ℕ) (id : Speculation) (stopped done : Bool) → stopped ≡ false → done ≡ true
    → StopsOrActs (halted h) (late c h) (is_open id h) stopped done → is_open id h ≡ true
answered_open h c id true done s t a = absurd (true≢false s)
answered_open h c id false done s t a = sym a.1 ∙ t

-- no decision and no caller
abbrev pub Unseen : Speculation → List Deed → Type 0
Unseen id h = (verdict id h ≡ undecided) × (callers id h ≡ [])

-- no record is granted to what was not given out
not_called : (h : List Deed) (c : ℕ) (id j : Speculation) (f : SpeculateFate) → opened id h ≡ false
    → StopsOrActs (halted h) (late c h) (is_open j h) (spoken_stopped f) (spoken_granted f) → (spoken_granted f && same_id id j) ≡ false
not_called h c id j f un a = grind arith

-- no decision is made of what was not given out
not_decided : (h : List Deed) (c : ℕ) (id j : Speculation) (stopped done : Bool) → (done ≡ true → stopped ≡ false) → opened id h ≡ false
    → StopsOrActs (halted h) (late c h) (is_open j h) stopped done → (done && same_id id j) ≡ false
not_decided h c id j stopped done goes un a = grind arith

-- what was not given out has no caller and no decision
pub unseen : (k : Config) (h : List Deed) (id : Speculation) → IsSound k h → opened id h ≡ false → Unseen id h
unseen k [] id s un = (refl, refl)
unseen k (Opened c j ∷ h) id s un = unseen k h id s.0 (or_none (same_id id j) (opened id h) un).1
unseen k (Speculate c j r f ∷ h) id s un = let rest = unseen k h id s.0 un in let no = not_called h c id j f un s.1.1.1 in (rest.0, rw no rest.1)
unseen k (Commit c j f ∷ h) id s un = let rest = unseen k h id s.0 un in let no = not_decided h c id j (decided_stopped f) (is_commit f) (commit_goes f) un s.1.1.2 in (rw no rest.0, rest.1)
unseen k (Discard c j f ∷ h) id s un = let rest = unseen k h id s.0 un in let no = not_decided h c id j (decided_stopped f) (is_discard f) (discard_goes f) un s.1.1.2 in (rw no rest.0, rest.1)
unseen k (d ∷ h) id s un = unseen k h id s.0 un

-- a slot's issue never falls
pub issue_grows : (s : ℕ) (d : Deed) (h : List Deed) → issue s h ≤ issue s (d ∷ h)
issue_grows s d h = grind arith

-- no speculation of a later issue was given out
pub opened_by_now : (k : Config) (h : List Deed) (id : Speculation) → IsSound k h → opened id h ≡ true → id.issue ≤ issue id.slot h
opened_by_now k [] id s is = absurd (true≢false (sym is))
opened_by_now k (d ∷ h) id s is = ⊎_elim (here d s) (λ (t : opened id h ≡ true). let a = opened_by_now k h id s.0 t in let b = issue_grows id.slot d h in omega arith)
    (or_tells (opens id d) (opened id h) is)
  where
    here : (d : Deed) → IsSound k (d ∷ h) → opens id d ≡ true → id.issue ≤ issue id.slot (d ∷ h)
    here (Opened c j) s t = subst (λ (x : Speculation). x.issue ≤ issue x.slot h) (sym (same_id_tells id j t)) (let e = s.1.1.3 in omega arith)
    here d s t = absurd (true≢false (sym t))

-- before a stop nobody has done a deed after it
pub running_not_late : (c : ℕ) (h : List Deed) → halted h ≡ false → late c h ≡ false
running_not_late c [] e = refl
running_not_late c (d ∷ h) e = let both = or_none (is_halt d) (halted h) e in let no = both.1 in let this = both.0 in rw (this, running_not_late c h no, no)

-- a call of speculation comes to slots that there are
pub scan_bound : (k : Config) (h : List Deed) (c : ℕ) → 1 ≤ k.nspec → scan k c h ≤ k.nspec
scan_bound k [] c n = omega arith
scan_bound k (Scan a run ∷ h) c n = grind (arith, nat_tests, scan_bound k h c n)
scan_bound k (Opened a id ∷ h) c n = grind (arith, nat_tests, scan_bound k h c n)
scan_bound k (Miss a s b ∷ h) c n = grind (arith, nat_tests, scan_bound k h c n)
scan_bound k (d ∷ h) c n = scan_bound k h c n

-- only speculations of slots that there are were given out
pub opened_in_range : (k : Config) (h : List Deed) (id : Speculation) → 1 ≤ k.nspec → IsSound k h → opened id h ≡ true → (1 ≤ id.slot) × (id.slot ≤ k.nspec)
opened_in_range k [] id n s is = absurd (true≢false (sym is))
opened_in_range k (d ∷ h) id n s is = ⊎_elim (here d s) (λ (t : opened id h ≡ true). opened_in_range k h id n s.0 t) (or_tells (opens id d) (opened id h) is)
  where
    here : (d : Deed) → IsSound k (d ∷ h) → opens id d ≡ true → (1 ≤ id.slot) × (id.slot ≤ k.nspec)
    here (Opened c j) s t = let at : scan k c h ≡ j.slot = s.1.1.0 in let le = scan_bound k h c n in let one : 1 ≤ j.slot =
        s.1.1.1 in subst (λ (x : Speculation). (1 ≤ x.slot) × (x.slot ≤ k.nspec)) (sym (same_id_tells id j t)) (one, omega arith)
    here d s t = absurd (true≢false (sym t))
