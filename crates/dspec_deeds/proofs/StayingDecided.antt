-- A decided speculation stays as it is until the CPUs that it waits for have settled it.
use Rattle.std.proofs.Common.{arith, ◌≡◌, ℕ, ◌<◌, Bool, true, false, ◌||◌, ◌&&◌, List, ◌∷◌, if◌then◌else◌, refl, sym, ap, ◌∙◌, subst, ⊎_elim}
use Rattle.std.proofs.lemmas.Bool.Decides.{nat_tests}
use Rattle.dspec_deeds.specs.Words.{Speculation, same_id, halted, late, issue, releases, present, opens, opened, verdict, is_undecided, is_open, callers, standing, code_at, same_actor, author, solo}
use Rattle.dspec_deeds.specs.Words.{solo_of, StopsOrActs, IsSound, Inactive}
use Rattle.dspec_deeds.specs.declared.{calls.Actor.TheVariants.Cpu, config.Config.Config, deed.Deed.Deed}
pub use Rattle.dspec_deeds.specs.OthersDeeds.{WaitsFor, StandsAsBefore}
use Rattle.dspec_deeds.proofs.{PresentIds.decided_shut, SoundLists.answered_open, SoundLists.granted_goes, SoundLists.commit_goes, SoundLists.discard_goes, StayingOwn.settled_other}
use Rattle.dspec_deeds.proofs.{TestLemmas.either_way, TestLemmas.off, TestLemmas.or_true, TestLemmas.and_tells, TestLemmas.same_id_tells}

-- what is done to a speculation is done to an open one
not_done : (h : List Deed) (c : ℕ) (id j : Speculation) (stopped done : Bool) → (done ≡ true → stopped ≡ false) → is_open id h ≡ false
    → StopsOrActs (halted h) (late c h) (is_open j h) stopped done → (done && same_id id j) ≡ false
not_done h c id j stopped done goes shut a = ⊎_elim
    (λ (t : (done && same_id id j) ≡ true).
    let both = and_tells done (same_id id j) t in
    let open_j = answered_open h c j stopped done (goes both.0) both.0 a in
    off (is_open id h) (subst (λ x. is_open x h ≡ true) (sym (same_id_tells id j both.1)) open_j) shut)
    (λ x. x)
    (either_way (done && same_id id j))

-- what is not open keeps its decision and its callers
pub shut_stays : (k : Config) (d : Deed) (h : List Deed) (id : Speculation) → IsSound k (d ∷ h) → is_open id h ≡ false → (verdict id (d ∷ h) ≡ verdict id h) × (callers id (d ∷ h) ≡ callers id h)
shut_stays k d h id h1 h2 = grind (arith, nat_tests, not_done, granted_goes, commit_goes, discard_goes)

-- another's deed does not release what waits for the CPU
pub waited_unreleased : (k : Config) (c s : ℕ) (d : Deed) (h : List Deed) → c < k.cpus → IsSound k (d ∷ h) → same_actor (Cpu c) (author d h) ≡ false → WaitsFor k c s h → releases s d ≡ false
waited_unreleased k c s d h h1 h2 h3 h4 = grind arith

-- a decided speculation stands where it is not released
pub decided_stands : (k : Config) (s : ℕ) (d : Deed) (h : List Deed) → IsSound k (d ∷ h) → opened (present s h) h ≡ true → is_undecided (verdict (present s h) h) ≡ false
    → releases s d ≡ false → StandsAsBefore s h (d ∷ h)
decided_stands k s d h sound given ruled kept =
    let id = present s h in
    let issues : issue s (d ∷ h) ≡ issue s h = rw kept refl in
    let p : present s (d ∷ h) ≡ id = λ i. record { issue = issues i; slot = s } in
    let same = shut_stays k d h id sound (decided_shut id h ruled) in
    let still : opened id (d ∷ h) ≡ true = ap (λ b. opens id d || b) given ∙ or_true (opens id d) in
    let codes : code_at id (d ∷ h) ≡ code_at id h = λ i. if (still ∙ sym given) i then standing (same.0 i) (same.1 i) else Inactive in
    record {
      issues = issues;
      word = ap (λ (m : ℕ). record { issue = m; code = code_at record { issue = m; slot = s } (d ∷ h) }) issues ∙ ap (λ x. record { issue = issue s h; code = x }) codes;
      verdicts = ap (λ j. verdict j (d ∷ h)) p ∙ same.0;
      callings = ap (λ j. callers j (d ∷ h)) p ∙ same.1;
      solos = ap (λ j. solo j (d ∷ h)) p ∙ (λ i. solo_of (same.0 i) (same.1 i));
    }

-- another's deed leaves what waits for the CPU
pub waits_stays : (k : Config) (c s : ℕ) (d : Deed) (h : List Deed) → c < k.cpus → IsSound k (d ∷ h) → same_actor (Cpu c) (author d h) ≡ false → WaitsFor k c s h
    → WaitsFor k c s (d ∷ h) × StandsAsBefore s h (d ∷ h)
waits_stays k c s d h lt sound other held = grind (arith, nat_tests, decided_stands, waited_unreleased, or_true, settled_other)
