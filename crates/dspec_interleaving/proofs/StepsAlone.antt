-- What follows a decision that a CPU makes alone: the release of the slot.
use Rattle.std.proofs.Common.{◌≡◌, ◌≢◌, ◌⊎◌, ℕ, true, false, ◌&&◌, List, [], ◌∷◌, ◌++◌, Option, Some, None, if◌then◌else◌, refl, sym, ap, ◌∙◌, subst, ⊎_elim, inl, inr}
use Rattle.dspec_interleaving.specs.Words.{Speculation, spoken_granted, is_commit, is_discard, same_id, undecided, committed, discarded, verdict, latest, callers, joined, is_sole, is_sole_or_none}
use Rattle.dspec_interleaving.specs.Words.{solo, solo_of, author, owing, IsSound, answer_of, Config, Cpu, Answer, DecideFate, Deed, Speculate, Commit, Discard, Release}
use Rattle.dspec_interleaving.specs.declared.flight.CallPlace.{CallPlace}
use Rattle.dspec_deeds.specs.declared.deed.DecideFate.TheVariants as decided
use Rattle.dspec_interleaving.specs.declared.flight.CallPlace.TheVariants as cpu
use Rattle.dspec_deeds.proofs.{PresentIds.open_present, TestLemmas.either_way, TestLemmas.and_tells, TestLemmas.same_id_tells, WordChanges.granted_open}

-- the CPU's discard has released the slot, and its call has ended with the discard's answer
abbrev pub ReleasedNow : ℕ → Speculation → List Deed → Option CallPlace → Option Answer → Type 0
ReleasedNow c id ds next told = (n : ℕ) × (ds ≡ Release id.slot ∷ Discard c id (decided.Thrown n) ∷ []) × (next ≡ None) × (told ≡ Some (answer_of (decided.Thrown n)))

-- the call of the CPU's commit releases the slot in its next step
abbrev pub ReleasesNext : ℕ → Speculation → List Deed → Option CallPlace → Type 0
ReleasesNext c id ds next = (f : DecideFate) × (ds ≡ Commit c id f ∷ []) × (next ≡ Some (cpu.CommitRelease id f))

-- what a step decides alone is released by the call that decides: with a discard, or in the step after a commit
abbrev pub KeepsSoloRule : ℕ → List Deed → List Deed → Option CallPlace → Option Answer → Type 0
KeepsSoloRule c h ds next told = (id : Speculation) → solo id h ≡ None → solo id (ds ++ h) ≢ None → ReleasedNow c id ds next told ⊎ ReleasesNext c id ds next

-- the deed decides nothing alone, or its call releases next
abbrev pub DecidesBeside : Deed → List Deed → Option CallPlace → Type 0
DecidesBeside (Commit c id f) h next = ((is_commit f && is_sole_or_none c (callers id h)) ≡ false) ⊎ (next ≡ Some (cpu.CommitRelease id f))
DecidesBeside (Discard c id f) h next = (is_discard f && is_sole c (callers id h)) ≡ false
DecidesBeside d h next = Unit {0}

-- no release is owed after such a deed
pub beside_rests : (d : Deed) (h : List Deed) (next : Option CallPlace) → DecidesBeside d h next → owing d h ≡ 0
beside_rests (Discard c id f) h next e = rw e refl
beside_rests d h next e = refl

-- a step of no deed decides nothing
pub none_rules : (c : ℕ) (h : List Deed) (next : Option CallPlace) (told : Option Answer) → KeepsSoloRule c h [] next told
none_rules c h next told id before after = absurd (after before)

pub one_rules : (k : Config) (c : ℕ) (d : Deed) (h : List Deed) (next : Option CallPlace) (told : Option Answer) → IsSound k (d ∷ h) → author d h ≡ Cpu c
    → DecidesBeside d h next → KeepsSoloRule c h (d ∷ []) next told
one_rules k c (Speculate a j r f) h next told s by beside id before after = ⊎_elim
    (λ (t : (spoken_granted f && same_id id j) ≡ true).
    let both = and_tells (spoken_granted f) (same_id id j) t in
    let free : verdict id h ≡ undecided = subst (λ x. verdict x h ≡ undecided) (sym (same_id_tells id j both.1)) (open_present k h j s.0 (granted_open k a j r f h s both.0)).free in
    absurd (after (ap (λ v. solo_of v (callers id (Speculate a j r f ∷ h))) free)))
    (λ (e : (spoken_granted f && same_id id j) ≡ false). absurd (after (ap (λ b. solo_of (verdict id h) (joined (if b then Some a else None) (callers id h))) e ∙ before)))
    (either_way (spoken_granted f && same_id id j))
one_rules k c (Commit a j f) h next told s by beside id before after = ⊎_elim
    (λ (t : (is_commit f && same_id id j) ≡ true).
    let both = and_tells (is_commit f) (same_id id j) t in
    let is : j ≡ id = sym (same_id_tells id j both.1) in
    ⊎_elim
    (λ (none : (is_commit f && is_sole_or_none a (callers j h)) ≡ false).
    let others : is_sole_or_none a (callers id h) ≡ false =
    sym (ap (λ b. b && is_sole_or_none a (callers id h)) both.0) ∙ subst (λ x. (is_commit f && is_sole_or_none a (callers x h)) ≡ false) is none in
    absurd (after (ap (λ b. solo_of (latest (if b then committed a else undecided) (verdict id h)) (callers id h)) t ∙ ap (λ b. if b then Some a else None) others)))
    (λ (releases : next ≡ Some (cpu.CommitRelease j f)).
    let mine : a ≡ c = cc in
    inr (f, (λ i. Commit (mine i) (is i) f ∷ []), releases ∙ ap (λ x. Some (cpu.CommitRelease x f)) is))
    beside)
    (λ (e : (is_commit f && same_id id j) ≡ false). absurd (after (ap (λ b. solo_of (latest (if b then committed a else undecided) (verdict id h)) (callers id h)) e ∙ before)))
    (either_way (is_commit f && same_id id j))
one_rules k c (Discard a j f) h next told s by beside id before after = ⊎_elim
    (λ (t : (is_discard f && same_id id j) ≡ true).
    let both = and_tells (is_discard f) (same_id id j) t in
    let is : j ≡ id = sym (same_id_tells id j both.1) in
    let others : is_sole a (callers id h) ≡ false = sym (ap (λ b. b && is_sole a (callers id h)) both.0) ∙ subst (λ x. (is_discard f && is_sole a (callers x h)) ≡ false) is beside in
    absurd (after (ap (λ b. solo_of (latest (if b then discarded a else undecided) (verdict id h)) (callers id h)) t ∙ ap (λ b. if b then Some a else None) others)))
    (λ (e : (is_discard f && same_id id j) ≡ false). absurd (after (ap (λ b. solo_of (latest (if b then discarded a else undecided) (verdict id h)) (callers id h)) e ∙ before)))
    (either_way (is_discard f && same_id id j))
one_rules k c d h next told s by beside id before after = absurd (after before)

-- a discard that releases the slot
pub released_rules : (c n : ℕ) (id : Speculation) (h : List Deed) → KeepsSoloRule c h (Release id.slot ∷ Discard c id (decided.Thrown n) ∷ []) None (Some (answer_of (decided.Thrown n)))
released_rules c n id h j before after = ⊎_elim
    (λ (t : same_id j id ≡ true). inl (n, (λ i. Release (sym (same_id_tells j id t) i).slot ∷ Discard c (sym (same_id_tells j id t) i) (decided.Thrown n) ∷ []), refl, refl))
    (λ (e : same_id j id ≡ false). absurd (after (ap (λ b. solo_of (latest (if b then discarded c else undecided) (verdict j h)) (callers j h)) e ∙ before)))
    (either_way (same_id j id))
