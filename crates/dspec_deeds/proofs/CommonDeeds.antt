-- The common part doesn't look at what found room, nor at how many records there were.
use Rattle.std.proofs.Common.{arith, ◌≡◌, ℕ, suc, ◌+◌, false, ◌||◌, ◌&&◌, if◌then◌else◌, List, [], Some, None, ◌∷◌, refl, sym, ap, ◌∙◌, subst}
use Rattle.std.proofs.lemmas.Bool.Decides.{nat_tests}
use Rattle.dspec_deeds.specs.Words.{Speculation, spoken_granted, is_discard, same_id, halted, is_halt, issue, releases, present, opened, opens, verdict, ruling, latest, callers, calls_on, joined}
use Rattle.dspec_deeds.specs.Words.{solo, solo_of, settled, settles, scan, scanned, opened_since, is_scan, opens_slot, owed, author, releaser, same_actor, late, code_at, standing, word_at, ack}
use Rattle.dspec_deeds.specs.Words.{acks, issue_of, Facts, facts, FollowsBy, IsSound, HasAuthors, common_spoken, common_decided, common_deed, common_deeds, IsSameInCommon, AreSameInCommon}
use Rattle.dspec_deeds.specs.Words.{ShowsAlike, Inactive}
use Rattle.dspec_deeds.specs.declared.{calls.Actor.TheVariants.Cpu, config.Config.Config, deed.DecideFate.DecideFate, deed.Deed.Deed, deed.Deed.TheVariants.Speculate, deed.Deed.TheVariants.Release}
use Rattle.dspec_deeds.specs.declared.{deed.Deed.TheVariants.Halt, deed.SpeculateFate.SpeculateFate}
use Rattle.dspec_deeds.specs.declared.deed.SpeculateFate.TheVariants as spoken
use Rattle.dspec_deeds.specs.declared.deed.DecideFate.TheVariants as decided

-- The tests of fates that the common part makes.

speculate_grant : (f : SpeculateFate) → spoken_granted (common_spoken f) ≡ spoken_granted f
speculate_grant spoken.Kept = refl
speculate_grant f = refl

decide_discard : (f : DecideFate) → is_discard (common_decided f) ≡ is_discard f
decide_discard (decided.Copied n) = refl
decide_discard f = refl

-- What each deed adds to what is read off.

halts : (d : Deed) → is_halt (common_deed d) ≡ is_halt d
halts Halt = refl
halts d = refl

frees : (s : ℕ) (d : Deed) → releases s (common_deed d) ≡ releases s d
frees s Halt = refl
frees s d = refl

gives : (id : Speculation) (d : Deed) → opens id (common_deed d) ≡ opens id d
gives id Halt = refl
gives id d = refl

rules : (id : Speculation) (d : Deed) → ruling id (common_deed d) ≡ ruling id d
rules id d = grind arith

calls_it : (id : Speculation) (d : Deed) → calls_on id (common_deed d) ≡ calls_on id d
calls_it id (Speculate c j r f) = ap (λ b. if b && same_id id j then Some c else None) (speculate_grant f)
calls_it id d = refl

ends : (c : ℕ) (id : Speculation) (d : Deed) → settles c id (common_deed d) ≡ settles c id d
ends c id Halt = refl
ends c id d = refl

moves : (k : Config) (c : ℕ) (d : Deed) (n : ℕ) → scanned k c (common_deed d) n ≡ scanned k c d n
moves k c Halt n = refl
moves k c d n = refl

starts : (c : ℕ) (d : Deed) → is_scan c (common_deed d) ≡ is_scan c d
starts c Halt = refl
starts c d = refl

gives_at : (s : ℕ) (d : Deed) → opens_slot s (common_deed d) ≡ opens_slot s d
gives_at s Halt = refl
gives_at s d = refl

stores : (c s : ℕ) (d : Deed) → acks c s (common_deed d) ≡ acks c s d
stores c s Halt = refl
stores c s d = refl

of_issue : (d : Deed) → issue_of (common_deed d) ≡ issue_of d
of_issue Halt = refl
of_issue d = refl

-- What is read off deed by deed, each deed adding the same.
reads_common : {A : Type 0} (F : List Deed → A) (step : Deed → A → A) → ((d : Deed) (h : List Deed) → F (d ∷ h) ≡ step d (F h))
    → ((d : Deed) (x : A) → step (common_deed d) x ≡ step d x) → (h : List Deed) → F (common_deeds h) ≡ F h
reads_common F step each same [] = refl
reads_common F step each same (d ∷ h) = each (common_deed d) (common_deeds h) ∙ (same d (F (common_deeds h)) ∙ (ap (step d) (reads_common F step each same h) ∙ sym (each d h)))

halted_common : (h : List Deed) → halted (common_deeds h) ≡ halted h
halted_common = reads_common halted (λ d x. is_halt d || x) (λ d h. refl) (λ d x. ap (λ b. b || x) (halts d))

issue_common : (s : ℕ) (h : List Deed) → issue s (common_deeds h) ≡ issue s h
issue_common s = reads_common (issue s) (λ d x. if releases s d then suc x else x) (λ d h. refl) (λ d x. ap (λ b. if b then suc x else x) (frees s d))

opened_common : (id : Speculation) (h : List Deed) → opened id (common_deeds h) ≡ opened id h
opened_common id = reads_common (opened id) (λ d x. opens id d || x) (λ d h. refl) (λ d x. ap (λ b. b || x) (gives id d))

verdict_common : (id : Speculation) (h : List Deed) → verdict id (common_deeds h) ≡ verdict id h
verdict_common id = reads_common (verdict id) (λ d x. latest (ruling id d) x) (λ d h. refl) (λ d x. ap (λ r. latest r x) (rules id d))

callers_common : (id : Speculation) (h : List Deed) → callers id (common_deeds h) ≡ callers id h
callers_common id = reads_common (callers id) (λ d x. joined (calls_on id d) x) (λ d h. refl) (λ d x. ap (λ a. joined a x) (calls_it id d))

settled_common : (c : ℕ) (id : Speculation) (h : List Deed) → settled c id (common_deeds h) ≡ settled c id h
settled_common c id = reads_common (settled c id) (λ d x. settles c id d || x) (λ d h. refl) (λ d x. ap (λ b. b || x) (ends c id d))

scan_common : (k : Config) (c : ℕ) (h : List Deed) → scan k c (common_deeds h) ≡ scan k c h
scan_common k c = reads_common (scan k c) (λ d x. scanned k c d x) (λ d h. refl) (λ d x. moves k c d x)

since_common : (c s : ℕ) (h : List Deed) → opened_since c s (common_deeds h) ≡ opened_since c s h
since_common c s = reads_common (opened_since c s) (λ d x. if is_scan c d then false else (opens_slot s d || x)) (λ d h. refl) (λ d x. λ i. if starts c d i then false else (gives_at s d i || x))

ack_common : (c s : ℕ) (h : List Deed) → ack c s (common_deeds h) ≡ ack c s h
ack_common c s = reads_common (ack c s) (λ d x. if acks c s d then issue_of d + 1 else x) (λ d h. refl) (λ d x. λ i. if stores c s d i then of_issue d i + 1 else x)

solo_common : (id : Speculation) (h : List Deed) → solo id (common_deeds h) ≡ solo id h
solo_common id h = λ i. solo_of (verdict_common id h i) (callers_common id h i)

present_common : (s : ℕ) (h : List Deed) → present s (common_deeds h) ≡ present s h
present_common s h = λ i. record { issue = issue_common s h i; slot = s }

author_common : (d : Deed) (h : List Deed) → author (common_deed d) (common_deeds h) ≡ author d h
author_common (Release n) h = ap releaser (ap (λ j. solo j (common_deeds h)) (present_common n h) ∙ solo_common (present n h) h)
author_common d h = refl

owed_common : (h : List Deed) → owed (common_deeds h) ≡ owed h
owed_common h = grind (arith, nat_tests, decide_discard, callers_common)

late_common : (c : ℕ) (h : List Deed) → late c (common_deeds h) ≡ late c h
late_common c [] = refl
late_common c (d ∷ h) = λ i. if halts d i then false else (late_common c h i || (halted_common h i && same_actor (Cpu c) (author_common d h i)))

code_common : (id : Speculation) (h : List Deed) → code_at id (common_deeds h) ≡ code_at id h
code_common id h = λ i. if opened_common id h i then standing (verdict_common id h i) (callers_common id h i) else Inactive

word_common : (s : ℕ) (h : List Deed) → word_at s (common_deeds h) ≡ word_at s h
word_common s h = ap (λ (j : Speculation). record { issue = j.issue; code = code_at j (common_deeds h) }) (present_common s h)
    ∙ ap (λ x. record { issue = issue s h; code = x }) (code_common (present s h) h)

facts_common : (k : Config) (h : List Deed) → facts k (common_deeds h) ≡ facts k h
facts_common k h = grind (arith, nat_tests, halted_common, issue_common, opened_common, verdict_common, callers_common, settled_common, scan_common, since_common, late_common, owed_common)

-- lists that are the same in common have the same facts
pub same_facts : (k : Config) (g h : List Deed) → AreSameInCommon g h → facts k g ≡ facts k h
same_facts k g h e = sym (facts_common k g) ∙ (ap (facts k) e ∙ facts_common k h)

-- and show the same
pub same_shown : (g h : List Deed) → AreSameInCommon g h → ShowsAlike g h
same_shown g h e = record {
  halts = sym (halted_common g) ∙ (ap halted e ∙ halted_common h);
  words = λ s. sym (word_common s g) ∙ (ap (word_at s) e ∙ word_common s h);
  acks = λ c s. sym (ack_common c s g) ∙ (ap (ack c s) e ∙ ack_common c s h);
  given = λ id. sym (opened_common id g) ∙ (ap (opened id) e ∙ opened_common id h);
  verdicts = λ id. sym (verdict_common id g) ∙ (ap (verdict id) e ∙ verdict_common id h);
  calling = λ id. sym (callers_common id g) ∙ (ap (callers id) e ∙ callers_common id h);
  alone = λ id. sym (solo_common id g) ∙ (ap (solo id) e ∙ solo_common id h);
  settling = λ c id. sym (settled_common c id g) ∙ (ap (settled c id) e ∙ settled_common c id h);
}

module _ (k : Config) (x : Facts) where
  to_common : (d : Deed) → FollowsBy k x d → FollowsBy k x (common_deed d)
  to_common d h1 = grind arith

  from_common : (d : Deed) → FollowsBy k x (common_deed d) → FollowsBy k x d
  from_common d h1 = grind arith

-- one deed may come where another may that is the same in common
pub same_follows : (k : Config) (x : Facts) (d e : Deed) → IsSameInCommon d e → FollowsBy k x d → FollowsBy k x e
same_follows k x d e same goes = from_common k x e (subst (FollowsBy k x) same (to_common k x d goes))

sound_to : (k : Config) (h : List Deed) → IsSound k h → IsSound k (common_deeds h)
sound_to k [] s = tt
sound_to k (d ∷ h) s = (sound_to k h s.0, subst (λ x. FollowsBy k x (common_deed d)) (sym (facts_common k h)) (to_common k (facts k h) d s.1))

sound_from : (k : Config) (h : List Deed) → IsSound k (common_deeds h) → IsSound k h
sound_from k [] s = tt
sound_from k (d ∷ h) s = (sound_from k h s.0, from_common k (facts k h) d (subst (λ x. FollowsBy k x (common_deed d)) (facts_common k h) s.1))

-- a list is legal in its common part where one is that is the same in common
pub same_sound : (k : Config) (g h : List Deed) → AreSameInCommon g h → IsSound k g → IsSound k h
same_sound k g h e s = sound_from k h (subst (IsSound k) e (sound_to k g s))

authors_to : (k : Config) (h : List Deed) → HasAuthors k h → HasAuthors k (common_deeds h)
authors_to k [] a = tt
authors_to k (d ∷ h) a = (authors_to k h a.0, λ c by. a.1 c (sym (author_common d h) ∙ by))

authors_from : (k : Config) (h : List Deed) → HasAuthors k (common_deeds h) → HasAuthors k h
authors_from k [] a = tt
authors_from k (d ∷ h) a = (authors_from k h a.0, λ c by. a.1 c (author_common d h ∙ by))

-- its deeds are of the same CPUs
pub same_authors : (k : Config) (g h : List Deed) → AreSameInCommon g h → HasAuthors k g → HasAuthors k h
same_authors k g h e a = authors_from k h (subst (HasAuthors k) e (authors_to k g a))
