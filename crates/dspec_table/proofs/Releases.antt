-- A CPU releases what it committed alone.
use Rattle.std.proofs.Common.{◌≡◌, ℕ, ◌+◌, ◌≤◌, ◌<◌, true, false, ◌==◌, List, [], ◌∷◌, Some, refl, sym, ap, ◌∙◌, subst, inl}
use mathlib.Core.Option.{some}
use lib.ListN.{get_elem?}
use prog.Atomic.{either}
use Rattle.atomic_table.specs.Table.{State, Allows, Me}
use Rattle.dspec_table.specs.Words.{Speculation, SlotState, word_number, slot_place, of_cpu, issue, scan, present, opened, releaser, verdict, is_undecided, callers, solo, solo_of, Ruling, undecided}
use Rattle.dspec_table.specs.Words.{committed, discarded, IsSound, WordsRule, Since, here, more, ReleasedWord, OwnCommit, released, Inactive, Committing, Config, Deed, Release}
use Rattle.dspec_table.specs.declared.rule.View.{View}
use Rattle.dspec_deeds.proofs.{StayingDecided.WaitsFor, StayingDecided.StandsAsBefore, StayingDecided.waits_stays, WordChanges.released_word, WordChanges.elsewhere}
use Rattle.dspec_table.proofs.{Changes.Changes, Changes.exchanges, Keeps.finds, Keeps.is_cpu, Keeps.idle_log, Tries.same_cpu}

pub held_since : (k : Config) (c s : ℕ) (seen log : List Deed) → c < k.cpus → IsSound k log → Since (of_cpu c) seen log → WaitsFor k c s seen → WaitsFor k c s log × StandsAsBefore s seen log
held_since k c s seen _ lt sound here held = (held, record { issues = refl; word = refl; verdicts = refl; callings = refl; solos = refl })
held_since k c s seen (d ∷ h) lt sound (more rest other) held =
    let before = held_since k c s seen h lt sound.0 rest held in
    let now = waits_stays k c s d h lt sound other before.0 in (
      now.0,
      record {
        issues = now.1.issues ∙ before.1.issues;
        word = now.1.word ∙ before.1.word;
        verdicts = now.1.verdicts ∙ before.1.verdicts;
        callings = now.1.callings
            ∙ before.1.callings;
        solos = now.1.solos ∙ before.1.solos;
      },
    )

decided_word : (v : Ruling) (cs : List ℕ) (c : ℕ) → solo_of v cs ≡ Some c → is_undecided v ≡ false
decided_word undecided cs c e = absurd (cc (e))
decided_word (committed a) cs c e = refl
decided_word (discarded a) cs c e = refl

pub gives_back : (k : Config) (slots id c : ℕ) (me : Me ℕ View) (spec : Speculation) → c < k.cpus → 1 ≤ spec.slot → spec.slot ≤ k.nspec → me.0.who ≡ of_cpu c → me.0.also ≡ [] → OwnCommit k me.0 c spec
    → Allows (WordsRule k) slots id me (slot_place spec.slot) (λ n. either (n == word_number record { issue = spec.issue; code = Committing })
    (word_number record { issue = spec.issue + 1; code = Inactive }) n) (λ n w. ReleasedWord spec.slot me.0 w.0 × (w.1 ≡ me.1))
gives_back k slots id c me spec lt one most who alone may =
    let s = spec.slot in
    let v = me.0 in
    let p : present s v.seen ≡ spec = λ i. record { issue = (may.word i).issue; slot = s } in
    let held : WaitsFor k c s v.seen = record {
      given = subst (λ j. opened j v.seen ≡ true) (sym p) may.given;
      ruled = subst (λ j. is_undecided (verdict j v.seen) ≡ false) (sym p) (decided_word (verdict spec v.seen) (callers spec v.seen) c may.alone);
      waits = inl (subst (λ j. solo j v.seen ≡ Some c) (sym p) may.alone);
    } in
    let stands : (st : State ℕ View) (kept : WordsRule k st) → get_elem? st.views id ≡ some v → WaitsFor k c s kept.log × StandsAsBefore s v.seen kept.log =
    λ st kept at. held_since k c s v.seen kept.log lt kept.sound (subst (λ x. Since x v.seen kept.log) who (kept.knows id v at).since) held in
    exchanges k slots id s (word_number record { issue = spec.issue; code = Committing }) (word_number record { issue = spec.issue + 1; code = Inactive }) me
    (λ n b w. ReleasedWord s v w) (is_cpu v c who) alone one most
    (λ st kept at found.
    let log = kept.log in
    let r = stands st kept at in
    let sole : solo (present s log) log ≡ Some c = r.1.solos ∙ ap (λ j. solo j v.seen) p ∙ may.alone in
    let issues : issue s log ≡ spec.issue = r.1.issues ∙ ap (λ (w : SlotState). w.issue) may.word in (
      Release s ∷ [],
      subst (λ x. Changes k x s (word_number record { issue = spec.issue + 1; code = Inactive }) log (Release s ∷ [])) (sym who) (record {
        adds = (
          tt,
          (
            inl kept.rests,
            (
              (r.0.ruled, inl (λ none. absurd (cc (sym sole ∙ none)))),
              λ a is. subst (λ (x : ℕ). scan k x log ≡ 0)
                  (same_cpu c a (sym (ap releaser sole) ∙ is)) (idle_log k st kept id v c at who may.idle),
            ),
          ),
          ap (λ o. Some (releaser o)) sole,
        );
        rests = refl;
        now = ap word_number (ap released (sym issues) ∙ sym (released_word k s log kept.sound));
        change = record { active = refl; others = λ t apart. ap word_number (elsewhere t (Release s) log apart); acks = λ a t. refl };
      }),
      (tt, tt),
      (λ left. (log, finds k st kept id v at (is_cpu v c who), left)),
    ))
    (λ st kept at other.
    let r = stands st kept at in
    absurd (other (kept.shows.slots s one most ∙ ap word_number (r.1.word ∙ may.word))))
