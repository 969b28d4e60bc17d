-- A released slot has the next issue, and the sides stay.
use Rattle.std.proofs.Common.{◌≡◌, ℕ, ◌+◌, ◌∙◌, refl, sym, ap, arith}
use Rattle.dspec_core.specs.Words.{Inactive, Release, issue, present, history}
use Rattle.dspec_deeds.proofs.{PresentIds.decided_given, WordChanges.released_word}
use Rattle.dspec_interleaving.proofs.Counts.{issue_below, issues_fit}
use Rattle.dspec_core.proofs.{OneMore.all_enter, OneMore.cpus_released, OneMore.read_word, WordsShown.words_set}
use Rattle.dspec_core.proofs.machine.Machine.enter_release.Goals as goal

pub of-requires : goal.of-requires
of-requires g c =
    let m = c.args.self.now in
    let h = history m in
    let s = c.args.slot in
    let sound = c.requires.may.legal.0 in
    let issued : c.issue-issue.result ≡ issue s h
    = c.issue-issue.ensures.value ∙ ap (λ w. w.issue) (read_word m c.requires.may.shown s s c.index.result.now c.requires.slot refl c.index.ensures) in
    let below = issue_below m.config h (present s h) sound.0 (decided_given m.config h (present s h) sound.0 sound.1.1.0.0) in
    let fit = issues_fit m.config c.requires.may.ranges in
    omega arith

pub returns-clause-shown : goal.returns-clause-shown
returns-clause-shown g c =
    let m = c.args.self.now in
    let h = history m in
    let s = c.args.slot in
    let was = c.requires.may.shown in
    let issued : c.issue-issue.result ≡ issue s h
    = c.issue-issue.ensures.value ∙ ap (λ w. w.issue) (read_word m was s s c.index.result.now c.requires.slot refl c.index.ensures) in
    let left = c.of.ensures ∙ (ap (λ (i : ℕ). record { issue = i + 1; code = Inactive }) issued ∙ sym (released_word m.config s h c.requires.may.legal.0.0)) in
    all_enter was c.in_ok-push.ensures.ok _ refl (words_set m.config (Release s) h m.words.items c.of.result c.requires.slot.0 c.requires.slot.1 left was.words)
    (cpus_released _ _ m.schema m.config h m.cpus.items was.cpus s)
