-- A slot given out has the word of its present speculation, and the sides stay.
use Rattle.std.proofs.Common.{◌≡◌, ℕ, ◌∷◌, ◌-◌, ◌∙◌, slice_set, refl, sym, ap, subst}
use Rattle.dspec_core.specs.Words.{Active, Opened, issue, history, ShowsWords}
use Rattle.dspec_deeds.proofs.WordChanges.{opened_word}
use Rattle.dspec_core.proofs.{OneMore.all_enter, OneMore.cpus_opened, OneMore.read_word, WordsShown.words_set}
use Rattle.dspec_core.proofs.machine.Machine.enter_opened.Goals as goal

pub returns-clause-shown : goal.returns-clause-shown
returns-clause-shown g c =
    let m = c.args.self.now in
    let h = history m in
    let id = c.args.id in
    let d = Opened c.args.cpu id in
    let was = c.requires.may.shown in
    let issued : c.issue-issue.result ≡ issue id.slot h
    = c.issue-issue.ensures.value ∙ ap (λ w. w.issue) (read_word m was id.slot c.slot.result c.index.result.now c.requires.slot c.slot.ensures.value c.index.ensures) in
    let left = c.of.ensures ∙ (ap (λ (i : ℕ). record { issue = i; code = Active }) issued ∙ sym (opened_word m.config c.args.cpu id h c.requires.may.legal.0)) in
    let words = subst (λ s. ShowsWords m.config (d ∷ h) (slice_set m.words.items (s - 1) c.of.result)) (sym c.slot.ensures.value)
    (words_set m.config d h m.words.items c.of.result c.requires.slot.0 c.requires.slot.1 left was.words) in
    all_enter was c.in_ok-push.ensures.ok _ refl words (cpus_opened _ _ m.schema m.config h m.cpus.items was.cpus c.args.cpu id)
