-- The word that is found is the one that was expected.
use Rattle.std.proofs.{Common.◌≡◌, Common.true, Common.sym, Common.◌∙◌, Common.subst, lemmas.Bool.not-false}
use Rattle.dspec_core.specs.Words.{SlotState, commit_at, committed_by, measured_by, same_word, step_of}
use Rattle.dspec_interleaving.proofs.StepsWords.{same_word_tells, words_test}
use Rattle.dspec_core.proofs.machine.seen.Seen.tries_commit.Goals as goal

pub returns : goal.returns
returns c =
    let seen = c.args.self.now in
    let same : same_word seen.word c.args.from ≡ true = sym (words_test seen.word c.args.from) ∙ not-false _ (sym c.ne.ensures ∙ c.if-ne.false) in
    rw same (subst (λ (w : SlotState). step_of seen c.commits.result ≡ committed_by seen.config seen.cpu (measured_by seen) seen.me c.args.id (commit_at w c.args.id seen.mine))
    (same_word_tells seen.word c.args.from same) c.commits.ensures)
