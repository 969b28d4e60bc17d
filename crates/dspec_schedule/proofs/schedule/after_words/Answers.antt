use Rattle.std.proofs.{Common.rules, Common.map, lemmas.Result.err_from_is_err_and}
use Rattle.dspec_schedule.proofs.LineLemmas.{words_read-first_fault}
use Rattle.dspec_schedule.proofs.schedule.after_words.Goals as goal

pub returns-in_err-first_line-in-None-clause-refused : goal.returns-in_err-first_line-in-None-clause-refused
returns-in_err-first_line-in-None-clause-refused c =
    let p = err_from_is_err_and c.from_residual.result c.from_residual.ensures.1 in
    rw (p.1, p.2) (words_read-first_fault _ c.args.line _ c.in-Some.first.now.now (map (λ word. word.now) c.in-Some.rest.now) _
    (search rules) (search rules) c.in_err-first_line-in-None.ensures.refused)
