-- A write fault comes after the play.
use Rattle.std.proofs.Common.{◌∙◌, subst}
use Rattle.specplay.specs.Words.{Prints, plan_of}
use Rattle.specplay.proofs.WritingLemmas.{cut_off_of, prints_of, told_of}
use Rattle.specplay.proofs.runner.run.Goals as goal

pub returns-clause-told : goal.returns-clause-told
returns-clause-told g c =
    told_of (g.R.Read.remaining c.args.input.now) c.in_ok-text.text.items c.as_str.result.now c.write_whole.result c.write_whole.ensures.err c.in_ok-text.ensures.whole
    (subst (λ text. Prints text c.as_str.result.now) c.as_slice.ensures.value
    (prints_of c.as_slice.result.now c.as_str.result.now (plan_of c.in_ok-played.played.schedule) c.in_ok-played.played.outcome c.header.result
    c.in_ok-played.ensures.played c.header.ensures (c.as_str.ensures.value ∙ c.in_ok-page.ensures)))

pub returns-clause-cut_off : goal.returns-clause-cut_off
returns-clause-cut_off g c = λ is.
    cut_off_of (g.R.Read.remaining c.args.input.now) (g.W.Write.contents c.args.output.now) (g.W.Write.contents c.write_whole.new.output)
    c.in_ok-text.text.items c.as_str.result.now c.write_whole.result is c.write_whole.ensures.cut_off c.in_ok-text.ensures.whole
    (subst (λ text. Prints text c.as_str.result.now) c.as_slice.ensures.value
    (prints_of c.as_slice.result.now c.as_str.result.now (plan_of c.in_ok-played.played.schedule) c.in_ok-played.played.outcome c.header.result
    c.in_ok-played.ensures.played c.header.ensures (c.as_str.ensures.value ∙ c.in_ok-page.ensures)))
