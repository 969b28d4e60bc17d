use Rattle.std.proofs.Common.{◌++◌, ◌∙◌, All, ap, sym, subst}
use Rattle.dspec_ctf.specs.Words.{Accepts}
use Rattle.dspec_ctf.proofs.Texts.{text-accepted}
use Rattle.dspec_ctf.proofs.rows.records_of.Goals as goal

pub returns-clause-accepted : goal.returns-clause-accepted
returns-clause-accepted c =
    let same = c.in_ok-add_records.ensures.added ∙ ap (λ front. front ++ c.in-Ok.records) c.new-recs.ensures.items in
    subst (All (Accepts c.args.enablings.now)) (sym same) (text-accepted c.args.enablings.now c.args.text.now c.in-Ok.records c.in-Ok.ensures.records)
