use Rattle.std.proofs.{Common.◌++◌, Common.append_assoc, Common.◌∙◌, Common.ap, Common.rules, lemmas.Result.IfOk-equal}
use Rattle.dspec_schedule.specs.Words.{records_text}
use Rattle.dspec_schedule.proofs.printing.print_batch.Goals as goal

pub returns : goal.returns
returns c =
    let w = c.in_ok-write.ensures.bytes in
    IfOk-equal c.print_records.result _ _ _ c.print_records.ensures
    (ap (λ text. text ++ records_text c.args.header c.part.result.now) w ∙ rw c.part.ensures (search (rules, append_assoc)))
