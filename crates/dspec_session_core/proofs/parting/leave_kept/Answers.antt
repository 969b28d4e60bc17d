use Rattle.std.proofs.Common.{subst}
use Rattle.dspec_session_core.specs.Words.{last_words, RestHasList, config_of_rest, number_of_rest, schema_of_rest, worn_of_rest, Leaves}
use Rattle.dspec_session_core.proofs.parting.leave_kept.Goals as goal

pub returns : goal.returns
returns g c =
    let shape_of = g.S.Schema.shape_of in
    let accepted = g.S.Schema.accepted in
    let text = g.S.Schema.text in
    subst (λ r. Leaves shape_of accepted text (λ q. RestHasList (shape_of (schema_of_rest r)) (accepted (schema_of_rest r)) (text (schema_of_rest r)) r c.args.end.handed q)
    (last_words c.args.last.now) c.args.other.taken c.leave.result (schema_of_rest r) (config_of_rest r) (number_of_rest r) (worn_of_rest r)) c.with_schema.ensures c.leave.ensures
