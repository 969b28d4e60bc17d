use Rattle.dspec_trace_reading.specs.Words.{Batch, Telling}
use Rattle.dspec_trace_reading.proofs.Through.{told_through}
use Rattle.dspec_trace_reading.proofs.running.end_in.Goals as goal

pub returns-clause-tells : goal.returns-clause-tells
returns-clause-tells g c =
    let F = Telling g.row.T.Denot in
    let sees = g.T.Sink.gets c.args.schema.now in
    let through : F → Batch → F → Type 0 = λ a b d. sees a.sink b d.sink in
    told_through through sees (λ (t : F). t.sink) (λ a b d got. got) 0 c.args.closed c.args.sink c.tell.new.sink c.tell.ensures
