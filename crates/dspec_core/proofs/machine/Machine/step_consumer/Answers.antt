use Rattle.std.proofs.lemmas.Result.{IfOk-weaker}
use Rattle.dspec_core.proofs.Keepings.{cleaned_kept}
use Rattle.dspec_core.proofs.machine.Machine.step_consumer.Goals as goal

pub returns-in-Some-clause-kept : goal.returns-in-Some-clause-kept
returns-in-Some-clause-kept g c =
    IfOk-weaker c.step_consumer_flight.result _ _
    (λ a cleans. cleaned_kept g.B.TraceBuffer.has g.B.TraceBuffer.capacity g.S.Schema.shape_of g.S.Schema.accepted c.args.self.now _ c.in-Some.flight a c.requires.kept c.in-Some.is cleans)
    c.step_consumer_flight.ensures.cleans
