use Rattle.dspec_trace_reading.specs.Words.{ThenServed}
use Rattle.dspec_trace_reading.proofs.RanInto.{ran_into}
use Rattle.dspec_trace_reading.proofs.running.run_in.Goals as goal

pub returns-in-Ok-ended-clause-ran : goal.returns-in-Ok-ended-clause-ran
returns-in-Ok-ended-clause-ran g c = (
  c.in-Ok.begun,
  (
    c.in-Ok.is,
    c.end_in.ensures.uuid,
    ran_into (g.T.Sink.gets c.args.schema) (g.K.Sink.gets c.args.schema) (ThenServed (g.W.Work.does c.args.schema c.args.work.now)) c.args.schema c.args.config.now c.args.sink c.in-Ok.begun.sink
        c.trace-ended.new.sink c.in-Ok-ended.closed c.end_in.result.closed c.end_in.result.sink c.in-Ok-ended.ensures.one_list c.end_in.ensures.closed c.end_in.ensures.tells,
  ),
)
