use Rattle.dspec_trace_reading.specs.Words.{WorkedOn, one_for}
use Rattle.dspec_trace_reading.proofs.RanInto.{ran_into}
use Rattle.dspec_trace_reading.proofs.running.run_workers_in.Goals as goal

pub returns-in-Ok-ended-clause-ran : goal.returns-in-Ok-ended-clause-ran
returns-in-Ok-ended-clause-ran g c =
    let e = c.args.schema in
    let does = WorkedOn (g.W.Worker.does e) c.args.workers.now.items c.trace_workers-ended.new.workers.items in
    let end = c.end_in-traced in
    let k = one_for c.args.workers.now.items c.args.config.now in (
      c.in-Ok.begun,
      (
        c.in-Ok.is,
        end.ensures.uuid,
        ran_into (g.T.Sink.gets e) (g.K.Sink.gets e) does e k c.args.sink c.in-Ok.begun.sink c.trace_workers-ended.new.sink c.in-Ok-ended.closed end.result.closed
            end.result.sink c.in-Ok-ended.ensures.one_list end.ensures.closed end.ensures.tells,
      ),
    )
