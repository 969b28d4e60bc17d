use Rattle.dspec.specs.Words.{words_of, no_rounds, rounds_more}
use Rattle.dspec.proofs.Passing.{passes_both, passes_nothing}
use Rattle.dspec.proofs.running.drain.Goals as goal

pub loop-init : goal.loop-init
loop-init g c = (
  passes_nothing (g.K.Sink.gets c.args.schema.now) (words_of c.args.shared.now) c.args.consumer.now c.args.sink.now c.requires,
  no_rounds,
)

pub loop-preserved : goal.loop-preserved
loop-preserved g c = (
  passes_both (g.K.Sink.gets c.args.schema.now) (words_of c.args.shared.now) c.args.consumer.now c.loop.consumer c.visit_all.new.consumer
      c.args.sink.now c.loop.sink c.visit_all.new.sink c.loop.invariant.0 c.visit_all.ensures.passes,
  rounds_more c.visit_all.new.consumer c.visit_all.new.sink c.loop.invariant.1 c.visit_all.ensures.round,
)
