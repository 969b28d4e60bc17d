use Rattle.std.proofs.Common.{◌≡◌, ◌+◌, ℕ, refl, subst, arith}
use Rattle.dspec.specs.Words.{words_of, VisitsFirst, none_visited, one_more}
use Rattle.dspec.proofs.Passing.{ends_taken, passes_both, passes_nothing, passes_released}
use Rattle.dspec.proofs.running.visit_all.Goals as goal

pub loop-cpu-init : goal.loop-cpu-init
loop-cpu-init g c = (
  passes_nothing (g.K.Sink.gets c.args.schema.now) (words_of c.args.shared.now) c.args.consumer.now c.args.sink.now c.requires,
  none_visited,
)

pub loop-cpu-preserved : goal.loop-cpu-preserved
loop-cpu-preserved g c = (
  passes_both (g.K.Sink.gets c.args.schema.now) (words_of c.args.shared.now) c.args.consumer.now c.loop-cpu.consumer c.visit.new.consumer
      c.args.sink.now c.loop-cpu.sink c.visit.new.sink c.loop-cpu.invariant.0 c.visit.ensures.passes,
  one_more (c.loop-cpu.cpu + 1) c.visit.new.consumer c.visit.new.sink c.loop-cpu.invariant.1 c.visit.ensures.visited refl,
)

pub returns-clause-passes : goal.returns-clause-passes
returns-clause-passes g c =
    passes_both (g.K.Sink.gets c.args.schema.now) (words_of c.args.shared.now) c.args.consumer.now c.loop-cpu.consumer c.clean.new.self
    c.args.sink.now c.loop-cpu.sink c.loop-cpu.sink c.loop-cpu.invariant.0
    (passes_released (g.K.Sink.gets c.args.schema.now) (words_of c.args.shared.now) c.loop-cpu.consumer c.clean.new.self c.loop-cpu.sink c.clean.ensures.cleaned.slots
    (record { session = c.clean.ensures.session; same = c.clean.ensures.same }) (ends_taken c.loop-cpu.consumer c.clean.new.self c.clean.ensures.ends) c.clean.ensures.cleaned.own)

pub returns-clause-round : goal.returns-clause-round
returns-clause-round g c =
    let over = c.loop-cpu-test.false in
    let end = c.loop-cpu.auto.cpu-end in
    let all : c.loop-cpu.cpu ≡ c.args.count = omega arith in
    record {
      visited = c.loop-cpu.consumer;
      visits = subst (λ (n : ℕ). VisitsFirst (g.K.Sink.gets c.args.schema.now) c.args.consumer.now c.args.sink.now n c.loop-cpu.consumer c.loop-cpu.sink) all c.loop-cpu.invariant.1;
      released = c.clean.result;
      cleans = c.clean.ensures.cleaned;
      ends = c.clean.ensures.ends;
    }
