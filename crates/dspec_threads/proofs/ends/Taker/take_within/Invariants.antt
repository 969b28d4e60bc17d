-- As many services as rounds, and nothing was taken.
use Rattle.std.proofs.Common.{◌≡◌}
use Rattle.dspec_threads.specs.Words.{HasList, place_of, taken_by, taken_from_belt, ServesTimes}
use Rattle.dspec_threads.proofs.ends.Taker.take_within.Given as goal

abbrev pub invariant-loop : goal.invariant-loop
invariant-loop g l = record {
  same : place_of l.lane ≡ place_of l.fn.lane;
  belt : taken_from_belt l.self ≡ taken_from_belt l.fn.self;
  taken : taken_by l.self ≡ taken_by l.fn.self;
  serves : ServesTimes (λ cpu p. HasList (g.S.Schema.shape_of cpu.schema) (g.S.Schema.accepted cpu.schema) (g.S.Schema.text cpu.schema) cpu p) l.counter l.fn.lane l.lane;
}
