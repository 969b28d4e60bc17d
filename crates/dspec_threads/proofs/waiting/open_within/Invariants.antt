-- As many asks in vain as rounds.
use Rattle.std.proofs.Common.{◌≡◌}
use Rattle.dspec_threads.specs.Words.{HasList, place_of, AsksAndServes}
use Rattle.dspec_threads.proofs.waiting.open_within.Given as goal

abbrev pub invariant-loop : goal.invariant-loop
invariant-loop g l = record {
  same : place_of l.lane ≡ place_of l.fn.lane;
  asks : AsksAndServes (λ cpu p. HasList (g.S.Schema.shape_of cpu.schema) (g.S.Schema.accepted cpu.schema) (g.S.Schema.text cpu.schema) cpu p) l.counter l.fn.lane l.lane;
}
