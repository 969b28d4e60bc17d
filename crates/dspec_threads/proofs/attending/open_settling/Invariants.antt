-- As many asks in vain as rounds.
use Rattle.std.proofs.Common.{◌≡◌}
use Rattle.dspec_threads.specs.Words.{HasList, place_of, AsksTimes, settled_by, settled_from}
use Rattle.dspec_threads.proofs.attending.open_settling.Given as goal

abbrev pub invariant-loop : goal.invariant-loop
invariant-loop g l = record {
  same : place_of l.lane ≡ place_of l.fn.lane;
  ring : settled_from l.settler ≡ settled_from l.fn.settler;
  asks : AsksTimes (λ cpu p. HasList (g.S.Schema.shape_of cpu.schema) (g.S.Schema.accepted cpu.schema) (g.S.Schema.text cpu.schema) cpu p)
      g.J.Judging.may l.counter (settled_by l.fn.settler) (settled_by l.settler) l.fn.lane l.lane;
}
