-- As many looks in vain as rounds, and nothing was taken; what was seen to be said before is settled after the first.
use Rattle.std.proofs.Common.{◌≡◌, ◌<◌, ◌++◌}
use mathlib.Core.List.{IsPrefix}
use Rattle.dspec_threads.specs.Words.{HasList, place_of, AttendsTimes, taken_by, taken_from_belt, seen_by, settled_by, settled_from}
use Rattle.dspec_threads.proofs.ends.Taker.take_settling.Given as goal

abbrev pub invariant-loop : goal.invariant-loop
invariant-loop g l = record {
  same : place_of l.lane ≡ place_of l.fn.lane;
  belt : taken_from_belt l.self ≡ taken_from_belt l.fn.self;
  ring : settled_from l.settler ≡ settled_from l.fn.settler;
  taken : taken_by l.self ≡ taken_by l.fn.self;
  attends : AttendsTimes (λ cpu p. HasList (g.S.Schema.shape_of cpu.schema) (g.S.Schema.accepted cpu.schema) (g.S.Schema.text cpu.schema) cpu p)
      g.J.Judging.may l.counter (settled_by l.fn.settler) (settled_by l.settler) l.fn.lane l.lane;
  seen : IsPrefix (settled_by l.fn.settler ++ seen_by l.fn.settler) (settled_by l.settler ++ seen_by l.settler);
  settled : 0 < l.counter → IsPrefix (settled_by l.fn.settler ++ seen_by l.fn.settler) (settled_by l.settler);
}
