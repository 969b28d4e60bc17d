-- It is the same lane, and it served.
use Rattle.std.proofs.Common.{◌≡◌}
use Rattle.dspec.specs.Words.{called, place_of, ServedOn}
use Rattle.dspec.proofs.serving_on.WorkCounts.serve_on.Given as goal

abbrev pub invariant-loop-early : goal.invariant-loop-early
invariant-loop-early g l = record {
  same : place_of l.lane ≡ place_of l.fn.lane;
  served : ServedOn (called l.fn.lane.cpu.now) (called l.lane.cpu.now);
}

abbrev pub invariant-loop-late : goal.invariant-loop-late
invariant-loop-late g l = record {
  same : place_of l.lane ≡ place_of l.fn.lane;
  served : ServedOn (called l.fn.lane.cpu.now) (called l.lane.cpu.now);
}
