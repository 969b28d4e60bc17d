use Rattle.std.proofs.Common.{◌≡◌}
use Rattle.bench.specs.Words.{scan, known, IsAt, set_up, cpu_of}
use Rattle.bench.proofs.loads.timing.least.Given as goal

abbrev pub invariant-loop : goal.invariant-loop
invariant-loop l = record {
  seat : IsAt l.words l.seat × (cpu_of l.seat ≡ cpu_of l.fn.seat);
  idle : scan (set_up l.words) (cpu_of l.seat) (known l.seat).own ≡ 0;
}
