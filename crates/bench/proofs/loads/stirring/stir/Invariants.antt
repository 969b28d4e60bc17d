use Rattle.std.proofs.Common.{◌≡◌}
use Rattle.bench.specs.Words.{known, IsAt, set_up, cpu_of, Unused}
use Rattle.bench.proofs.loads.stirring.stir.Given as goal

abbrev pub invariant-loop : goal.invariant-loop
invariant-loop l = record {
  seat : IsAt l.words l.seat × (cpu_of l.seat ≡ cpu_of l.fn.seat);
  unused : Unused (set_up l.words) (cpu_of l.fn.seat) (known l.seat).own;
}
