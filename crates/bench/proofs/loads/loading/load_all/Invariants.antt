use Rattle.std.proofs.Common.{◌≡◌}
use Rattle.dspec_deeds.specs.declared.calls.CpuOp.TheVariants as op
use Rattle.bench.specs.Words.{scan, known, IsAt, set_up, cpu_of}
use Rattle.bench.proofs.loads.loading.load_all.Given as goal

abbrev pub invariant-loop : goal.invariant-loop
invariant-loop l = record {
  seat : IsAt l.words l.seat × (cpu_of l.seat ≡ cpu_of l.fn.seat);
  idle : scan (set_up l.words) (cpu_of l.seat) (known l.seat).own ≡ 0;
  op : l.call.op ≡ op.Trace l.fn.rec;
}
