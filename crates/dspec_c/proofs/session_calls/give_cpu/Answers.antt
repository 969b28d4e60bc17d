use Rattle.std.proofs.Common.{refl, inl}
use Rattle.dspec_c.proofs.session_calls.give_cpu.Goals as goal

pub returns : goal.returns
returns c = inl (
  refl,
  record {
    side = c.in-Ok-cpu.out;
    goes = c.in-Ok-cpu.ensures.goes;
    full = c.put.ensures.full;
    holds = c.put.ensures.holds;
  },
)
