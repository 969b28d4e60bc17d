use Rattle.std.proofs.Common.{refl}
use Rattle.dspec_c.proofs.Calls.{on_lent}
use Rattle.dspec_c.proofs.parking_calls.park_on.Goals as goal

pub returns-in-Cpu-clause-answers : goal.returns-in-Cpu-clause-answers
returns-in-Cpu-clause-answers c = on_lent _ _ c.args.cpu.now _ _ _ _ c.lend.ensures.value c.in-Cpu.is
    (record { answer = c.park.result; numbered = c.of_parked.ensures.status; tells = c.of_parked.ensures.told; done = c.park.ensures; same = refl })
