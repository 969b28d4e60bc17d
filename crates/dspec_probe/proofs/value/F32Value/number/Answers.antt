-- The number is the float's bits.
use Rattle.std.proofs.Common.{◌^◌, rules}
use Rattle.std.specs.Float.Ieee.{binary32}
use Rattle.dspec_probe.proofs.Floats.{float-to_bits}
use Rattle.dspec_probe.proofs.value.F32Value.number.Goals as goal

pub returns-clause-back : goal.returns-clause-back
returns-clause-back c = float-to_bits binary32 (2 ^ 32) _ c.args.self (c.well_formed.0.1) (search rules) (search rules)
