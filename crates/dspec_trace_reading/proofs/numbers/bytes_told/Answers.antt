use Rattle.std.proofs.{Common.◌<◌, Common.arith, lemmas.List.Elements.All-from_get_or}
use Rattle.dspec_trace_reading.proofs.numbers.bytes_told.Goals as goal

pub returns : goal.returns
returns c = All-from_get_or (λ b. b < 256) c.args.bytes.now 0 (λ i within. omega (arith, c.type_inv.bytes i))
