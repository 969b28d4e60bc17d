use Rattle.std.proofs.Common.{rules}
use Rattle.dspec_ctf_reading.proofs.ScanLemmas.{after-told}
use Rattle.dspec_ctf_reading.proofs.scan.after.Goals as goal

pub returns : goal.returns
returns c = after-told c.args.text.now c.args.bytes.now c.strip_prefix.result (search rules)
