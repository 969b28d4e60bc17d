use Rattle.std.proofs.Common.{rules}
use Rattle.dspec_ctf_reading.proofs.ScanLemmas.{IsUtf8-run}
use Rattle.dspec_ctf_reading.proofs.scan.run.Goals as goal

pub returns-in_default : goal.returns-in_default
returns-in_default c =
    let text = IsUtf8-run c.args.set c.args.bytes.now c.split_at.result.0.now c.split_at.result.1.now (search rules) in
    absurd (search (rules, text))
