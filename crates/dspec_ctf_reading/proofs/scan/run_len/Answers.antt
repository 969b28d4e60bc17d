use Rattle.std.proofs.{Common.rules, Common.arith, Common.length, lemmas.Grind.common_steps}
use Rattle.dspec_ctf_reading.specs.Words.{test_of}
use Rattle.dspec_ctf_reading.proofs.ScanLemmas.{run-ends}
use Rattle.dspec_ctf_reading.proofs.scan.run_len.Goals as goal

pub returns-then-not-has-clause-parts : goal.returns-then-not-has-clause-parts
returns-then-not-has-clause-parts c =
    run-ends (test_of c.args.set) c.loop-place.place c.args.bytes.now (omega arith) (search rules) (λ below. search rules)

pub returns-clause-parts : goal.returns-clause-parts
returns-clause-parts c =
    run-ends (test_of c.args.set) (length c.args.bytes.now) c.args.bytes.now (omega arith) (grind (arith, common_steps)) (λ below. absurd (omega (arith, below)))
