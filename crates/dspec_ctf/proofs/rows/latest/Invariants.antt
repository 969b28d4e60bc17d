use Rattle.dspec_ctf.specs.Words.{IsFoundOf}
use Rattle.dspec_ctf.proofs.rows.latest.Given as goal

abbrev pub invariant-loop-place : goal.invariant-loop-place
invariant-loop-place l = IsFoundOf l.lasts l.place l.stamp l.found
