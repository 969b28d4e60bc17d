use Rattle.std.proofs.Common.{All, take}
use Rattle.dspec_ctf.specs.Words.{Accepts}
use Rattle.dspec_ctf.proofs.records.first_refused.Given as goal

abbrev pub invariant-loop-place : goal.invariant-loop-place
invariant-loop-place l = All (Accepts l.enablings) (take l.place l.records)
