-- What was written so far stands before the rest.
use Rattle.specplay.specs.Words.{AppendsBefore}
use Rattle.specplay.proofs.runner.write_bytes.Given as goal

abbrev pub invariant-loop : goal.invariant-loop
invariant-loop g l = AppendsBefore (g.W.Write.contents l.initial.output) (g.W.Write.contents l.output) l.bytes l.rest
