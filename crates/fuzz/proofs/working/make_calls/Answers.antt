use Rattle.std.proofs.Common.{◌∙◌}
use Rattle.fuzz.proofs.working.make_calls.Goals as goal
use Rattle.fuzz.proofs.working.make_calls.Goals.{then-is_accepted, else-is_accepted}

pub loop-round-preserved : goal.loop-round-preserved
loop-round-preserved c = elim c.if-is_accepted.branch [
  | then-is_accepted w ↦ rw w.cpu-is (w.call_cpu-answer.ensures.same ∙ c.loop-round.invariant)
  | else-is_accepted w ↦ rw w.cpu-is c.loop-round.invariant
]
