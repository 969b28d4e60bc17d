use Rattle.std.proofs.Common.{rules}
use Rattle.dspec_c.proofs.LentPaths.{turns_lent}
use Rattle.dspec_c.proofs.out_paths.turn_on.Goals as goal

pub returns-clause-turns : goal.returns-clause-turns
returns-clause-turns c = turns_lent _ _ _ _ _ _ _ _ c.turn.ensures.turns c.of-lent.ensures.same (search rules)
