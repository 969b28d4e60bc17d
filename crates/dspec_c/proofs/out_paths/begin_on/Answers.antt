use Rattle.std.proofs.Common.{rules}
use Rattle.dspec_c.proofs.LentPaths.{begins_lent}
use Rattle.dspec_c.proofs.out_paths.begin_on.Goals as goal

pub returns-clause-begins : goal.returns-clause-begins
returns-clause-begins c = begins_lent _ _ _ _ _ _ c.of-lent.result c.begin.new.cpu _ _ c.begin.ensures.begins c.of-lent.ensures.same (search rules)
