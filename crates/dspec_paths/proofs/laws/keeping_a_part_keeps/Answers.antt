use Rattle.dspec_paths.proofs.Keeping.{part_keeps_on}
use Rattle.dspec_paths.proofs.laws.keeping_a_part_keeps.Goals as goal

pub returns : goal.returns
returns g c cpu = part_keeps_on (g.B.SpeculationCalls.lacks_room cpu)
