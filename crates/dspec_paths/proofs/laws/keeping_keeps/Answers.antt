use Rattle.dspec_paths.proofs.Keeping.{keeps_on}
use Rattle.dspec_paths.proofs.laws.keeping_keeps.Goals as goal

pub returns : goal.returns
returns g c cpu = keeps_on (g.B.SpeculationCalls.lacks_room cpu)
