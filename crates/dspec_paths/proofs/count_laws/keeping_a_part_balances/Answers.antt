use Rattle.dspec_paths.specs.{Words.has_part_at, Words.Places, declared.path_key.PathKey.PathKey}
use Rattle.dspec_paths.proofs.Balances.{keeps_part}
use Rattle.dspec_paths.proofs.count_laws.keeping_a_part_balances.Goals as goal

pub returns : goal.returns
returns g c cpu = keeps_part (λ (k : PathKey) (ps : Places). has_part_at k.place ps) (g.B.SpeculationCalls.lacks_room cpu)
