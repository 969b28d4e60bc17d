-- The CPUs that have run to their ends.
use Rattle.std.proofs.Common.{◌≡◌}
use Rattle.dspec_core.specs.Words.{HasHeadline}
use Rattle.dspec_interleaving.proofs.PlayerRuns.{RanCpus}
use Rattle.dspec_core.proofs.player.run_all.Given as goal

abbrev pub invariant-loop-cpu : goal.invariant-loop-cpu
invariant-loop-cpu g l =
    RanCpus (g.S.Schema.shape_of l.initial.world.schema) l.cpu l.initial.world.state l.initial.answers l.world.state l.answers
    × (l.world.schema ≡ l.initial.world.schema)
    × (l.world.state.config ≡ l.config)
    × HasHeadline (g.S.Schema.shape_of l.world.schema) l.world.state
