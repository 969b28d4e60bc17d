-- The turns that are played.
use Rattle.std.proofs.Common.{◌≡◌}
use Rattle.dspec_core.specs.Words.{HasHeadline}
use Rattle.dspec_interleaving.proofs.PlayerRuns.{IsSoFar}
use Rattle.dspec_core.proofs.player.play_shown.Given as goal

abbrev pub invariant-loop-number : goal.invariant-loop-number
invariant-loop-number g l =
    IsSoFar (g.S.Schema.shape_of l.fn.schema) (g.S.Schema.accepted l.fn.schema) l.config l.turns l.number l.world.state l.answers
    × (l.world.schema ≡ l.fn.schema)
    × (l.world.state.config ≡ l.config)
    × HasHeadline (g.S.Schema.shape_of l.world.schema) l.world.state
