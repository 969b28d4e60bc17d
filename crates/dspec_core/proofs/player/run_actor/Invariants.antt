-- The run so far, and what its steps keep.
use Rattle.std.proofs.Common.{◌≡◌}
use Rattle.dspec_core.specs.Words.{most_steps, HasHeadline}
use Rattle.dspec_interleaving.proofs.PlayerMoves.{RunsOn}
use Rattle.dspec_core.proofs.player.run_actor.Given as goal

abbrev pub invariant-loop : goal.invariant-loop
invariant-loop g l =
    RunsOn (g.S.Schema.shape_of l.initial.world.schema) l.actor (most_steps l.config l.actor) l.counter l.initial.world.state l.initial.answers l.world.state l.answers
    × (l.world.schema ≡ l.initial.world.schema)
    × (l.world.state.config ≡ l.config)
    × HasHeadline (g.S.Schema.shape_of l.world.schema) l.world.state
