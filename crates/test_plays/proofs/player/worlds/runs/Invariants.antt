-- What the calls keep.
use Rattle.std.proofs.Common.{◌≡◌}
use Rattle.test_plays.proofs.player.worlds.runs.Given as goal

abbrev pub invariant-loop-line : goal.invariant-loop-line
invariant-loop-line g l = l.world.state.config ≡ l.initial.world.state.config
