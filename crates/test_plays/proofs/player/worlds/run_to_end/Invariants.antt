-- What the steps keep.
use Rattle.std.proofs.Common.{◌≡◌}
use Rattle.test_plays.proofs.player.worlds.run_to_end.Given as goal

abbrev pub invariant-loop-made : goal.invariant-loop-made
invariant-loop-made g l = l.world.state.config ≡ l.initial.world.state.config
