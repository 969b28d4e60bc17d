-- The two actors that there are were found idle.
use Rattle.std.proofs.Common.{rules}
use Rattle.test_plays.proofs.OneCpu.{all_idle}
use Rattle.test_plays.proofs.player.worlds.finish.Goals as goal

pub finish-requires : goal.finish-requires
finish-requires g c = record { idle = all_idle c.args.world.state.config c.args.world.state c.requires (search rules) (search rules) }
