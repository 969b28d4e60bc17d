-- The side of a CPU shows the list, by what a world keeps.
use Rattle.dspec_core.proofs.MachineReads.{cpu_read}
use Rattle.dspec_core.proofs.world.World.side.Goals as goal

pub returns : goal.returns
returns g c =
    let lt = rw (← c.self.view_is) at c.requires in
    rw (← c.self.view_is) (cpu_read _ _ _ c.self.invariant.shown c.args.cpu _ lt c.index.ensures).side
