-- The accepted records, of the CPU's side.
use Rattle.std.proofs.Common.{◌∙◌}
use Rattle.dspec_core.proofs.MachineReads.{cpu_read}
use Rattle.dspec_core.proofs.world.World.accepted.Goals as goal

pub returns : goal.returns
returns g c =
    let lt = rw (← c.self.view_is) at c.requires in
    rw (← c.self.view_is) (c.as_slice.ensures ∙ (cpu_read _ _ _ c.self.invariant.shown c.args.cpu _ lt c.index.ensures).accepted)
