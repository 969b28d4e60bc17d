use Rattle.std.proofs.Common.{sym}
use Rattle.dspec_core.proofs.Makings.{progress_is}
use Rattle.dspec_core.proofs.world.World.progress.Goals as goal

pub returns : goal.returns
returns g c =
    let lt = rw (← c.self.view_is) at c.requires in
    rw (← c.self.view_is) (sym (progress_is c.self.invariant.shown lt c.index.ensures))
