use Rattle.std.proofs.Common.{sym, ap, ◌∙◌}
use Rattle.dspec_picture.specs.Words.{CpuProgress}
use Rattle.dspec_picture.proofs.Tellable.{cpu_can_be_told}
use Rattle.dspec_picture.proofs.room.room_of_cpu.Goals as goal

pub aim_bytes-held-requires-clause-told : goal.aim_bytes-held-requires-clause-told
aim_bytes-held-requires-clause-told g c =
    let w = c.args.world.now in
    cpu_can_be_told (g.S.Schema.shape_of w.schema) w.state c.requires.promised.coherent c.args.cpu c.in-Some.flight c.requires.cpu
    (ap (λ (me : CpuProgress). me.flight) (sym c.progress-flight.ensures) ∙ c.in-Some.is)
