-- The side counts what the list counts.
use Rattle.std.proofs.Common.{sym, ap, ◌∙◌}
use Rattle.dspec_core.specs.Words.{CpuProgress, history}
use Rattle.dspec_core.proofs.{MachineReads.cpu_read, Makings.progress_is, Rooms.fates_within, Rooms.told}
use Rattle.dspec_core.proofs.machine.Machine.report.Goals as goal

pub report-requires : goal.report-requires
report-requires g c =
    let m = c.args.self.now in
    let shows = cpu_read _ _ m c.requires.shown c.args.cpu _ c.requires.cpu c.index.ensures in
    record { enough = fates_within (g.S.Schema.shape_of m.schema) m.config c.args.cpu (history m) _ shows.side.counted c.requires.legal }

pub returns : goal.returns
returns g c =
    let m = c.args.self.now in
    let shows = cpu_read _ _ m c.requires.shown c.args.cpu _ c.requires.cpu c.index.ensures in
    let worn = shows.worn ∙ ap (λ (x : CpuProgress). x.worn) (sym (progress_is c.requires.shown c.requires.cpu c.index.ensures)) in
    told (g.S.Schema.shape_of m.schema) m.config c.args.cpu (history m) _ _ c.report.result shows.side.counted worn c.requires.legal c.report.ensures
