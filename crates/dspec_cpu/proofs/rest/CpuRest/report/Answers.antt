use Rattle.dspec_cpu.proofs.{LegalParts.part_balanced, Ready.fated_by, Ready.told_by}
use Rattle.dspec_cpu.proofs.rest.CpuRest.report.Goals as goal

pub report-requires : goal.report-requires
report-requires g c =
    let rest = c.args.self.now in
    let some = c.requires in
    record { enough = fated_by rest.config rest.cpu rest.side.counts some.1 some.3.counted (part_balanced (g.S.Schema.shape_of rest.schema) rest.config rest.cpu some.2 some.1 some.4) }

pub returns : goal.returns
returns g c = λ handed p whole had legal.
    let rest = c.args.self.now in
    told_by rest.config rest.cpu rest.side.counts p had.counted (part_balanced (g.S.Schema.shape_of rest.schema) rest.config rest.cpu whole p legal) c.report.result c.report.ensures
