use Rattle.dspec_cpu.proofs.Shown.{shows}
use Rattle.dspec_cpu.proofs.parts.CpuParts.measure_slot.Goals as goal

pub returns-clause-fits : goal.returns-clause-fits
returns-clause-fits g c = λ within p shown caller. c.measure.ensures.fits c.args.self.now.schema c.args.self.now.cpu p (shows _ _ _ c.args.self.now.side p shown) caller

pub returns-clause-count : goal.returns-clause-count
returns-clause-count g c = λ within p shown caller. c.measure.ensures.count c.args.self.now.schema c.args.self.now.cpu p (shows _ _ _ c.args.self.now.side p shown) caller
