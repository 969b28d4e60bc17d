-- No more batches are taken than can be counted.
use Rattle.dspec_core.specs.Words.{state_of}
use Rattle.dspec_interleaving.proofs.CleanReads.{takes_fit}
use Rattle.dspec_core.proofs.machine.Machine.step_take.Goals as goal

pub take_batch-requires-clause-fits : goal.take_batch-requires-clause-fits
take_batch-requires-clause-fits g c = let m = c.args.self.now in takes_fit (g.S.Schema.shape_of m.schema) (state_of m) c.requires.stands.coherent c.args.cpu c.requires.cpu
