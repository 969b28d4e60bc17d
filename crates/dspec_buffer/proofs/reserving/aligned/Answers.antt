use Rattle.dspec_buffer.proofs.Rounding.{rounded-bit}
use Rattle.dspec_buffer.proofs.reserving.aligned.Goals as goal

pub returns-clause-is : goal.returns-clause-is
returns-clause-is c = rounded-bit c.args.offset c.args.align c.requires.whole_words c.requires.aligned
