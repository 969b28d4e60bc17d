use Rattle.std.proofs.Common.{◌-◌, length}
use Rattle.dspec_buffer.specs.Words.{HasRead}
use Rattle.dspec_buffer.proofs.reader.read_all.Given as goal

abbrev pub invariant-loop-found : goal.invariant-loop-found
invariant-loop-found g l =
    HasRead (g.S.Schema.shape_of l.fn.schema) (g.S.Schema.accepted l.fn.schema) (g.S.Schema.text l.fn.schema) l.fn.text l.place

abbrev pub decreases-loop-found : goal.decreases-loop-found
decreases-loop-found g l = length l.fn.text - l.place
