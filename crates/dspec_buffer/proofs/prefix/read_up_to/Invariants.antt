use Rattle.std.proofs.Common.{◌-◌, length}
use Rattle.dspec_buffer.specs.Words.{HasRead}
use Rattle.dspec_buffer.proofs.prefix.read_up_to.Given as goal

abbrev pub invariant-loop-next : goal.invariant-loop-next
invariant-loop-next g l =
    HasRead (g.S.Schema.shape_of l.fn.schema) (g.S.Schema.accepted l.fn.schema) (g.S.Schema.text l.fn.schema) l.fn.text l.place

abbrev pub decreases-loop-next : goal.decreases-loop-next
decreases-loop-next g l = length l.fn.text - l.place
