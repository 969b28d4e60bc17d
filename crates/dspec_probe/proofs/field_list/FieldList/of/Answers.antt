-- The copied fields stand before the places that hold no field.
use Rattle.dspec_probe.proofs.Filling.{IsFieldList-copied}
use Rattle.dspec_probe.proofs.field_list.FieldList.of.Goals as goal

pub invariant_of-result : goal.invariant_of-result
invariant_of-result c = rw c.copy_from_slice.ensures.after (IsFieldList-copied c.args.fields.now c.requires)
