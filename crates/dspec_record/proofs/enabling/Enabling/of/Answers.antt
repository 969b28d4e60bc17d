-- The copied fields stand before the places that hold no field; all that is worked out is theirs.
use Rattle.dspec_record.proofs.Filling.{IsLaidOut-copied}
use Rattle.dspec_record.proofs.enabling.Enabling.of.Goals as goal

pub invariant_of-result : goal.invariant_of-result
invariant_of-result c =
    rw (c.copy_from_slice.ensures.after, c.laid_shape.ensures, c.places_of.ensures, c.limits_of.ensures, c.words_for.ensures, c.masks_of.ensures) (IsLaidOut-copied c.args.fields.now c.requires)
