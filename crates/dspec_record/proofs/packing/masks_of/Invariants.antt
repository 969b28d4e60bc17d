use Rattle.dspec_record.proofs.MakingMasks.{AreMasked}
use Rattle.dspec_record.proofs.packing.masks_of.Given as goal

abbrev pub invariant-loop-field : goal.invariant-loop-field
invariant-loop-field l = AreMasked l.field-index l.end l.masks l.fields
