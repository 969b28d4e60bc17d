use Rattle.std.proofs.Common.{ap, arith}
use Rattle.dspec_record.specs.{Words.layout-IsShape, declared.header.Header.TheVariants.One}
use Rattle.dspec_record.proofs.packing.words_for.Goals as goal

pub overflow_add-result : goal.overflow_add-result
overflow_add-result c =
    let shape = layout-IsShape One c.args.fields.now c.requires in
    record { fits = omega (arith, ap (λ s. s.size) c.laid_shape.ensures, shape.bounded) }
