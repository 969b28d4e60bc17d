-- A stamp makes the text longer by its own eight bytes, and moves no alignment.
use Rattle.std.proofs.Common.{◌≡◌, ◌+◌, ℕ, List, Some, sym, ◌∙◌, ap, arith}
use Rattle.dspec_record.specs.Words.{fields_start, layout, packed_fields, layout-IsShape, size-moved}
use Rattle.dspec_record.specs.declared.{field.Field.Field, header.Header.Header, header.Header.TheVariants.One}
use Rattle.dspec_record.proofs.PackedRecords.{few-taken}
use Rattle.dspec_record.proofs.packed.RefPackedRecorded.laid_shape.Goals as goal

pub overflow_add-result : goal.overflow_add-result
overflow_add-result g c =
    let shape = layout-IsShape One (packed_fields c.args.self.now.now) (few-taken c.args.self.now.now.len c.args.self.now.now.fields c.args.self.now.now.few) in
    record { fits = omega (arith, ap (λ s. s.size) c.args.self.now.now.laid, shape.bounded, c.stamp_size.ensures.few) }

pub returns : goal.returns
returns g c =
    let fs : List Field = packed_fields c.args.self.now.now in
    let h : Header = g.H.KnownHeader.header_is in
    let moved : ℕ = c.stamp_size.result in
    let by : 4 + moved ≡ fields_start h = c.stamp_size.ensures.moves ∙ ap fields_start c.header.ensures in
    let size : c.args.self.now.now.shape.size + moved ≡ (layout h fs).size = ap (λ s. s.size + moved) c.args.self.now.now.laid ∙ sym (size-moved h moved fs by) in
    let align : c.args.self.now.now.shape.align ≡ (layout h fs).align = ap (λ s. s.align) c.args.self.now.now.laid in
    λ i. Some (record { size = size i; align = align i })
