-- A stamp makes a record longer by its own eight bytes, and moves no alignment.
use Rattle.std.proofs.{Common.◌≡◌, Common.◌+◌, Common.◌≤◌, Common.ℕ, Common.List, Common.length, Common.take, Common.sym, Common.◌∙◌, Common.ap, Common.arith, lemmas.List.length-take-le}
use Rattle.dspec_record.specs.{Words.layout, Words.layout-IsShape, Words.size-moved, declared.field.Field.Field, declared.header.Header.Header, declared.header.Header.TheVariants.One}
use Rattle.dspec_record.proofs.enabling.Enabling.shape.Goals as goal

pub overflow_add-result : goal.overflow_add-result
overflow_add-result c =
    let fs : List Field = take c.self.inside.len c.self.inside.fields in
    let few : length fs ≤ 8 = omega (arith, length-take-le c.self.inside.len c.self.inside.fields (omega arith)) in
    let size : c.self.inside.shape.size ≡ (layout One fs).size = ap (λ s. s.size) c.self.invariant.shape in
    record { fits = omega (arith, size, (layout-IsShape One fs few).bounded, c.requires.little) }

pub returns-clause-layout : goal.returns-clause-layout
returns-clause-layout c =
    let fs : List Field = take c.self.inside.len c.self.inside.fields in
    let h : Header = c.args._header in
    let moved : ℕ = c.args.stamp in
    let size : c.self.inside.shape.size + moved ≡ (layout h fs).size = ap (λ s. s.size + moved) c.self.invariant.shape ∙ sym (size-moved h moved fs c.requires.moves) in
    let align : c.self.inside.shape.align ≡ (layout h fs).align = ap (λ s. s.align) c.self.invariant.shape in
    let made : record { size = c.self.inside.shape.size + moved; align = c.self.inside.shape.align } ≡ layout h fs =
    λ i. record { size = size i; align = align i } in
    made ∙ ap (layout h) c.self.view_is
