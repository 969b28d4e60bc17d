use Rattle.std.proofs.Common.{◌≡◌, ◌∙◌, sym}
use Rattle.dspec_cpu.specs.Words.{in_range, rests}
use Rattle.dspec_cpu.proofs.{Leaves.worn_leaves, Marked.marked_inside, Marked.marked_is, parts.CpuParts.speculate.Goals.then-mine-2, parts.CpuParts.speculate.Goals.else-mine-2}
use Rattle.dspec_cpu.proofs.parts.CpuParts.speculate.Goals as goal

pub returns-then-self-clause-did : goal.returns-then-self-clause-did
returns-then-self-clause-did g c = rests

pub returns-then-self-clause-leaves : goal.returns-then-self-clause-leaves
returns-then-self-clause-leaves g c = worn_leaves c.args.self.now 4 c.wear.new.self c.if-self.true c.wear.ensures

pub offer-requires-clause-inside : goal.offer-requires-clause-inside
offer-requires-clause-inside g c =
    let cpu = c.args.self.now in
    sym (marked_inside cpu.config c.args.id _ _ c.requires.ready.steady.listed.shown.side.mark_count c.has-mine.ensures.marked c.if-mine.true)

pub offer-requires-clause-mine : goal.offer-requires-clause-mine
offer-requires-clause-mine g c = λ within p shown.
    let cpu = c.args.self.now in
    let inside = marked_inside cpu.config c.args.id _ _ c.requires.ready.steady.listed.shown.side.mark_count c.has-mine.ensures.marked c.if-mine.true in
    sym c.if-mine.true ∙ marked_is cpu.config c.args.id _ _ c.has-mine.ensures.tells inside cpu.cpu p shown.side.marks

pub offer-requires-2-clause-inside : goal.offer-requires-2-clause-inside
offer-requires-2-clause-inside g c =
    let cpu = c.args.self.now in
    elim c.if-mine-2.branch [
      | then-mine-2 w ↦ w.inside-is ∙ (w.if-mine-2.true ∙ sym (marked_inside cpu.config c.args.id _ _ c.requires.ready.steady.listed.shown.side.mark_count c.has-mine.ensures.marked w.if-mine-2.true))
      | else-mine-2 w ↦ w.inside-is ∙ w.is_inside-inside.ensures
    ]

pub offer-requires-2-clause-mine : goal.offer-requires-2-clause-mine
offer-requires-2-clause-mine g c = λ within p shown.
    let cpu = c.args.self.now in
    let inside : c.if-mine-2.inside ≡ in_range cpu.config c.args.id = elim c.if-mine-2.branch [
      | then-mine-2 w ↦ w.inside-is ∙ (w.if-mine-2.true ∙ sym (marked_inside cpu.config c.args.id _ _ c.requires.ready.steady.listed.shown.side.mark_count c.has-mine.ensures.marked w.if-mine-2.true))
      | else-mine-2 w ↦ w.inside-is ∙ w.is_inside-inside.ensures
    ] in
    marked_is cpu.config c.args.id _ _ c.has-mine.ensures.tells (sym inside ∙ within) cpu.cpu p shown.side.marks
