use Rattle.std.proofs.Common.{◌≡◌, ◌∙◌, true, false, true≢false, List, refl, sym, subst, ⊎_elim}
use Rattle.dspec_cpu.specs.{Words.Deed, Words.in_range, Words.known, Words.cpu_block_fits, Words.HasList, declared.parts.CpuParts.CpuParts as Cpu}
use Rattle.dspec_deeds.proofs.TestLemmas.{either_way}
use Rattle.dspec_cpu.proofs.{Limits.limits, Marked.marked_inside, Marked.marked_is, Mine.unmarked_empty, Outside.outside_holds, Ready.steady_few, Rooms.nothing_fits}
use Rattle.dspec_cpu.proofs.cpu.Cpu.has_room_for.Goals as goal

pub returns-then-not-has : goal.returns-then-not-has
returns-then-not-has g c =
    let cpu = c.self.inside.parts in
    let id = c.args.id in
    let steady = c.self.invariant in
    let few = steady_few _ _ _ cpu steady in
    let some = (limits cpu.config steady.checked).specs.least in
    subst (λ (x : Cpu g.row.S.Denot). (p : List Deed) → HasList (g.S.Schema.shape_of x.schema) (g.S.Schema.accepted x.schema) (g.S.Schema.text x.schema) x p
    → true ≡ cpu_block_fits (g.S.Schema.shape_of x.schema) x id p) c.self.view_is
    (λ p had. nothing_fits (g.S.Schema.shape_of cpu.schema) cpu.config cpu.cpu id p had.shown.legal (⊎_elim
    (λ (t : in_range cpu.config id ≡ true). unmarked_empty cpu.config cpu.cpu id (known cpu.seat).seen (known cpu.seat).own p few steady.sound steady.part_is had.own
    (sym (marked_is cpu.config id _ _ c.has.ensures.tells t cpu.cpu p had.shown.side.marks) ∙ c.if-not-has.true))
    (λ (out : in_range cpu.config id ≡ false). outside_holds cpu.config cpu.cpu id (known cpu.seat).seen (known cpu.seat).own p some steady.sound steady.part_is had.own out few)
    (either_way (in_range cpu.config id))))

pub measure_slot-requires-clause-inside : goal.measure_slot-requires-clause-inside
measure_slot-requires-clause-inside g c =
    let cpu = c.self.inside.parts in
    sym (marked_inside cpu.config c.args.id _ _ c.self.invariant.listed.shown.side.mark_count c.has.ensures.marked c.if-not-has.false)

pub returns : goal.returns
returns g c =
    let cpu = c.self.inside.parts in
    let id = c.args.id in
    let inside = marked_inside cpu.config id _ _ c.self.invariant.listed.shown.side.mark_count c.has.ensures.marked c.if-not-has.false in
    subst (λ (x : Cpu g.row.S.Denot). (p : List Deed) → HasList (g.S.Schema.shape_of x.schema) (g.S.Schema.accepted x.schema) (g.S.Schema.text x.schema) x p
    → c.measure_slot.result.0 ≡ cpu_block_fits (g.S.Schema.shape_of x.schema) x id p) c.self.view_is
    (λ p had. c.measure_slot.ensures.fits refl p had.shown
    (record { marked = sym c.if-not-has.false ∙ marked_is cpu.config id _ _ c.has.ensures.tells inside cpu.cpu p had.shown.side.marks; empty = λ e. absurd (true≢false e) }))
