use Rattle.std.proofs.Common.{◌≡◌, ◌∙◌, List, sym, ap, subst, arith}
use Rattle.dspec_cpu.specs.{Words.Deed, Words.dropped_in, Words.known, Words.drops_told, Words.HasList, declared.parts.CpuParts.CpuParts as Cpu}
use Rattle.dspec_cpu.proofs.{Limits.limits, Outside.outside_drops, Reaches.slot_inside, Shown.shows}
use Rattle.dspec_cpu.proofs.cpu.Cpu.dropped_in.Goals as goal

pub dropped_in-requires : goal.dropped_in-requires
dropped_in-requires g c =
    let cpu = c.self.inside.parts in
    let slot = slot_inside cpu.config c.args.id (sym c.is_inside.ensures ∙ c.if-not-is_inside.false) in
    let side = c.self.invariant.listed.shown.side in
    let marks = side.mark_count in
    let drops = side.specdrop_count in
    let low = slot.0 in
    let high = slot.1 in
    record { slot = (low, omega arith, omega arith) }

pub returns-then-not-is_inside : goal.returns-then-not-is_inside
returns-then-not-is_inside g c =
    let cpu = c.self.inside.parts in
    let steady = c.self.invariant in
    let specs = (limits cpu.config steady.checked).specs in
    subst (λ (x : Cpu g.row.S.Denot). (p : List Deed) → HasList (g.S.Schema.shape_of x.schema) (g.S.Schema.accepted x.schema) (g.S.Schema.text x.schema) x p
    → 0 ≡ drops_told (dropped_in x.cpu c.args.id p)) c.self.view_is
    (λ p had. ap drops_told (sym (outside_drops cpu.config cpu.cpu c.args.id (known cpu.seat).seen (known cpu.seat).own p specs.least steady.sound steady.part_is had.own
    (sym c.is_inside.ensures ∙ c.if-not-is_inside.true))))

pub returns : goal.returns
returns g c =
    let cpu = c.self.inside.parts in
    subst (λ (x : Cpu g.row.S.Denot). (p : List Deed) → HasList (g.S.Schema.shape_of x.schema) (g.S.Schema.accepted x.schema) (g.S.Schema.text x.schema) x p
    → c.told.result ≡ drops_told (dropped_in x.cpu c.args.id p)) c.self.view_is
    (λ p had. c.told.ensures ∙ ap drops_told (c.dropped_in.ensures cpu.schema cpu.config cpu.cpu p (shows _ _ _ cpu.side p had.shown)))
