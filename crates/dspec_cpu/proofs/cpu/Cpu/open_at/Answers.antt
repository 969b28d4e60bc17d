use Rattle.std.proofs.Common.{◌≡◌, true, false, List, [], Some, sym, subst, ⊎_elim, arith}
use Rattle.dspec_cpu.specs.{Words.Speculation, Words.in_range, Words.held, Words.known, Words.HasList, Words.IsOpenAt, Words.Deed, declared.parts.CpuParts.CpuParts as Cpu}
use Rattle.dspec_deeds.proofs.TestLemmas.{either_way}
use Rattle.dspec_cpu.proofs.{Limits.limits, OpenAts.FoundAt, OpenAts.found_in, OpenAts.none_in, Outside.outside_holds, Reaches.slot_inside, Ready.steady_few, Shown.shows, cpu.Cpu.open_at.Given.Over}
use Rattle.dspec_cpu.proofs.{cpu.Cpu.open_at.Goals.then-slot-eq0-via-then-slot-eq0, cpu.Cpu.open_at.Goals.then-slot-eq0-via-else-slot-eq0+then-slot-self}
use Rattle.dspec_cpu.proofs.cpu.Cpu.open_at.Goals as goal

pub returns-then-slot-eq0 : goal.returns-then-slot-eq0
returns-then-slot-eq0 g c =
    let cpu = c.self.inside.parts in
    let steady = c.self.invariant in
    let some = (limits cpu.config steady.checked).specs.least in
    let beyond : (id : Speculation) → id.slot ≡ c.args.slot → in_range cpu.config id ≡ false = λ id at. ⊎_elim
    (λ (t : in_range cpu.config id ≡ true).
    let within = slot_inside cpu.config id t in
    let low = within.0 in
    let high = within.1 in
    absurd (elim c.then-slot-eq0.branch [
      | then-slot-eq0-via-then-slot-eq0 w ↦ let none = w.if-slot-eq0.true in omega arith
      | then-slot-eq0-via-else-slot-eq0+then-slot-self w ↦ let past = w.if-slot-self.true in omega arith
    ]))
    (λ (f : in_range cpu.config id ≡ false). f)
    (either_way (in_range cpu.config id)) in
    subst (λ (x : Cpu g.row.S.Denot). (p : List Deed) → HasList (g.S.Schema.shape_of x.schema) (g.S.Schema.accepted x.schema) (g.S.Schema.text x.schema) x p
    → (id : Speculation) → id.slot ≡ c.args.slot → held x.cpu id p ≡ []) c.self.view_is
    (λ p had id at. outside_holds cpu.config cpu.cpu id (known cpu.seat).seen (known cpu.seat).own p some steady.sound steady.part_is had.own (beyond id at) (steady_few _ _ _ cpu steady))

pub returns-then-count-eq0 : goal.returns-then-count-eq0
returns-then-count-eq0 g c =
    let cpu = c.self.inside.parts in
    subst (λ (x : Cpu g.row.S.Denot). (p : List Deed) → HasList (g.S.Schema.shape_of x.schema) (g.S.Schema.accepted x.schema) (g.S.Schema.text x.schema) x p
    → (id : Speculation) → id.slot ≡ c.args.slot → held x.cpu id p ≡ []) c.self.view_is
    (none_in _ _ _ cpu c.self.invariant c.args.slot c.last_kept-mark.result.1
    (λ p had. c.last_kept-mark.ensures.count cpu.schema cpu.config cpu.cpu p (shows _ _ _ cpu.side p had.shown)) c.if-count-eq0.true)

-- what the side tells of the slot
told : (g : Over) (c : goal.Else-count-eq0 g) (p : List Deed)
    → HasList (g.S.Schema.shape_of c.self.inside.parts.schema) (g.S.Schema.accepted c.self.inside.parts.schema) (g.S.Schema.text c.self.inside.parts.schema) c.self.inside.parts p
    → FoundAt c.self.inside.parts.config c.self.inside.parts.cpu c.args.slot c.last_kept-mark.result.0 p
told g c =
    let cpu = c.self.inside.parts in
    found_in _ _ _ cpu c.self.invariant c.args.slot c.last_kept-mark.result.1
    (λ p had. c.last_kept-mark.ensures.count cpu.schema cpu.config cpu.cpu p (shows _ _ _ cpu.side p had.shown)) c.if-count-eq0.false
    c.last_kept-mark.result.0 c.if-slot-eq0.false c.if-slot-self.false c.last_kept-mark.ensures.mark

pub overflow_sub-mark : goal.overflow_sub-mark
overflow_sub-mark g c = (told g c c.self.invariant.list c.self.invariant.listed).least

pub of-requires-clause-issue : goal.of-requires-clause-issue
of-requires-clause-issue g c =
    let most = (told g c c.self.invariant.list c.self.invariant.listed).most in
    let issues = (limits c.self.inside.parts.config c.self.invariant.checked).issues in
    omega arith

pub returns : goal.returns
returns g c =
    subst (λ (x : Cpu g.row.S.Denot). (p : List Deed) → HasList (g.S.Schema.shape_of x.schema) (g.S.Schema.accepted x.schema) (g.S.Schema.text x.schema) x p
    → IsOpenAt x.cpu c.args.slot p (Some c.of.result)) c.self.view_is
    (λ p had. subst (λ (i : Speculation). IsOpenAt c.self.inside.parts.cpu c.args.slot p (Some i)) (sym c.of.ensures) (told g c.before p had).is_open)
