use Rattle.std.proofs.Common.{◌≡◌, ◌-◌, true, false, List, [], Some, sym, subst, ap, ◌∙◌, ⊎_elim, arith, length}
use Rattle.std.proofs.lemmas.Option.{slice_get-get_or}
use Rattle.std.specs.Prelude.{slice_get}
use Rattle.dspec_buffer.proofs.SchemaLaws.{laws_from}
use Rattle.dspec_cpu.specs.{Words.Speculation, Words.in_range, Words.known, Words.HasList, Words.IsBlockAt, Words.Deed, declared.parts.CpuParts.CpuParts as Cpu}
use Rattle.dspec_deeds.proofs.TestLemmas.{either_way}
use Rattle.dspec_cpu.proofs.{BlockAts.its_bytes, BlockAts.no_bytes, Limits.limits, Outside.outside_holds, Reaches.slot_inside, Ready.steady_few}
use Rattle.dspec_cpu.proofs.{cpu.Cpu.block_at.Goals.then-slot-self-via-then-slot-self, cpu.Cpu.block_at.Goals.then-slot-self-via-else-slot-self+then-slot-eq0}
use Rattle.dspec_cpu.proofs.cpu.Cpu.block_at.Goals as goal

pub returns-then-slot-self : goal.returns-then-slot-self
returns-then-slot-self g c =
    let cpu = c.self.inside.parts in
    let steady = c.self.invariant in
    let some = (limits cpu.config steady.checked).specs.least in
    let beyond : (id : Speculation) → id.slot ≡ c.args.slot → in_range cpu.config id ≡ false = λ id at. ⊎_elim
    (λ (t : in_range cpu.config id ≡ true).
    let within = slot_inside cpu.config id t in
    let low = within.0 in
    let high = within.1 in
    absurd (elim c.then-slot-self.branch [
      | then-slot-self-via-then-slot-self w ↦ let past = w.if-slot-self.true in omega arith
      | then-slot-self-via-else-slot-self+then-slot-eq0 w ↦ let none = w.if-slot-eq0.true in omega arith
    ]))
    (λ (f : in_range cpu.config id ≡ false). f)
    (either_way (in_range cpu.config id)) in
    subst (λ (x : Cpu g.row.S.Denot). (p : List Deed) → HasList (g.S.Schema.shape_of x.schema) (g.S.Schema.accepted x.schema) (g.S.Schema.text x.schema) x p
    → IsBlockAt (g.S.Schema.shape_of x.schema) (g.S.Schema.accepted x.schema) (g.S.Schema.text x.schema) x.cpu c.args.slot p []) c.self.view_is
    (λ p had. no_bytes _ _ _ cpu.cpu c.args.slot p
    (λ id at. outside_holds cpu.config cpu.cpu id (known cpu.seat).seen (known cpu.seat).own p some steady.sound steady.part_is had.own (beyond id at) (steady_few _ _ _ cpu steady)))

pub returns : goal.returns
returns g c =
    let cpu = c.self.inside.parts in
    let s = cpu.schema in
    let laws = laws_from (g.met.S.Schema.zero_has_none s) (g.met.S.Schema.shapes_fit s) (g.met.S.Schema.texts_fit s) (g.met.S.Schema.texts_differ s) in
    let b = c.index.result.now in
    let low = c.if-slot-eq0.false in
    let high = c.if-slot-self.false in
    let count : length cpu.side.speculative.items ≡ cpu.config.nspec = c.self.invariant.listed.shown.side.buffer_count in
    let at : slice_get cpu.side.speculative.items (c.args.slot - 1) ≡ Some b = slice_get-get_or cpu.side.speculative.items (c.args.slot - 1) b (omega arith) ∙ ap Some (sym c.index.ensures) in
    subst (λ (x : Cpu g.row.S.Denot). (p : List Deed) → HasList (g.S.Schema.shape_of x.schema) (g.S.Schema.accepted x.schema) (g.S.Schema.text x.schema) x p
    → IsBlockAt (g.S.Schema.shape_of x.schema) (g.S.Schema.accepted x.schema) (g.S.Schema.text x.schema) x.cpu c.args.slot p c.bytes.result.now) c.self.view_is
    (λ p had. subst (IsBlockAt (g.S.Schema.shape_of s) (g.S.Schema.accepted s) (g.S.Schema.text s) cpu.cpu c.args.slot p) (sym c.bytes.ensures)
    (its_bytes _ _ _ laws cpu c.args.slot b at (omega arith) high p had))
