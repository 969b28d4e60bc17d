use Rattle.std.proofs.{Common.◌≡◌, Common.◌∙◌, Common.◌-◌, Common.Some, Common.length, Common.map, Common.slice_get, Common.sym, Common.ap, Common.arith, lemmas.Option.slice_get-get_or}
use Rattle.dspec_cpu_state.specs.Words.{one, last_called, contents, held}
use Rattle.dspec_cpu_state.proofs.{EndedBlocks.count_held, Ones.records_ones}
use Rattle.dspec_cpu_state.proofs.cpu_state.CpuState.last_kept.Goals as goal

pub returns-clause-count : goal.returns-clause-count
returns-clause-count g c = λ s k cpu p shown.
    let slot = c.args.slot in
    let buffers = c.args.self.now.speculative.items in
    let count = shown.parts.buffer_count in
    let low = c.requires.slot.0 in
    let high = c.requires.slot.2 in
    let b = c.index.result.now in
    let rs = contents (held cpu (last_called cpu slot p) p) in
    let at : slice_get buffers (slot - 1) ≡ Some b = slice_get-get_or buffers (slot - 1) b (omega arith) ∙ ap Some (sym c.index.ensures) in
    let has = shown.parts.speculative slot b low (omega arith) at in
    c.count-count.ensures s (map one rs) has.has ∙ (ap length (records_ones rs) ∙ count_held (held cpu (last_called cpu slot p) p))
