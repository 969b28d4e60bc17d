use Rattle.std.proofs.Common.{◌≡◌, ◌∙◌, ◌-◌, List, [], length, get_or, if◌then◌else◌, ap}
use Rattle.dspec_cpu_state.specs.Words.{Record, block, piece_fits, active, contents, held, last_called}
use Rattle.dspec_cpu_state.proofs.EndedBlocks.{block_is, buffer_there, count_held}
use Rattle.dspec_cpu_state.proofs.cpu_state.CpuState.measure.Goals as goal

pub returns-clause-fits : goal.returns-clause-fits
returns-clause-fits g c = λ s cpu p shown caller.
    let self = c.args.self.now in
    let id = c.args.id in
    let low = c.requires.slot.0 in
    let high = c.requires.slot.1 in
    let shape = g.S.Schema.shape_of s in
    let place : c.slot.result - 1 ≡ id.slot - 1 = ap (λ n. n - 1) c.slot.ensures.value in
    let b = c.index-buffer.result.now in
    let has = buffer_there _ _ shape p shown id c.args.mine low high caller b (c.index-buffer.ensures ∙ ap (λ n. get_or self.speculative.items n b) place) in
    let rs = contents (held cpu (last_called cpu id.slot p) p) in
    let all = block_is _ _ shape p shown id c.args.mine low high caller in
    c.takes.ensures shape cpu self.counts.worn p (contents (held cpu id p)) shown.counted (c.measure-room.ensures.count s rs has.has ∙ ap length all)
    (c.measure-room.ensures.fits s (active cpu p) rs shown.parts.principal.has has.has
    ∙ (ap (piece_fits shape (active cpu p) (block (if c.args.mine then rs else []))) shown.parts.principal.sized
    ∙ ap (λ (l : List Record). piece_fits shape (active cpu p) (block l) c.args.config.now.bufsize) all))

pub returns-clause-count : goal.returns-clause-count
returns-clause-count g c = λ s cpu p shown caller.
    let self = c.args.self.now in
    let id = c.args.id in
    let low = c.requires.slot.0 in
    let high = c.requires.slot.1 in
    let shape = g.S.Schema.shape_of s in
    let place : c.slot.result - 1 ≡ id.slot - 1 = ap (λ n. n - 1) c.slot.ensures.value in
    let b = c.index-buffer.result.now in
    let has = buffer_there _ _ shape p shown id c.args.mine low high caller b (c.index-buffer.ensures ∙ ap (λ n. get_or self.speculative.items n b) place) in
    let rs = contents (held cpu (last_called cpu id.slot p) p) in
    c.measure-room.ensures.count s rs has.has ∙ (ap length (block_is _ _ shape p shown id c.args.mine low high caller) ∙ count_held (held cpu id p))
