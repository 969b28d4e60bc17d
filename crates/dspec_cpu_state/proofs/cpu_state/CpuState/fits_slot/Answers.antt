use Rattle.std.proofs.Common.{◌≡◌, ◌∙◌, ◌-◌, List, [], map, get_or, if◌then◌else◌, sym, ap}
use Rattle.dspec_cpu_state.specs.Words.{Record, one, piece_fits, contents, held, last_called}
use Rattle.dspec_cpu_state.proofs.{EndedBlocks.block_is, EndedBlocks.buffer_there, Rooms.after_fits, Rooms.front_fits}
use Rattle.dspec_cpu_state.proofs.cpu_state.CpuState.fits_slot.Goals as goal

pub fits-requires : goal.fits-requires
fits-requires g c = (g.met.S.Schema.shapes_fit c.args.schema.now c.epid.result c.in-Some.shape (sym c.shape.ensures ∙ c.in-Some.is)).aligned

pub returns-then-mine : goal.returns-then-mine
returns-then-mine g c = λ cpu p shown caller.
    let self = c.args.self.now in
    let id = c.args.id in
    let shape = g.S.Schema.shape_of c.args.schema.now in
    let r = g.R.Recorded.as_record c.args.rec in
    let place : c.slot.result - 1 ≡ id.slot - 1 = ap (λ n. n - 1) c.slot.ensures.value in
    let b = c.index.result.now in
    let has = buffer_there _ _ shape p shown id c.args.mine c.requires.slot.0 c.requires.slot.1 caller b (c.index.ensures ∙ ap (λ n. get_or self.speculative.items n b) place) in
    let rs = contents (held cpu (last_called cpu id.slot p) p) in
    let all : rs ≡ contents (held cpu id p) = sym (ap (λ m. if m then rs else []) c.if-mine.true) ∙ block_is _ _ shape p shown id c.args.mine c.requires.slot.0 c.requires.slot.1 caller in
    let is = ap shape (sym c.epid.ensures) ∙ (sym c.shape.ensures ∙ c.in-Some.is) in
    c.fits.ensures c.args.schema.now (map one rs) has.has
    ∙ (after_fits shape r c.in-Some.shape _ is (map one rs)
    ∙ (ap (piece_fits shape (map one rs) (one r)) has.sized
    ∙ ap (λ (l : List Record). piece_fits shape (map one l) (one r) c.args.config.now.specsize) all))

pub returns-else-mine : goal.returns-else-mine
returns-else-mine g c = λ cpu p shown caller.
    let id = c.args.id in
    let shape = g.S.Schema.shape_of c.args.schema.now in
    let r = g.R.Recorded.as_record c.args.rec in
    let rs = contents (held cpu (last_called cpu id.slot p) p) in
    let nothing : [] ≡ contents (held cpu id p) = sym (ap (λ m. if m then rs else []) c.if-mine.false) ∙ block_is _ _ shape p shown id c.args.mine c.requires.slot.0 c.requires.slot.1 caller in
    let found = sym c.shape.ensures ∙ c.in-Some.is in
    front_fits shape r c.in-Some.shape c.args.config.now.specsize (ap shape (sym c.epid.ensures) ∙ found)
    (g.met.S.Schema.shapes_fit c.args.schema.now c.epid.result c.in-Some.shape found).aligned
    ∙ ap (λ (l : List Record). piece_fits shape (map one l) (one r) c.args.config.now.specsize) nothing
