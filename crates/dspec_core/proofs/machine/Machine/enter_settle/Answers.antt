-- A settlement ends the CPU's block, and leaves the words.
use Rattle.std.proofs.Common.{refl, ◌∙◌, rules}
use Rattle.dspec_core.specs.Words.{history}
use Rattle.dspec_cpu_state.proofs.Tallies.{settle_counts}
use Rattle.dspec_core.proofs.{OwnBlocks.block_buffer, OwnBlocks.block_caller, OwnBlocks.block_low, OwnBlocks.block_mark, OwnBlocks.block_place, OwnBlocks.block_streams, OwnBlocks.settled_block}
use Rattle.dspec_core.proofs.{OwnDeeds.deed_room, OwnDeeds.quiet_entered, OwnDeeds.same_worn, OwnDeeds.unmoved, OwnSlots.ack_there, OwnSlots.settles_as, OwnSlots.settles_on, OwnSlots.stream_settles}
use Rattle.dspec_core.proofs.machine.Machine.enter_settle.Goals as goal

pub overflow_sub-place : goal.overflow_sub-place
overflow_sub-place g c = block_low (settled_block c.requires.may c.index_mut-own.ensures.value) c.slot.ensures.value

pub index-held-requires : goal.index-held-requires
index-held-requires g c = block_place (settled_block c.requires.may c.index_mut-own.ensures.value) c.slot.ensures.value

pub returns-in_err-enter_block-clause-refused : goal.returns-in_err-enter_block-clause-refused
returns-in_err-enter_block-clause-refused g c =
    unmoved c.from_residual.result c.args.self.now c.args.cpu c.index_mut-own.ensures.value c.in_err-enter_block.ensures.no_deed
    (λ i. record c.index_mut-own.result.now { accepted = c.in_err-enter_block.ensures.no_record i })

pub is_mine-mine-requires : goal.is_mine-mine-requires
is_mine-mine-requires g c = record { slot = block_mark (settled_block c.requires.may c.index_mut-own.ensures.value) }

pub settle-requires : goal.settle-requires
settle-requires g c =
    let may = c.requires.may in
    let m = c.args.self.now in
    let f = c.args.fate in
    let block = settled_block may c.index_mut-own.ensures.value in
    let place = block_buffer block in
    let room = deed_room may c.index_mut-own.ensures.value c.in_ok-enter_block.ensures.deeds c.in_ok-enter_block.ensures.countable in
    record {
      slot = (place.0, place.1, (ack_there _ _ _ _ _ _ block.shows.side c.args.id block.slot).1);
      drops = room.lost f;
      room = room.decide f (λ w. settle_counts m.config c.args.cpu w (history m) c.args.id f (settles_on f (settles_as m.config c.args.cpu c.args.id f (history m) may.legal.0)));
    }

pub returns : goal.returns
returns g c =
    let may = c.requires.may in
    let m = c.args.self.now in
    let a = c.args.cpu in
    let id = c.args.id in
    let f = c.args.fate in
    let block = settled_block may c.index_mut-own.ensures.value in
    let streams = block_streams block c.slot.ensures.value f c.index-held.ensures c.in_ok-enter_block.ensures.streamed ∙ stream_settles a id f (history m) in
    let side = c.settle.ensures.shows _ _ _ _ block.shows.side (block_caller block c.is_mine-mine.ensures.tells) (settles_as m.config a id f (history m) may.legal.0) may.legal.1.1 in
    let e = quiet_entered may c.index_mut-own.ensures.value c.in_ok-enter_block.ensures.deeds (refl, refl, refl) streams side (same_worn c.settle.ensures.rest) (λ t. refl) in
    record { shown = e.shown; entered = e.entered; refused = search rules }
