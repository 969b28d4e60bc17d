-- A commit or a discard that decides ends the CPU's block, and leaves its word; one that decides nothing is counted, and leaves the words.
use Rattle.std.proofs.Common.{◌-◌, ◌∷◌, set, sym, ◌∙◌, subst, rules}
use Rattle.std.specs.Vec.{with_item}
use Rattle.dspec_core.specs.Words.{ShowsList, deed_of, history, ShowsWords}
use Rattle.dspec_core.proofs.{DecidedCpus.decided_either, DecidedCpus.decided_own, DecidedCpus.decided_stream, DecidedCpus.decided_words, DecidedCpus.nothing_decided, DecidedCpus.undecided_either}
use Rattle.dspec_core.proofs.{DecidedCpus.undecided_stream, DecidedCpus.undecided_words, Entries.decision_left, OwnBlocks.block_buffer, OwnBlocks.block_caller, OwnBlocks.block_low}
use Rattle.dspec_core.proofs.{OwnBlocks.block_mark, OwnBlocks.block_mine, OwnBlocks.block_place, OwnBlocks.block_streams, OwnBlocks.decided_block, OwnBlocks.word_place, OwnBlocks.word_read}
use Rattle.dspec_core.proofs.{OwnBlocks.word_released, OwnDeeds.deed_room, OwnDeeds.own_shows, OwnDeeds.pushed_as, OwnDeeds.same_worn, OwnDeeds.unmoved, OwnDeeds.word_entered, Rooms.decided_counts}
use Rattle.dspec_core.proofs.machine.Machine.enter_decision.Goals as goal

pub leave_undecided-requires : goal.leave_undecided-requires
leave_undecided-requires g c =
    let m = c.args.self.now in
    let room = deed_room c.requires.may c.index_mut-own.ensures.value (pushed_as _ c.deed-deed.ensures c.in_ok-push.ensures.ok) c.in_ok-push.ensures.countable in
    record {
      nothing = nothing_decided m.config c.args.cpu c.args.id c.args.fate (history m) c.args.decision (sym c.decides.ensures ∙ c.if-not-decides.true) c.requires.may.legal.0;
      calls = room.call;
      counts = room.counts c.requires.few;
    }

pub returns-then-not-decides : goal.returns-then-not-decides
returns-then-not-decides g c =
    let nothing = sym c.decides.ensures ∙ c.if-not-decides.true in
    let m = c.args.self.now in
    let k = m.config in
    let a = c.args.cpu in
    let id = c.args.id in
    let f = c.args.fate in
    let x = c.args.decision in
    let h = history m in
    let was = own_shows c.requires.may c.index_mut-own.ensures.value in
    let side = undecided_either k a id f h (λ d. ShowsList (λ b. g.B.TraceBuffer.has b m.schema) g.B.TraceBuffer.capacity k a (d ∷ h) c.leave_undecided.new.self) x
    (c.leave_undecided.ensures.commits m.schema k a h id was.side) (c.leave_undecided.ensures.discards m.schema k a h id was.side) in
    let e = word_entered c.requires.may c.index_mut-own.ensures.value (pushed_as _ c.deed-deed.ensures c.in_ok-push.ensures.ok) (decided_own x a id f h)
    (was.accepted ∙ undecided_stream k a id f h x nothing) side (same_worn c.leave_undecided.ensures.rest) m.words (undecided_words x k a id f h m.words.items nothing c.requires.may.shown.words) in
    record { shown = e.shown; entered = e.entered; refused = search rules }

pub overflow_sub-place : goal.overflow_sub-place
overflow_sub-place g c =
    block_low (decided_block c.args.decision c.args.id c.args.fate c.requires.may c.index_mut-own-2.ensures.value (sym c.decides.ensures ∙ c.if-not-decides.false)) c.slot.ensures.value

pub index-block-requires : goal.index-block-requires
index-block-requires g c =
    block_place (decided_block c.args.decision c.args.id c.args.fate c.requires.may c.index_mut-own-2.ensures.value (sym c.decides.ensures ∙ c.if-not-decides.false)) c.slot.ensures.value

pub returns-in_err-enter_block-clause-refused : goal.returns-in_err-enter_block-clause-refused
returns-in_err-enter_block-clause-refused g c =
    unmoved c.from_residual-in_err-enter_block.result c.args.self.now c.args.cpu c.index_mut-own-2.ensures.value c.in_err-enter_block.ensures.no_deed
    (λ i. record c.index_mut-own-2.result.now { accepted = c.in_err-enter_block.ensures.no_record i })

pub is_mine-mine-requires : goal.is_mine-mine-requires
is_mine-mine-requires g c = record {
  slot = block_mark (decided_block c.args.decision c.args.id c.args.fate c.requires.may c.index_mut-own-2.ensures.value (sym c.decides.ensures ∙ c.if-not-decides.false));
}

pub decide-requires : goal.decide-requires
decide-requires g c =
    let decides = sym c.decides.ensures ∙ c.if-not-decides.false in
    let m = c.args.self.now in
    let f = c.args.fate in
    let block = decided_block c.args.decision c.args.id f c.requires.may c.index_mut-own-2.ensures.value decides in
    let room = deed_room c.requires.may c.index_mut-own-2.ensures.value (pushed_as _ c.deed-deed.ensures c.in_ok-enter_block.ensures.deeds) c.in_ok-enter_block.ensures.countable in
    record {
      slot = block_buffer block;
      calls = room.call;
      drops = room.drop;
      room = room.decide f (λ w. decided_counts (g.S.Schema.shape_of m.schema) m.config c.args.cpu c.args.decision c.args.id f w (history m) decides);
    }

pub index-word-requires : goal.index-word-requires
index-word-requires g c =
    word_place (decided_block c.args.decision c.args.id c.args.fate c.requires.may c.index_mut-own-2.ensures.value (sym c.decides.ensures ∙ c.if-not-decides.false)) c.slot.ensures.value

pub leaves-requires : goal.leaves-requires
leaves-requires g c =
    let block = decided_block c.args.decision c.args.id c.args.fate c.requires.may c.index_mut-own-2.ensures.value (sym c.decides.ensures ∙ c.if-not-decides.false) in
    word_released block c.slot.ensures.value c.requires.may.ranges c.index-word.ensures

pub index_mut-requires : goal.index_mut-requires
index_mut-requires g c =
    word_place (decided_block c.args.decision c.args.id c.args.fate c.requires.may c.index_mut-own-2.ensures.value (sym c.decides.ensures ∙ c.if-not-decides.false)) c.slot.ensures.value

pub returns : goal.returns
returns g c =
    let may = c.requires.may in
    let decides = sym c.decides.ensures ∙ c.if-not-decides.false in
    let m = c.args.self.now in
    let k = m.config in
    let a = c.args.cpu in
    let h = history m in
    let id = c.args.id in
    let f = c.args.fate in
    let x = c.args.decision in
    let block = decided_block x id f may c.index_mut-own-2.ensures.value decides in
    let caller = block_caller block c.is_mine-mine.ensures.tells in
    let side = decided_either k a id f h (g.S.Schema.shape_of m.schema) (λ d. ShowsList (λ b. g.B.TraceBuffer.has b m.schema) g.B.TraceBuffer.capacity k a (d ∷ h) c.decide.new.self) x
    decides may.legal.1.1 (λ e row. c.decide.ensures.commits m.schema k a h block.shows.side caller e row) (λ e row. c.decide.ensures.discards m.schema k a h block.shows.side caller e row) in
    let streams = block_streams block c.slot.ensures.value f c.index-block.ensures c.in_ok-enter_block.ensures.streamed ∙ decided_stream k a id f h x decides in
    let left = c.leaves.ensures ∙ decision_left k a h id f x c.index-word.result.now c.is_mine-mine.result decides may.legal.0 (word_read block c.slot.ensures.value c.index-word.ensures)
    (block_mine block c.is_mine-mine.ensures.tells) in
    let words = subst (λ n. ShowsWords k (deed_of x a id f ∷ h) (set m.words.items (n - 1) c.leaves.result)) (sym c.slot.ensures.value)
    (decided_words k a id f h x m.words.items c.leaves.result block.slot left may.shown.words) in
    let e = word_entered may c.index_mut-own-2.ensures.value (pushed_as _ c.deed-deed.ensures c.in_ok-enter_block.ensures.deeds) (decided_own x a id f h) streams side
    (same_worn c.decide.ensures.rest) (with_item m.words (c.slot.result - 1) c.leaves.result) words in
    record { shown = e.shown; entered = e.entered; refused = search rules }
