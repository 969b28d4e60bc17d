-- A granted record is on its CPU's side, which is a caller from then on, and leaves its word; one that is granted nothing is counted, and leaves the words.
use Rattle.std.proofs.Common.{◌-◌, ◌∷◌, set, refl, sym, ap, ◌∙◌, subst, rules}
use Rattle.std.specs.Vec.{with_item}
use Rattle.dspec_core.specs.Words.{Speculate, Counts, ShowsList, history, ShowsWords, word_left}
use Rattle.dspec_core.proofs.{Entries.spoken_left, OwnBlocks.block_buffer, OwnBlocks.block_caller, OwnBlocks.block_low, OwnBlocks.block_mark, OwnBlocks.block_mine, OwnBlocks.granted_block}
use Rattle.dspec_core.proofs.{OwnBlocks.word_place, OwnBlocks.word_read, OwnBlocks.word_released, OwnDeeds.deed_room, OwnDeeds.own_shows, OwnDeeds.quiet_entered, OwnDeeds.same_worn}
use Rattle.dspec_core.proofs.{OwnDeeds.word_entered, OwnSlots.specdrop_there, OwnSlots.spoken_as, WordsShown.words_set}
use Rattle.dspec_core.proofs.machine.Machine.enter_speculate.Goals as goal

pub speculate_nowhere-requires : goal.speculate_nowhere-requires
speculate_nowhere-requires g c =
    let room = deed_room c.requires.may c.index_mut-own.ensures.value c.in_ok-push.ensures.ok c.in_ok-push.ensures.countable in
    record { calls = room.call; counts = room.counts c.requires.few; nowhere = sym c.is_granted.ensures ∙ c.if-not-is_granted.true }

pub returns-then-not-is_granted : goal.returns-then-not-is_granted
returns-then-not-is_granted g c =
    let was = own_shows c.requires.may c.index_mut-own.ensures.value in
    let e = quiet_entered c.requires.may c.index_mut-own.ensures.value c.in_ok-push.ensures.ok (refl, refl, refl) was.accepted (c.speculate_nowhere.ensures.shows _ _ _ _ _ _ was.side)
    (same_worn c.speculate_nowhere.ensures.rest) (λ t. rw (sym c.is_granted.ensures ∙ c.if-not-is_granted.true) refl) in
    record { shown = e.shown; entered = e.entered; refused = search rules }

pub overflow_sub-place : goal.overflow_sub-place
overflow_sub-place g c = block_low (granted_block c.requires.may c.index_mut-own.ensures.value (sym c.is_granted.ensures ∙ c.if-not-is_granted.false)) c.slot.ensures.value

pub index-word-requires : goal.index-word-requires
index-word-requires g c = word_place (granted_block c.requires.may c.index_mut-own.ensures.value (sym c.is_granted.ensures ∙ c.if-not-is_granted.false)) c.slot.ensures.value

pub is_mine-mine-requires : goal.is_mine-mine-requires
is_mine-mine-requires g c = record { slot = block_mark (granted_block c.requires.may c.index_mut-own.ensures.value (sym c.is_granted.ensures ∙ c.if-not-is_granted.false)) }

pub grant-requires : goal.grant-requires
grant-requires g c =
    let block = granted_block c.requires.may c.index_mut-own.ensures.value (sym c.is_granted.ensures ∙ c.if-not-is_granted.false) in
    let place = block_buffer block in
    let room = deed_room c.requires.may c.index_mut-own.ensures.value c.in_ok-push.ensures.ok c.in_ok-push.ensures.countable in
    record {
      slot = (place.0, place.1, (block_mark block).1, (specdrop_there _ _ _ _ _ _ block.shows.side c.args.id block.slot).1);
      marked = c.is_mine-mine.ensures.marked;
      accepted = c.requires.accepted;
      laid = tt;
      calls = room.call;
      counts = room.counts c.requires.few;
    }

pub speculate_at-requires : goal.speculate_at-requires
speculate_at-requires g c =
    let block = granted_block c.requires.may c.index_mut-own.ensures.value (sym c.is_granted.ensures ∙ c.if-not-is_granted.false) in
    word_released block c.slot.ensures.value c.requires.may.ranges c.index-word.ensures

pub index_mut-requires : goal.index_mut-requires
index_mut-requires g c = word_place (granted_block c.requires.may c.index_mut-own.ensures.value (sym c.is_granted.ensures ∙ c.if-not-is_granted.false)) c.slot.ensures.value

pub returns : goal.returns
returns g c =
    let may = c.requires.may in
    let granted = sym c.is_granted.ensures ∙ c.if-not-is_granted.false in
    let m = c.args.self.now in
    let k = m.config in
    let a = c.args.cpu in
    let h = history m in
    let id = c.args.id in
    let r = c.args.rec.now in
    let d = Speculate a id r c.args.fate in
    let block = granted_block may c.index_mut-own.ensures.value granted in
    let caller = block_caller block c.is_mine-mine.ensures.tells in
    let is = spoken_as (g.S.Schema.shape_of m.schema) k a id r c.args.fate c.grant.result h granted may.legal.1.1 (c.grant.ensures.answer k a h block.shows.side caller) in
    let side = subst (λ f. ShowsList (λ b. g.B.TraceBuffer.has b m.schema) g.B.TraceBuffer.capacity k a (Speculate a id r f ∷ h) c.grant.new.self) is
    (c.grant.ensures.shows k a h block.shows.side caller) in
    let left = c.word_left.ensures ∙ (ap (word_left c.index-word.result.now) c.speculate_at.ensures ∙ spoken_left k a h id r c.args.fate may.ranges granted may.legal.0 c.index-word.result.now
    c.is_mine-mine.result (word_read block c.slot.ensures.value c.index-word.ensures) (block_mine block c.is_mine-mine.ensures.tells)) in
    let words = subst (λ n. ShowsWords k (d ∷ h) (set m.words.items (n - 1) c.word_left.result)) (sym c.slot.ensures.value)
    (words_set k d h m.words.items c.word_left.result block.slot.0 block.slot.1 left may.shown.words) in
    let e = word_entered may c.index_mut-own.ensures.value c.in_ok-push.ensures.ok (refl, refl, refl) block.shows.accepted side (ap (λ (n : Counts). n.worn) c.grant.ensures.counts)
    (with_item m.words (c.slot.result - 1) c.word_left.result) words in
    record { shown = e.shown; entered = e.entered; refused = search rules }
