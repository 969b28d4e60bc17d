use Rattle.std.proofs.Common.{◌≡◌, true, subst, sym, refl, ap, ◌∙◌}
use Rattle.dspec_table.specs.Words.{word_at, Holder, same_holder}
use Rattle.dspec_table.proofs.{Looking.looks_ack, Places.ack_within, Waiting.awaited_stands}
use Rattle.dspec_table.proofs.seats.ConsumerSeat.load_ack.Goals as goal

pub load-requires : goal.load-requires
load-requires c =
    let words = c.args.words.now in
    let seat = c.args.self.now in (
      c.requires.seat.0,
      rw (c.ack_place-place.ensures, words.words_is) (ack_within words.config c.args.cpu c.args.slot c.requires.cpu c.requires.slot.1),
      looks_ack words.board.shared.key words.board.shared.table_id.slots seat.seat.id seat.seat.me (subst (λ (x : Holder). same_holder x x ≡ true) (sym seat.who_is) refl)
          seat.joins_none c.ack_place-place.result,
    )

pub returns-clause-stands : goal.returns-clause-stands
returns-clause-stands c s waits =
    let seat = c.args.self.now in
    let step = c.load.ensures.2.0 in
    ap (λ v. word_at s v.seen) step.3 ∙ awaited_stands seat.seat.me.0 step.0 s seat.who_is step.1 waits
