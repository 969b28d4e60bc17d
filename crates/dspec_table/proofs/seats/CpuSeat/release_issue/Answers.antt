use Rattle.std.proofs.Common.{◌<◌, ◌∙◌, ap, sym, subst, arith}
use Rattle.dspec_table.specs.Words.{word_number, Config}
use Rattle.dspec_table.proofs.{Places.slot_within, Places.slot_there, Releases.gives_back}
use Rattle.dspec_table.proofs.seats.CpuSeat.release_issue.Goals as goal

pub of-from-requires : goal.of-from-requires
of-from-requires c = let below = c.requires.call.below in let few = c.args.words.now.issues in omega arith

pub of-to-requires : goal.of-to-requires
of-to-requires c = let below = c.requires.call.below in let few = c.args.words.now.issues in omega arith

pub compare_exchange-requires : goal.compare_exchange-requires
compare_exchange-requires c =
    let words = c.args.words.now in
    let seat = c.args.self.now in
    let from = c.raw.ensures ∙ ap word_number c.of-from.ensures in
    let to = c.raw-2.ensures ∙ ap word_number c.of-to.ensures in
    let same = c.requires.seat.1 ∙ sym words.key_is in (
      c.requires.seat.0,
      rw (c.slot_place.ensures.place, words.words_is) (slot_within words.config c.args.slot c.requires.slot.1),
      rw (c.slot_place.ensures.place, slot_there c.args.slot, from, to) (gives_back words.board.shared.key words.board.shared.table_id.slots seat.seat.id seat.cpu seat.seat.me
          (record { issue = c.args.issue; slot = c.args.slot }) (subst (λ (k : Config). seat.cpu < k.cpus) same seat.is_one) c.requires.slot.0
          (rw words.key_is c.requires.slot.1) seat.who_is seat.joins_none (rw words.key_is c.requires.call)),
    )
