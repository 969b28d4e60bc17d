use Rattle.std.proofs.Common.{arith}
use Rattle.dspec_table.proofs.Halting.{stops}
use Rattle.dspec_table.proofs.seats.ConsumerSeat.store_activity.Goals as goal

pub store-requires : goal.store-requires
store-requires c =
    let words = c.args.words.now in
    let seat = c.args.self.now in (
      c.requires.seat.0,
      let count = words.words_is in omega arith,
      rw (words.key_is) (stops words.config words.board.shared.table_id.slots seat.seat.id seat.seat.me seat.who_is seat.joins_none),
    )
