use Rattle.dspec_table.proofs.{AsksKept.stores_ask, Places.ask_within}
use Rattle.dspec_table.proofs.seats.ConsumerSeat.store_ask.Goals as goal

pub store-requires : goal.store-requires
store-requires c =
    let words = c.args.words.now in
    let seat = c.args.self.now in (
      c.requires.seat.0,
      rw (c.ask_place-place.ensures, words.words_is) (ask_within words.config c.args.cpu c.requires.cpu),
      rw (c.ask_place-place.ensures, words.key_is)
          (stores_ask words.config words.board.shared.table_id.slots seat.seat.id c.args.cpu c.args.count seat.seat.me c.requires.cpu seat.who_is seat.joins_none c.requires.rises),
    )
