use Rattle.std.proofs.Common.{◌<◌, subst}
use Rattle.dspec_table.specs.Words.{Config}
use Rattle.dspec_table.proofs.{AsksKept.loads_ask, Places.ask_within}
use Rattle.dspec_table.proofs.seats.CpuSeat.load_ask.Goals as goal

pub load-requires : goal.load-requires
load-requires c =
    let words = c.args.words.now in
    let seat = c.args.self.now in
    let lt : seat.cpu < words.config.cpus = subst (λ (k : Config). seat.cpu < k.cpus) c.requires.seat.1 seat.is_one in (
      c.requires.seat.0,
      rw (c.ask_place-place.ensures, words.words_is) (ask_within words.config seat.cpu lt),
      rw (c.ask_place-place.ensures, words.key_is) (loads_ask words.config words.board.shared.table_id.slots seat.seat.id seat.cpu seat.seat.me lt seat.who_is seat.joins_none),
    )
