use Rattle.std.proofs.Common.{arith}
use Rattle.dspec_table.proofs.Looking.{looks_up}
use Rattle.dspec_table.proofs.seats.Words.look.Goals as goal

pub load-requires : goal.load-requires
load-requires c =
    let words = c.args.self.now in
    let seat = c.args.seat.now in (
      c.requires.seat.0,
      let count = words.words_is in omega arith,
      rw (words.key_is) (looks_up words.config words.board.shared.table_id.slots seat.id seat.me c.requires.seat.1 c.requires.seat.2),
    )
