use Rattle.std.proofs.Common.{arith}
use Rattle.dspec_table.proofs.Joining.{answers}
use Rattle.dspec_table.proofs.seats.Words.hear_there.Goals as goal

pub join_seat-requires : goal.join_seat-requires
join_seat-requires c =
    let words = c.args.self.now in
    let seat = c.args.seat.now in
    let told = c.args.told in (
      c.requires.seat,
      c.requires.note.0,
      c.requires.note.1,
      (let count = words.words_is in omega arith),
      answers words.board.shared.key seat.id seat.me.0 told.id told.me.0
          c.requires.note.2 c.requires.note.3,
    )
