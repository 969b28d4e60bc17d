use Rattle.std.proofs.Common.{arith}
use Rattle.dspec_table.proofs.Joining.{tells}
use Rattle.dspec_table.proofs.seats.Words.note.Goals as goal

pub split_seat-requires : goal.split_seat-requires
split_seat-requires c =
    let words = c.args.self.now in
    let seat = c.args.seat.now in
    (c.requires.seat, (let count = words.words_is in omega arith), tells words.board.shared.key seat.id seat.me.0)
