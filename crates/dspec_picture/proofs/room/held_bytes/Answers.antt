use Rattle.std.proofs.Common.{arith}
use Rattle.dspec_picture.proofs.room.held_bytes.Goals as goal

pub index-requires : goal.index-requires
index-requires g c =
    let count = c.side.ensures.parts.buffer_count in
    let low = c.requires.slot.0 in
    let high = c.requires.slot.1 in
    omega arith
