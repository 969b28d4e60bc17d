-- Cited by calls. How a `ListBuffer` holds what contracts see of it.
use Rattle.std.specs.Prelude.{◌≡◌, ◌≤◌, ◌*◌, ◌%◌, ◌^◌, vec_len, vec_capacity}
use Rattle.dspec_buffer.specs.{Listed.ListView, declared.list_buffer.ListBuffer.TheInside.Inside}

abbrev pub listed_of : Inside → ListView
listed_of b = record { texts = b.texts.items; count = b.count; offset = b.offset; size = b.size }

-- the offset is a whole number of words within the size, no record is smaller than a word, and there is room for texts
-- that reach as far as the offset may
pub record IsListed (b : Inside) : Type 0 where
  pub within : b.offset ≤ b.size
  pub words : b.offset % 4 ≡ 0
  pub bounded : b.size ≤ 2 ^ 20
  pub counted : 4 * b.count ≤ b.offset
  pub packed : vec_len b.texts ≤ b.offset
  pub room : b.size ≤ vec_capacity b.texts
