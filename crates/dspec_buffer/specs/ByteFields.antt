-- Cited by calls. How a `ByteBuffer` holds what contracts see of it.
use Rattle.std.specs.Prelude.{◌≡◌, ◌≤◌, ◌+◌, ◌*◌, ◌%◌, ◌^◌, take, vec_len}
use Rattle.dspec_buffer.specs.{Stored.Stored, declared.byte_buffer.ByteBuffer.TheInside.Inside}

-- the bytes up to the offset are the text
abbrev pub stored_of : Inside → Stored
stored_of b = record { text = take b.offset b.bytes.items; count = b.count; size = b.size }

-- the offset is a whole number of words within the size, after which there are sixteen bytes more, and no record is smaller than a word
pub record IsInside (b : Inside) : Type 0 where
  pub within : b.offset ≤ b.size
  pub words : b.offset % 4 ≡ 0
  pub bounded : b.size ≤ 2 ^ 20
  pub slack : vec_len b.bytes ≡ b.size + 16
  pub counted : 4 * b.count ≤ b.offset
