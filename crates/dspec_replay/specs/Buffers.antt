-- Serves proofs. The buffers of a session that was played: what is read of a batch, and what is printed of it.
use Rattle.std.specs.{Fmt.digit_glyph, List.enumerate_from, List.flat_map, Prelude.◌≡◌, Prelude.ℕ, Prelude.◌/◌, Prelude.◌%◌, Prelude.false, Prelude.List, Prelude.[], Prelude.◌∷◌, Prelude.◌++◌}
use Rattle.std.specs.{Prelude.length, Prelude.codes, Prelude.decimal}
use Rattle.dspec_replay.specs.{Words.Outside.Header, Words.Outside.Batch, Words.Outside.records_text, declared.texts.BufferOrigin.BufferOrigin, declared.texts.ReadBuffer.ReadBuffer}
use Rattle.dspec_replay.specs.declared.texts.BufferOrigin.TheVariants as origin

-- the drops and the bytes of this batch
pub record IsTextOfBatch (o : BufferOrigin) (b : Batch) (t : ReadBuffer) : Type 0 where
  pub origin : t.origin ≡ o
  pub drops : t.drops ≡ b.drops
  pub bytes : t.bytes.items ≡ b.buffer.text

-- one of this batch stands after those before
pub record KeepsBufferText (o : BufferOrigin) (b : Batch) (old new : List ReadBuffer) : Type 0 where
  pub text : ReadBuffer
  pub is : IsTextOfBatch o b text
  pub added : new ≡ old ++ text ∷ []

-- what stands before a buffer's records: how it came, its CPU, its drops, and how many records it has
abbrev pub buffer_numbers : ℕ → ReadBuffer → List ℕ
buffer_numbers c t = decimal c ++ codes " drops " ++ decimal t.drops ++ codes " records " ++ decimal (length t.records) ++ codes ":"

abbrev pub buffer_named : BufferOrigin → ℕ → ReadBuffer → List ℕ
buffer_named origin.Batch c t = codes "batch cpu " ++ buffer_numbers c t
buffer_named origin.Rest c t = codes "rest cpu " ++ buffer_numbers c t

abbrev pub buffer_front : ℕ → ReadBuffer → List ℕ
buffer_front c t = buffer_named t.origin c t

-- a byte in two digits of base 16, after a space
abbrev pub byte_digits : ℕ → List ℕ
byte_digits b = codes " " ++ digit_glyph false (b / 16) ∷ digit_glyph false (b % 16) ∷ []

abbrev pub bytes_digits : List ℕ → List ℕ
bytes_digits bytes = flat_map byte_digits bytes

-- what stands after a buffer's records: its bytes, on a line of their own
abbrev pub bytes_line : ℕ → List ℕ → List ℕ
bytes_line c bytes = codes "\nbytes cpu " ++ decimal c ++ codes ":" ++ bytes_digits bytes ++ codes "\n"

-- the two lines of a buffer
abbrev pub buffer_lines : Header → ℕ → ReadBuffer → List ℕ
buffer_lines h c t = buffer_front c t ++ records_text h t.records ++ bytes_line c t.bytes.items

-- the buffers of a CPU
abbrev pub cpu_buffers : Header → ℕ × List ReadBuffer → List ℕ
cpu_buffers h cpu = flat_map (buffer_lines h cpu.0) cpu.1

-- those of all CPUs, CPU 0 first
abbrev pub all_buffers : Header → List (List ReadBuffer) → List ℕ
all_buffers h texts = flat_map (cpu_buffers h) (enumerate_from 0 texts)
