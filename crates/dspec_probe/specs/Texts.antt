-- Cited by calls. Texts as words of eight bytes: how a text stands in so many words, and what words stand for.
use Rattle.std.specs.Int.{w64, from_le_bytes, to_le_bytes}
use Rattle.std.specs.List.{flat_map, range_with_len}
use Rattle.std.specs.Prelude.{ℕ, ◌+◌, ◌-◌, ◌*◌, ◌/◌, ◌^◌, ◌==◌, nat_le, not, Bool, List, [], ◌∷◌, length, map, take, slice_index_or, Option, Some, None, if◌then◌else◌}
use Rattle.dspec_probe.specs.declared.text.Text.{Text}

-- a byte that goes on with a character of UTF-8
abbrev pub is_continuation : ℕ → Bool
is_continuation b = b / 64 == 2

abbrev pub continues_at : List ℕ → ℕ → Bool
continues_at bytes place = is_continuation (slice_index_or bytes place 0)

-- Where a text of more bytes than these is cut: at the last place up to there at which a character begins. No character has more than four bytes; where
-- none begins at the last four places the bytes are no UTF-8, and are cut there.
unfoldable pub cut_place : List ℕ → ℕ → ℕ
cut_place bytes size =
    if not (continues_at bytes size) then size
    else if not (continues_at bytes (size - 1)) then size - 1
    else if not (continues_at bytes (size - 2)) then size - 2
    else if not (continues_at bytes (size - 3)) then size - 3
    else size

-- the word at a place, of the bytes and of what fills the words after them
unfoldable pub text_word : List ℕ → ℕ → ℕ → ℕ
text_word bytes fill place =
    from_le_bytes w64
    (slice_index_or bytes (8 * place) fill ∷ slice_index_or bytes (8 * place + 1) fill ∷ slice_index_or bytes (8 * place + 2) fill
    ∷ slice_index_or bytes (8 * place + 3) fill ∷ slice_index_or bytes (8 * place + 4) fill ∷ slice_index_or bytes (8 * place + 5) fill
    ∷ slice_index_or bytes (8 * place + 6) fill ∷ slice_index_or bytes (8 * place + 7) fill ∷ [])

abbrev pub filled_words : ℕ → List ℕ → ℕ → List ℕ
filled_words count bytes fill = map (text_word bytes fill) (range_with_len 0 count)

-- A text in so many words: zeros after its end, or, where it is longer, full stops after the cut.
unfoldable pub text_words : ℕ → List ℕ → List ℕ
text_words count bytes =
    if nat_le (length bytes) (8 * count) then filled_words count bytes 0
    else filled_words count (take (cut_place bytes (8 * count)) bytes) 46

-- the last byte of the words is zero: the text wasn't cut
abbrev pub is_whole : List ℕ → Bool
is_whole words = slice_index_or words (length words - 1) 0 / 2 ^ 56 == 0

-- the text with these words
abbrev pub text_of : (count : ℕ) → List ℕ → Option (Text count)
text_of count words = if length words == count then Some (record { words = words }) else None

-- the bytes up to the first zero
abbrev pub before_zero : List ℕ → List ℕ
before_zero [] = []
before_zero (b ∷ bytes) = if b == 0 then [] else b ∷ before_zero bytes

-- the bytes of the text that these words are
abbrev pub text_bytes : List ℕ → List ℕ
text_bytes words = before_zero (flat_map (to_le_bytes w64) words)
