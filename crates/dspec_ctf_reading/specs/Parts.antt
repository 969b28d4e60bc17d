-- Cited by calls. What reading a part of a text answers, in the words of the definitions of reading.
use Rattle.std.specs.Option.{option_map}
use Rattle.std.specs.Prelude.{◌≡◌, ℕ, List, length, codes, Bool, true, false, Option, Some, None, Result, MatchResult, IsTrue}
use Rattle.dspec_ctf_reading.specs.Reading.{PartRead, then_read}
use Rattle.dspec_ctf_reading.specs.ReadingMetadata.{is_digit, is_word, is_quoted, rest_past, past, then_rest, read_quoted, whole_types, read_type_of, read_labels, types_lines, trace_lines}
use Rattle.dspec_ctf_reading.specs.ReadingMetadata.{header_lines}
use Rattle.dspec_ctf_reading.specs.declared.fault.ReadStop.{ReadStop, TheVariants.Unread, TheVariants.TooLarge, TheVariants.Memory}
use Rattle.dspec_ctf_reading.specs.declared.scan.Set.{Set, TheVariants.Digits, TheVariants.Word, TheVariants.Quoted}

-- the test of a set of bytes
abbrev pub test_of : Set → ℕ → Bool
test_of Digits = is_digit
test_of Word = is_word
test_of Quoted = is_quoted

-- it stopped since something else should stand there
abbrev pub is_unread : ReadStop → Bool
is_unread (Unread left expected) = true
is_unread (TooLarge left) = false
is_unread Memory = false

-- a part that was read is what the definition reads there; and where something else stands, the definition reads nothing
abbrev pub Gives : {A B : Type 0} → Result A ReadStop → (A → B) → Option B → Type 0
Gives result told part = MatchResult result (λ x. part ≡ Some (told x)) (λ stop. IsTrue (is_unread stop) → part ≡ None)

-- an enumeration, from the type of its numbers on
abbrev pub read_enumeration : List ℕ → PartRead ℕ
read_enumeration bytes =
    then_read (read_type_of whole_types bytes) (λ width rest. past (codes " { ") rest (λ rest. option_map (λ p. (width, p.1)) (read_labels (length rest) rest)))

-- what is after the types and the trace, up to the environment
abbrev pub read_trace : List ℕ → Option (List ℕ)
read_trace bytes = past types_lines bytes (λ rest. past trace_lines rest (λ rest. then_rest (read_quoted rest) (rest_past header_lines)))
