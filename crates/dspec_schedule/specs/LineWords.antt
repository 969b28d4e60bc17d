-- Cited by calls. How the bytes of a schedule's line are read as words and numbers.
use Rattle.std.specs.{List.slice_split, Prelude.ℕ, Prelude.◌==◌, Prelude.◌^◌, Prelude.not, Prelude.◌&&◌, Prelude.nat_le, Prelude.nat_lt, Prelude.Bool, Prelude.false, Prelude.List, Prelude.[]}
use Rattle.std.specs.{Prelude.◌∷◌, Prelude.length, Prelude.filter, Prelude.slice_index, Prelude.if◌then◌else◌, Prelude.Result, Prelude.Ok, Prelude.Err, Str.all_ascii_digits, Str.Parse.digits_value}
use Rattle.dspec_schedule.specs.{Steps.each, declared.fault.LineKind.LineKind, declared.fault.LineKind.TheVariants.BadNumber, declared.fault.LineKind.TheVariants.WordCount}

-- a space, or a graphic character of ASCII
abbrev pub is_printable : ℕ → Bool
is_printable byte = nat_le 32 byte && nat_le byte 126

-- what stands between the spaces of a line, without the empty pieces
abbrev pub pieces_of : List ℕ → List (List ℕ)
pieces_of line = filter (λ piece. not (length piece == 0)) (slice_split (λ byte. byte == 32) line)

-- the words of a line: a comment, whose first byte is '#' (35), has none
abbrev pub words_of_line : List ℕ → List (List ℕ)
words_of_line line = if slice_index line 0 == 35 then [] else pieces_of line

-- one decimal digit or more, and nothing else
abbrev pub is_numeral : List ℕ → Bool
is_numeral [] = false
is_numeral (digit ∷ digits) = all_ascii_digits (digit ∷ digits)

-- the number below the limit that a word of digits alone stands for
unfoldable pub number_read : ℕ → List ℕ → Result ℕ LineKind
number_read limit word =
    if is_numeral word && nat_lt (digits_value 10 word) limit then Ok (digits_value 10 word) else Err BadNumber

-- a number of 32 bits: a CPU, a probe identifier or a size
abbrev pub small_number_of : List ℕ → Result ℕ LineKind
small_number_of = number_read (2 ^ 32)

-- a number of 64 bits
abbrev pub wide_number_of : List ℕ → Result ℕ LineKind
wide_number_of = number_read (2 ^ 64)

-- numbers of 64 bits
abbrev pub numbers_of : List (List ℕ) → Result (List ℕ) LineKind
numbers_of words = each wide_number_of words

-- the only word
unfoldable pub only_word : List (List ℕ) → Result (List ℕ) LineKind
only_word [] = Err WordCount
only_word (word ∷ []) = Ok word
only_word (word ∷ more ∷ words) = Err WordCount

-- no word
unfoldable pub no_word : List (List ℕ) → Result Unit LineKind
no_word [] = Ok tt
no_word (word ∷ words) = Err WordCount
