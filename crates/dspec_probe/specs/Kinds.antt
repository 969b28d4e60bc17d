-- Cited by calls. Which fields have a name of their own: all but the next words of a text.
use Rattle.std.specs.Prelude.{ℕ, ◌+◌, ◌-◌, Bool, true, false, List, [], ◌∷◌, take, slice_index_or, if◌then◌else◌}
use Rattle.dspec_probe.specs.declared.kind.Kind.{Kind, TheVariants.Unsigned, TheVariants.TextNext}

abbrev pub is_next : Kind → Bool
is_next TextNext = true
is_next _ = false

-- how many of them are next words of a text
abbrev pub next_words : List Kind → ℕ
next_words [] = 0
next_words (k ∷ ks) = (if is_next k then 1 else 0) + next_words ks

-- the place of a field's name among the names, by the field's own place: each word of a text has the text's name
abbrev pub name_place : List Kind → ℕ → ℕ
name_place kinds place = place - next_words (take (place + 1) kinds)

-- the first eight of these kinds; after the last it is Unsigned
abbrev pub eight_kinds : List Kind → List Kind
eight_kinds ks =
    slice_index_or ks 0 Unsigned ∷ slice_index_or ks 1 Unsigned ∷ slice_index_or ks 2 Unsigned ∷ slice_index_or ks 3 Unsigned
    ∷ slice_index_or ks 4 Unsigned ∷ slice_index_or ks 5 Unsigned ∷ slice_index_or ks 6 Unsigned ∷ slice_index_or ks 7 Unsigned ∷ []
