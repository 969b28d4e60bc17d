-- Cited by calls. Where the words of a session lie. A line of the cache is 64 bytes, eight words.
use Rattle.std.specs.Prelude.{ℕ, ◌≤◌, ◌+◌, ◌*◌, ◌/◌, ◌-◌}
use Rattle.dspec_table.specs.Words.Outside.{Config}

-- activity lies before the slots, so that its place is the same in every session; seven places before it are left free, since the
-- block's own alignment isn't known
abbrev pub activity_place : ℕ
activity_place = 8

-- each slot's word has a line of its own: eight places a slot; after each group seven places are left free, so that no line
-- that has a word of one group has one of another
abbrev pub slot_place : ℕ → ℕ
slot_place s = (s + 1) * 8

-- the slot whose word lies there
abbrev pub slot_at : ℕ → ℕ
slot_at p = p / 8 - 1

-- a CPU's group: its ask, and its acknowledgements of the slots
abbrev pub group_width : Config → ℕ
group_width k = k.nspec + 8

abbrev pub group_place : Config → ℕ → ℕ
group_place k c = k.nspec * 8 + 16 + c * group_width k

abbrev pub ask_place : Config → ℕ → ℕ
ask_place k c = group_place k c

abbrev pub ack_place : Config → ℕ → ℕ → ℕ
ack_place k c s = group_place k c + s

abbrev pub word_count : Config → ℕ
word_count k = group_place k k.cpus

-- so few CPUs and slots that every place has a number
abbrev pub HasPlaces : Config → Type 0
HasPlaces k = (k.cpus ≤ 64) × (k.nspec ≤ 63)
