-- Cited by calls. Which words show a list of deeds.
use Rattle.std.specs.Prelude.{ℕ, ◌≡◌, ◌<◌, ◌≤◌, ◌^◌, ◌%◌, List, length, slice_index, if◌then◌else◌}
use Rattle.dspec_table.specs.Layout.{slot_place, activity_place, ack_place, word_count}
use Rattle.dspec_table.specs.Words.Outside.{word_number, halted, word_at, ack, Config, Deed}

abbrev pub activity : List Deed → ℕ
activity log = if halted log then 1 else 0

abbrev pub word : ℕ → List Deed → ℕ
word s log = word_number (word_at s log)

pub record Shows (k : Config) (words : List ℕ) (log : List Deed) : Type 0 where
  pub count : length words ≡ word_count k
  pub active : slice_index words activity_place ≡ activity log
  pub slots : (s : ℕ) → 1 ≤ s → s ≤ k.nspec → slice_index words (slot_place s) ≡ word s log
  pub acks : (c s : ℕ) → c < k.cpus → 1 ≤ s → s ≤ k.nspec → slice_index words (ack_place k c s) ≡ ack c s log

-- the number of a word that can be released
abbrev pub IsWordNumber : ℕ → Type 0
IsWordNumber n = (n % 8 < 7) × (n ≤ 2 ^ 60)

-- the places of the slots have words
abbrev pub AreWords : Config → List ℕ → Type 0
AreWords k words = (s : ℕ) → 1 ≤ s → s ≤ k.nspec → IsWordNumber (slice_index words (slot_place s))
