-- Cited by calls. Which of the shared words a call touches: it loads, stores and exchanges no other.
use Rattle.std.specs.Prelude.{ℕ, ◌≡◌, ◌⊎◌, ◌≤◌, true, All, List, ◌++◌}
use Rattle.dspec_cpu.specs.Words.Outside.{Speculation, in_range, ack_place, activity_place, ask_place, slot_place, Config, Opening, View}
use Rattle.dspec_deeds.specs.declared.calls.Opening.TheVariants as opening

-- each step between the two was on a word whose place is within
pub record Touches (within : ℕ → Type 0) (v w : View) : Type 0 where
  pub places : List ℕ
  pub touched : w.touched ≡ places ++ v.touched
  pub all : All within places

-- activity's word
abbrev pub of_activity : ℕ → Type 0
of_activity p = p ≡ activity_place

-- the slot's word
abbrev pub at_slot : ℕ → ℕ → Type 0
at_slot slot p = p ≡ slot_place slot

-- activity's word, and that of the identifier's slot where the session has it
abbrev pub of_slot : Config → Speculation → ℕ → Type 0
of_slot k id p = (p ≡ activity_place) ⊎ ((in_range k id ≡ true) × (p ≡ slot_place id.slot))

-- activity's word, and those of the slots up to that one
abbrev pub of_slots : ℕ → ℕ → Type 0
of_slots last p = (p ≡ activity_place) ⊎ ((slot : ℕ) × (1 ≤ slot) × (slot ≤ last) × (p ≡ slot_place slot))

-- the slot up to which a call of speculation looks, by its answer: up to the one that it gives out, else up to the last
abbrev pub last_looked : ℕ → Opening → ℕ
last_looked nspec opening.Worn = 0
last_looked nspec opening.Stopped = 0
last_looked nspec (opening.Id id) = id.slot
last_looked nspec opening.Unavailable = nspec
last_looked nspec opening.Busy = nspec

-- the CPU's ask, the slots' words, and the CPU's own acknowledgements of them
abbrev pub of_service : Config → ℕ → ℕ → Type 0
of_service k c p =
    (p ≡ ask_place k c)
    ⊎ ((slot : ℕ) × (1 ≤ slot) × (slot ≤ k.nspec) × ((p ≡ slot_place slot) ⊎ (p ≡ ack_place k c slot)))
