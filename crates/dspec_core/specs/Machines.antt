-- Cited by calls. A machine shows its list of deeds.
use Rattle.std.specs.Prelude.{ℕ, ◌≡◌, ◌<◌, ◌++◌, List, length, map, reverse, slice_get, Option, None, Some}
use Rattle.dspec_core.specs.Shown.{ShowsWords, ShowsCpu}
use Rattle.dspec_core.specs.Words.Outside.{Shape, Piece, halted, IsAllowed, start_fault, CpuStep, ConsumerStep, PlayState, moved_to, cleaned_to, Answer, Deed}
use Rattle.dspec_core.specs.declared.machine.{Machine.Machine, cpu.Cpu.Cpu}

-- the deeds of a machine, the latest first
abbrev pub history : {S B : Type 0} → Machine S B → List Deed
history m = reverse m.deeds

-- what a play knows of a machine
abbrev pub state_of : {S B : Type 0} → Machine S B → PlayState
state_of m = record { config = m.config; deeds = history m; progresses = map (λ own. own.progress) m.cpus.items; side = m.consumer }

module _ {S B : Type 0} (has : B → S → List Piece → Type 0) (capacity : B → ℕ) where
  pub record IsShownMachine (m : Machine S B) : Type 0 where
    pub words : ShowsWords m.config (history m) m.words.items
    pub active : m.halted ≡ halted (history m)
    pub cpu_count : length m.cpus.items ≡ m.config.cpus
    pub cpus : (c : ℕ) (own : Cpu B) → slice_get m.cpus.items c ≡ Some own → ShowsCpu has capacity m.schema m.config c (history m) own

module _ {S B : Type 0} (has : B → S → List Piece → Type 0) (capacity : B → ℕ) (shape_of : S → ℕ → Option Shape) (m : Machine S B) where
  -- deeds may be entered: the machine shows its list, its configuration is in range, and the list with them in front is legal
  pub record MayEnter (ds : List Deed) : Type 0 where
    pub shown : IsShownMachine has capacity m
    pub ranges : start_fault m.config ≡ None
    pub legal : IsAllowed (shape_of m.schema) m.config (ds ++ history m)

  -- the same, by a CPU that there is
  pub record MayEnterOn (c : ℕ) (ds : List Deed) : Type 0 where
    pub shown : IsShownMachine has capacity m
    pub ranges : start_fault m.config ≡ None
    pub legal : IsAllowed (shape_of m.schema) m.config (ds ++ history m)
    pub cpu : c < m.config.cpus

-- one machine is another with deeds in front of its list, and all else that a play knows the same
pub record Adds {S B : Type 0} (ds : List Deed) (m n : Machine S B) : Type 0 where
  pub state : state_of n ≡ record (state_of m) { deeds = ds ++ history m }
  pub schema : n.schema ≡ m.schema

-- a step of a CPU makes this of a machine, with that answer
pub record Makes {S B : Type 0} (has : B → S → List Piece → Type 0) (capacity : B → ℕ) (m n : Machine S B) (c : ℕ) (moved : CpuStep) (answer : Option Answer) : Type 0 where
  pub shown : IsShownMachine has capacity n
  pub state : state_of n ≡ (moved_to (state_of m) c moved).state
  pub schema : n.schema ≡ m.schema
  pub answered : answer ≡ moved.answer

-- a step of the consumer makes this of a machine, with that answer
pub record ConsumerMakes {S B : Type 0} (has : B → S → List Piece → Type 0) (capacity : B → ℕ) (m n : Machine S B) (cleaned : ConsumerStep) (answer : Option Answer) : Type 0 where
  pub shown : IsShownMachine has capacity n
  pub state : state_of n ≡ (cleaned_to (state_of m) cleaned).state
  pub schema : n.schema ≡ m.schema
  pub answered : answer ≡ cleaned.answer
