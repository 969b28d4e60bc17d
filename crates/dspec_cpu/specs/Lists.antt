-- Believed. Which lists of its own deeds a CPU has, the latest first, and what holds of it between two of its calls.
use Rattle.std.specs.Prelude.{ℕ, ◌≡◌, ◌≤◌, ◌+◌, Bool, List, ◌++◌, length, reverse, Option, Some, None}
use Rattle.dspec_cpu.specs.Sealed.{HasSized, AreSealed, waiting}
use Rattle.dspec_cpu.specs.Words.Outside.{Record, Stored, part, scan, IsSound, IsOwn, StateParts, ShowsOwnState, own_side, start_fault, bare, known, IsAt, set_up, cpu_of, CpuKnows, counts_of}
use Rattle.dspec_cpu.specs.Words.Outside.{parts_of_side, Shape, Batch, Config, CpuActor, Deed, CpuSeat, Counts}
use Rattle.dspec_cpu.specs.declared.{parts.CpuParts.CpuParts as Cpu, shared.Shared.Shared}
use Rattle.dspec_table.specs.declared.seats.Words.{Words}

-- the words that all threads of a session share
abbrev pub words_of : Shared → Words
words_of shared = shared.words

-- what a CPU's side shows of its deeds
abbrev pub side_of : {S : Type 0} → Cpu S → StateParts Stored
side_of cpu = parts_of_side cpu.side

-- the batches that the CPU sealed, the latest first: the one held back, and those handed on
abbrev pub batches_of : {S : Type 0} → Cpu S → List Batch
batches_of cpu = waiting cpu.held_back ++ reverse cpu.end.handed

-- how many calls were answered Worn
abbrev pub worn_of : {S : Type 0} → Cpu S → ℕ
worn_of cpu = cpu.side.counts.worn

-- what it was made with, and its seat and its rings
abbrev pub config_of : {S : Type 0} → Cpu S → Config
config_of cpu = cpu.config

abbrev pub number_in : {S : Type 0} → Cpu S → ℕ
number_in cpu = cpu.cpu

abbrev pub schema_of : {S : Type 0} → Cpu S → S
schema_of cpu = cpu.schema

abbrev pub seat_of : {S : Type 0} → Cpu S → CpuSeat
seat_of cpu = cpu.seat

abbrev pub end_of : {S : Type 0} → Cpu S → CpuKnows
end_of cpu = cpu.end

-- the buffer in hand that is active next
abbrev pub spare_of : {S : Type 0} → Cpu S → Option Stored
spare_of cpu = cpu.spare

-- how many buffers that is
abbrev pub spare_count : Option Stored → ℕ
spare_count None = 0
spare_count (Some b) = 1

-- the batch whose hand-over was refused, and how many batches it sealed
abbrev pub held_back_of : {S : Type 0} → Cpu S → Option Batch
held_back_of cpu = cpu.held_back

-- how many calls count towards the most that it makes
abbrev pub calls_of : {S : Type 0} → Cpu S → ℕ
calls_of cpu = cpu.side.calls

-- it is the same CPU of the same session
pub record IsSameCpu {S : Type 0} (old new : Cpu S) : Type 0 where
  pub schema : new.schema ≡ old.schema
  pub config : new.config ≡ old.config
  pub number : new.cpu ≡ old.cpu
  pub pair : new.end.pair ≡ old.end.pair

module _ (shape : ℕ → Option Shape) (accepted : Record → Bool) (text : Record → List ℕ) where
  -- The list is legal in the own part of this CPU, and numbers and buffers, batches, the latest first, and counts show it: a
  -- CPU's, and what is left of it once its seat and its end of the rings are taken off.
  pub record AreShown (k : Config) (c : ℕ) (parts : StateParts Stored) (batches : List Batch) (counts : Counts) (p : List Deed) : Type 0 where
    pub legal : IsOwn shape k c p
    pub side : ShowsOwnState (HasSized shape accepted text) k (own_side c p) parts
    pub sealed : AreSealed shape accepted text k c p batches
    pub counted : counts ≡ counts_of k c counts.worn p

  abbrev pub IsShown : {S : Type 0} → Cpu S → List Deed → Type 0
  IsShown cpu p = AreShown cpu.config cpu.cpu (side_of cpu) (batches_of cpu) cpu.side.counts p

  -- the CPU has the list: it shows it, and its seat has it without the Seals
  pub record HasList {S : Type 0} (cpu : Cpu S) (p : List Deed) : Type 0 where
    pub own : bare p ≡ (known cpu.seat).own
    pub shown : IsShown cpu p

  -- No call of the CPU is under way or in flight at its seat. What its seat has seen is legal, and the seat's list is its part.
  -- There is a list that it has. A spare in hand has the size of a principal buffer. The CPU has two principal buffers beside
  -- those that came to it, and one is active: the batches that it sealed and a spare in hand are the others.
  pub record IsSteady {S : Type 0} (cpu : Cpu S) : Type 0 where
    pub seat : cpu_of cpu.seat ≡ cpu.cpu
    pub config : (known cpu.seat).config ≡ cpu.config
    pub checked : start_fault cpu.config ≡ None
    pub idle : scan cpu.config cpu.cpu (known cpu.seat).own ≡ 0
    pub flight : (known cpu.seat).flight ≡ None
    pub sound : IsSound cpu.config (known cpu.seat).seen
    pub part_is : part (CpuActor cpu.cpu) (known cpu.seat).seen ≡ (known cpu.seat).own
    pub spare : (b : Stored) → cpu.spare ≡ Some b → b.size ≡ cpu.config.bufsize
    pub few : length (batches_of cpu) + spare_count cpu.spare ≤ 1 + length cpu.end.spares
    pub list : List Deed
    pub listed : HasList cpu list

  -- it can be called by those who share these words
  pub record IsReady {S : Type 0} (words : Words) (cpu : Cpu S) : Type 0 where
    pub at : IsAt words cpu.seat
    pub config : set_up words ≡ cpu.config
    pub steady : IsSteady cpu
