-- Cited by calls. Which lists what is left of a CPU has, and how the close of a session settles them.
use Rattle.std.specs.Prelude.{ℕ, ◌≡◌, ◌<◌, Bool, List, ◌++◌, reverse, Option}
use Rattle.dspec_cpu.specs.{Lists.AreShown, Sealed.waiting, Settled.IsPartOf, Words.Outside.Record, Words.Outside.Stored, Words.Outside.ack, Words.Outside.part, Words.Outside.word_at}
use Rattle.dspec_cpu.specs.{Words.Outside.IsLegal, Words.Outside.StateParts, Words.Outside.last_set_up, Words.Outside.Shows, Words.Outside.parts_of_side, Words.Outside.Shape, Words.Outside.Batch}
use Rattle.dspec_cpu.specs.{Words.Outside.Config, Words.Outside.CpuActor, Words.Outside.Deed, Words.Outside.LastWords, declared.rest.CpuRest.CpuRest}

abbrev pub config_of_rest : {S : Type 0} → CpuRest S → Config
config_of_rest rest = rest.config

abbrev pub number_of_rest : {S : Type 0} → CpuRest S → ℕ
number_of_rest rest = rest.cpu

abbrev pub schema_of_rest : {S : Type 0} → CpuRest S → S
schema_of_rest rest = rest.schema

-- how many calls were answered Worn
abbrev pub worn_of_rest : {S : Type 0} → CpuRest S → ℕ
worn_of_rest rest = rest.side.counts.worn

-- a batch whose hand-over was refused
abbrev pub held_back_of_rest : {S : Type 0} → CpuRest S → Option Batch
held_back_of_rest rest = rest.held_back

-- the batch that the last Seal would make
abbrev pub last_batch : {S : Type 0} → CpuRest S → Batch
last_batch rest = record { cpu = rest.cpu; drops = rest.side.drops; buffer = rest.side.active }

-- what it shows of the CPU's deeds
abbrev pub side_of_rest : {S : Type 0} → CpuRest S → StateParts Stored
side_of_rest rest = parts_of_side rest.side

-- the batches that the CPU sealed, the latest first, where its end had handed on these, the oldest first
abbrev pub batches_of_rest : {S : Type 0} → CpuRest S → List Batch → List Batch
batches_of_rest rest handed = waiting rest.held_back ++ reverse handed

-- it is what is left of the same CPU
pub record IsSameRest {S : Type 0} (old new : CpuRest S) : Type 0 where
  pub schema : new.schema ≡ old.schema
  pub config : new.config ≡ old.config
  pub number : new.cpu ≡ old.cpu
  pub held_back : new.held_back ≡ old.held_back
  pub worn : new.side.counts.worn ≡ old.side.counts.worn

module _ (shape : ℕ → Option Shape) (accepted : Record → Bool) (text : Record → List ℕ) where
  abbrev pub RestHasList : {S : Type 0} → CpuRest S → List Batch → List Deed → Type 0
  RestHasList rest handed p = AreShown shape accepted text rest.config rest.cpu (side_of_rest rest) (batches_of_rest rest handed) rest.side.counts p

-- last words of the same session, of which the CPU is one
pub record AreItsWords (last : LastWords) (k : Config) (c : ℕ) : Type 0 where
  pub set_up : last_set_up last ≡ k
  pub one : c < k.cpus

-- The last words show a list whose part of the CPU is its list, with the settlements of the slots below put in front of both.
pub record CanCloseAfter (k : Config) (c slot : ℕ) (words : List ℕ) (log now p : List Deed) : Type 0 where
  pub shows : Shows k words log
  pub part_is : IsPartOf k c now p
  pub word : word_at slot now ≡ word_at slot log
  pub ack : ack c slot p ≡ ack c slot log

-- the list is the CPU's part of a legal list
abbrev pub IsLegalPart : (ℕ → Option Shape) → Config → ℕ → List Deed → List Deed → Type 0
IsLegalPart shape k c g p = IsLegal shape k g × (part (CpuActor c) g ≡ p)
