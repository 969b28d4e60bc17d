-- What a clean reads that waits for a CPU's acknowledgement.
use Rattle.std.proofs.Common.{◌≡◌, ℕ, ◌-◌, ◌<◌, ◌^◌, List, Option, get_or}
use Rattle.dspec_core.specs.Words.{Shape, Piece, SlotState, ack, history, state_of, ConsumerStandsAt}
use Rattle.dspec_core.specs.declared.machine.{Machine.Machine, cpu.Cpu.Cpu}
use Rattle.dspec_interleaving.specs.declared.flight.ConsumerFlight.TheVariants as flight
use Rattle.dspec_interleaving.proofs.CleanReads.{clean_stands, clean_steps_fit}
use Rattle.dspec_core.proofs.MachineReads.{ack_read, acks_place}

module _ {S B : Type 0} {has : B → S → List Piece → Type 0} {capacity : B → ℕ} {shape_of : S → ℕ → Option Shape} {m : Machine S B} {s c n : ℕ} {w : SlotState}
    (stands : ConsumerStandsAt has capacity shape_of m (flight.CleanAck s w c n)) where
  pub few_steps : m.consumer.steps < 2 ^ 31
  few_steps = clean_steps_fit (shape_of m.schema) (state_of m) stands.coherent _ stands.flight

  module _ {own : Cpu B} (is : own ≡ get_or m.cpus.items c own) where
    pub ack_place : s - 1 < own.side.acks.len
    ack_place = let at = clean_stands (shape_of m.schema) (state_of m) stands.coherent _ stands.flight in acks_place has capacity m stands.shown c s own at.2 at.0 is

    pub ack_told : {a : ℕ} → a ≡ get_or own.side.acks.items (s - 1) a → a ≡ ack c s (history m)
    ack_told {a = a} e = let at = clean_stands (shape_of m.schema) (state_of m) stands.coherent _ stands.flight in ack_read has capacity m stands.shown c s own a at.2 at.0 is e
