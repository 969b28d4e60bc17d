-- Serves proofs. What has to hold so that the next step of a call in flight can be told.
use Rattle.std.specs.Prelude.{ℕ, ◌≡◌, ◌<◌, true}
use Rattle.dspec_picture.specs.Words.Outside.{CanBeReleased, is_about, IsSlot, Config, ConsumerFlight, CallPlace}
use Rattle.dspec_interleaving.specs.declared.flight.ConsumerFlight.TheVariants as consumer
use Rattle.dspec_interleaving.specs.declared.flight.CallPlace.TheVariants as cpu

module _ (k : Config) where
  -- a slot of the session, which an identifier has room for
  abbrev pub IsNamedSlot : ℕ → Type 0
  IsNamedSlot s = IsSlot k s × (s < 64)

  -- the slot that a CPU's step loads or exchanges is one of the session, and the word that it expects may be released; slot 1 is there
  -- where a call begins
  abbrev pub CanBeTold : CallPlace → Type 0
  CanBeTold (cpu.ScanLoad s) = IsNamedSlot s
  CanBeTold (cpu.ScanTry s from) = IsNamedSlot s × CanBeReleased from
  CanBeTold (cpu.SpeculateLoad id r) = IsNamedSlot id.slot
  CanBeTold (cpu.SpeculateTry id r from) = IsNamedSlot id.slot × CanBeReleased from
  CanBeTold (cpu.CommitLoad id) = IsNamedSlot id.slot
  CanBeTold (cpu.CommitTry id from) = IsNamedSlot id.slot × CanBeReleased from
  CanBeTold (cpu.DiscardLoad id) = IsNamedSlot id.slot
  CanBeTold (cpu.DiscardTry id from) = IsNamedSlot id.slot × CanBeReleased from
  CanBeTold (cpu.ServiceLoad s sum) = IsNamedSlot s
  CanBeTold (cpu.ServiceStore s w sum) = IsNamedSlot s
  CanBeTold (cpu.Begun o) = IsNamedSlot 1
  CanBeTold f = Unit {0}

  -- the same of the consumer's step; the CPU that it is about exists
  abbrev pub ConsumerCanBeTold : ConsumerFlight → Type 0
  ConsumerCanBeTold (consumer.Begun o) = (is_about k o ≡ true) × IsNamedSlot 1
  ConsumerCanBeTold (consumer.CleanLoad s n) = IsNamedSlot s
  ConsumerCanBeTold (consumer.CleanAck s w c n) = IsNamedSlot s × (c < k.cpus)
  ConsumerCanBeTold (consumer.CleanReap s w n) = IsNamedSlot s × CanBeReleased w
