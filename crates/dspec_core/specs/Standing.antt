-- Serves proofs. Where the consumer's call in flight stands: what each of its atomic steps takes for granted.
use Rattle.std.specs.Prelude.{ℕ, ◌≡◌, List, Option, Some}
use Rattle.dspec_core.specs.{Machines.IsShownMachine, Machines.state_of, Words.Outside.Shape, Words.Outside.Piece, Words.Outside.IsCoherent, Words.Outside.ConsumerFlight}
use Rattle.dspec_core.specs.{declared.machine.Machine.Machine}

-- the machine shows its list of deeds, each call in flight stands where its deeds have brought it, and the consumer's is at that place
pub record ConsumerStandsAt {S B : Type 0} (has : B → S → List Piece → Type 0) (capacity : B → ℕ) (shape_of : S → ℕ → Option Shape) (m : Machine S B) (f : ConsumerFlight) : Type 0 where
  pub shown : IsShownMachine has capacity m
  pub coherent : IsCoherent (shape_of m.schema) (state_of m)
  pub flight : m.consumer.flight ≡ Some f
