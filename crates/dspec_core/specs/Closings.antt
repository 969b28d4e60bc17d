-- Serves proofs. What can be closed, and what the close makes of it.
use Rattle.std.specs.Prelude.{ℕ, ◌≡◌, List, Option, None}
use Rattle.dspec_core.specs.{Machines.IsShownMachine, Machines.history, Machines.state_of, Words.Outside.Shape, Words.Outside.Piece, Words.Outside.CanClose, Words.Outside.start_fault}
use Rattle.dspec_core.specs.{Words.Outside.Deed, declared.machine.Machine.Machine}

module _ {S B : Type 0} (has : B → S → List Piece → Type 0) (capacity : B → ℕ) (shape_of : S → ℕ → Option Shape) where
  -- a machine shows its list, its configuration has no fault, and the session of that list can close
  pub record IsClosable (m : Machine S B) : Type 0 where
    pub shown : IsShownMachine has capacity m
    pub fine : start_fault m.config ≡ None
    pub can_close : CanClose (shape_of m.schema) m.config (history m)

  -- settlements make this of a machine: it can be closed, that is its list, and all else that a play knows is the same
  pub record ClosesTo (m n : Machine S B) (closed : List Deed) : Type 0 where
    pub closable : IsClosable n
    pub settled : state_of n ≡ record (state_of m) { deeds = closed }
    pub schema : n.schema ≡ m.schema
