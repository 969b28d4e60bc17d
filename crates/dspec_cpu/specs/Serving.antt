-- Cited by calls. What a call of service did.
use Rattle.std.specs.Prelude.{ℕ, ◌≡◌, List, ◌++◌, length}
use Rattle.dspec_cpu.specs.{Calls.Goes, Settled.SettledSlots, Switching.Buffers, Switching.Switches, Switching.with_seal, Words.Outside.Config, Words.Outside.Served, Words.Outside.Deed}
use Rattle.dspec_cpu.specs.{Words.Outside.View}

-- settlements touch no ring, and neither the batch nor the spare in hand
pub record LeavesBatches (x y : Buffers) : Type 0 where
  pub end : y.end ≡ x.end
  pub held_back : y.held_back ≡ x.held_back
  pub spare : y.spare ≡ x.spare
  pub seals : y.seals ≡ x.seals

-- First the buffers are switched, or aren't; then each slot's word is loaded, upwards, and its speculation settled exactly where
-- the table grants it. The Seal, where there is one, and the Settles in front of it come in front of every list that the CPU had.
pub record Serves (k : Config) (c : ℕ) (a : Served) (had : List Deed → Type 0) (v : View) (x : Buffers) (has : List Deed → Type 0) (w : View) (y : Buffers) : Type 0 where
  pub between : View
  pub passed : Buffers
  pub switches : Switches k c v x a.sealed between passed
  pub settles : List Deed
  pub slots : SettledSlots c between k.nspec settles w
  pub goes : Goes between settles w
  pub number : a.settled ≡ length settles
  pub leaves : LeavesBatches passed y
  pub list : (p : List Deed) → had p → has (settles ++ with_seal a.sealed c p)
