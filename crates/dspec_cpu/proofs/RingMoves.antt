-- How many moves of its rings a CPU makes.
use Rattle.std.proofs.{Common.◌≡◌, Common.ℕ, Common.◌+◌, Common.◌≤◌, Common.Bool, Common.Option, Common.Some, Common.None, Common.refl, Common.arith, lemmas.Bool.Decides.nat_tests}
use Rattle.dspec_cpu.specs.Words.{Buffers, Switches, most_moves, Batch, Config, View}

-- one push for a batch held back
handing : Option Batch → ℕ
handing None = 0
handing (Some b) = 1

most : (w : Option Batch) → handing w + 2 ≡ most_moves w
unfolding handing
most None = refl
most (Some b) = refl

pub switched_moves : (k : Config) (c : ℕ) (v : View) (x : Buffers) (sealed : Bool) (w : View) (y : Buffers) → Switches k c v x sealed w y → y.end.moves ≤ x.end.moves + most_moves x.held_back
switched_moves = grind (arith, nat_tests)
