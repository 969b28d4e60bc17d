-- A float's bits stand for it again.
use Rattle.std.proofs.Common.{◌≡◌, ℕ, true, nat_lt, Some, to_bits, ap}
use Rattle.std.specs.{Bool.passes, Float.Ieee.Float, Float.Ieee.Format, Float.Ieee.fits}
use lib.Ieee.Bits.{of_bits-to_bits}
use Rattle.dspec_probe.specs.Words.{float}

pub float-to_bits : (f : Format) (limit n : ℕ) (x : Float) → fits f x ≡ true → nat_lt n limit ≡ true → n ≡ to_bits f x → float f limit n ≡ Some x
float-to_bits f limit n x fit below is = rw (below, is) (ap Some (of_bits-to_bits f x (passes _ fit)))
