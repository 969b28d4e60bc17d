-- Cited by calls. Which values the numbers of a record stand for, by the type of their field.
use Rattle.std.specs.{Float.Ieee.Float, Float.Ieee.Format, Int.Width, Int.cast_signed, Prelude.ℕ, Prelude.zero, Prelude.suc, Prelude.◌^◌, Prelude.Bool, Prelude.true, Prelude.false, Prelude.ℤ}
use Rattle.std.specs.{Prelude.nat_lt, Prelude.from_bits, Prelude.Option, Prelude.Some, Prelude.None, Prelude.if◌then◌else◌}
use mir.Val.{bits}

-- a number below the limit, itself
abbrev pub below : ℕ → ℕ → Option ℕ
below limit n = if nat_lt n limit then Some n else None

-- a signed number, its bits of this width
abbrev pub signed : Width → ℕ → Option ℤ
signed w n = if nat_lt n (2 ^ bits w) then Some (cast_signed w n) else None

-- a truth value
abbrev pub flag : Bool → ℕ
flag true = 1
flag false = 0

abbrev pub flag_of : ℕ → Option Bool
flag_of zero = Some false
flag_of (suc zero) = Some true
flag_of _ = None

-- a float of this format, its bits; the limit is the first number that they can't be
abbrev pub float : Format → ℕ → ℕ → Option Float
float f limit n = if nat_lt n limit then Some (from_bits f n) else None
