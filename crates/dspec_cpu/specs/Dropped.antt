-- Cited by calls. How many drops a CPU tells of.
use Rattle.std.specs.Prelude.{ℕ, ◌-◌, ◌^◌, nat_lt, if◌then◌else◌}

-- as a number of 32 bits, the greatest where there are more
abbrev pub drops_told : ℕ → ℕ
drops_told n = if nat_lt n (2 ^ 32) then n else 2 ^ 32 - 1
