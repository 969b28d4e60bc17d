-- Believed. The ranges of a configuration.
use Rattle.std.specs.Prelude.{ℕ, ◌^◌, ◌%◌, ◌==◌, nat_le, Bool, true, false, not, ◌&&◌, if◌then◌else◌, Option, Some, None}
use Rattle.dspec_deeds.specs.declared.config.Config.{Config}
use Rattle.dspec_deeds.specs.declared.config.Policy.{Policy, TheVariants.Switch, TheVariants.Fill}
use Rattle.dspec_deeds.specs.declared.config.StartFault.{StartFault, TheVariants.Cpus, TheVariants.Specs, TheVariants.BufSize, TheVariants.SpecSize, TheVariants.Issues, TheVariants.Calls}

abbrev pub is_between : ℕ → ℕ → ℕ → Bool
is_between low high n = nat_le low n && nat_le n high

-- a buffer's size in bytes: a multiple of 8, and a mebibyte at most
abbrev pub is_size : ℕ → Bool
is_size n = is_between 8 1048576 n && (n % 8 == 0)

-- whether a refused reservation closes a principal buffer
abbrev pub is_fill : Policy → Bool
is_fill Switch = false
is_fill Fill = true

-- the first field out of its range
abbrev pub start_fault : Config → Option StartFault
start_fault k =
    if not (is_between 1 64 k.cpus) then Some Cpus else
    (if not (is_between 1 63 k.nspec) then Some Specs else
    (if not (is_size k.bufsize) then Some BufSize else
    (if not (is_size k.specsize) then Some SpecSize else
    (if not (is_between 1 (2 ^ 57) k.max_issues) then Some Issues else
    (if not (is_between 1 (2 ^ 62) k.max_calls) then Some Calls else None)))))
