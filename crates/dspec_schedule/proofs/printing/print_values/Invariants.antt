use Rattle.std.proofs.Common.{◌≡◌, ◌++◌, take, codes, decimal, string_bytes}
use Rattle.std.specs.List.{flat_map}
use Rattle.dspec_schedule.proofs.printing.print_values.Given as goal

abbrev pub invariant-loop-value : goal.invariant-loop-value
invariant-loop-value l =
    string_bytes l.text ≡ string_bytes l.initial.text ++ flat_map (λ v. codes "," ++ decimal v) (take l.value-index l.rest)
