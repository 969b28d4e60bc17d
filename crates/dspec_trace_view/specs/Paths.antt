-- Cited by calls. Which records a path has, and in which order paths are.
use Rattle.std.specs.{List.Sorted.IsNonDecreasingBy, Prelude.◌≡◌, Prelude.◌-◌, Prelude.List}
use Rattle.dspec_trace_view.specs.declared.paths.{KeptPath.KeptPath, PathRecord.PathRecord}

-- a record of this path: of its folder, and with its number
abbrev pub IsRecordOf : KeptPath → PathRecord → Type 0
IsRecordOf path one = (one.folder ≡ path.folder) × (one.number ≡ path.number)

-- in order of how long they took: the one that took longest first
abbrev pub IsLongestFirst : List KeptPath → Type 0
IsLongestFirst paths = IsNonDecreasingBy (λ path. 18446744073709551615 - path.took) paths
