-- Cited by calls. What files tell, merged.
use Rattle.std.specs.{List.Sorted.IsNonDecreasingBy, Prelude.List}
use Rattle.dspec_folder_view.specs.Words.Outside.{Mark}

-- in order of time
abbrev pub IsInOrder : List Mark → Type 0
IsInOrder marks = IsNonDecreasingBy (λ mark. mark.time) marks
