-- Cited by calls. That each call on a table keeps the sum of its counts.
use Rattle.std.specs.Prelude.{ℕ, Bool, Option}
use Rattle.dspec_paths.specs.Counts.{CountsAddUp, counted_begin, counted_discard, counted_end, counted_loss, has_part_at}
use Rattle.dspec_paths.specs.Table.{Places, AdoptsPath, BeginsBy, DiscardsPath, IsUndecided, KeepsPart, KeepsPath, TurnsBy}
use Rattle.dspec_paths.specs.Words.Outside.{CallsMade, Opening, Speculation}
use Rattle.dspec_paths.specs.declared.{open_path.OpenPath.OpenPath, path_counts.PathCounts.PathCounts, path_end.PathEnd.PathEnd, path_key.PathKey.PathKey}

abbrev pub BeginningBalances : Type 0
BeginningBalances = (c : PathCounts) (ps new : Places) (number thread stamp : ℕ) (a : Option PathKey) (o : Opening) (x y : CallsMade) → CountsAddUp ps c
    → BeginsBy o number thread stamp a x y ps new → CountsAddUp new (counted_begin a c)

abbrev pub TurningBalances : Type 0
TurningBalances = (c : PathCounts) (ps new : Places) (k : PathKey) (p : OpenPath) (a : Option Speculation) (o : Opening) (x y : CallsMade) → CountsAddUp ps c → IsUndecided k ps p
    → TurnsBy o k p a x y ps new → CountsAddUp new c

-- by which speculations a commit would find no room
abbrev pub KeepingBalances : (Speculation → Type 0) → Type 0
KeepingBalances lacks = (waits : Bool) (c : PathCounts) (ps new : Places) (k : PathKey) (a : PathEnd) (x y : CallsMade) → CountsAddUp ps c → KeepsPath lacks waits k a x y ps new
    → CountsAddUp new (counted_end (has_part_at k.place ps) a c)

-- the same of a part
abbrev pub KeepingPartBalances : (Speculation → Type 0) → Type 0
KeepingPartBalances lacks = (waits : Bool) (c : PathCounts) (ps new : Places) (k : PathKey) (a : PathEnd) (x y : CallsMade) → CountsAddUp ps c → KeepsPart lacks waits k a x y ps new
    → CountsAddUp new (counted_end (has_part_at k.place ps) a c)

abbrev pub DiscardingBalances : Type 0
DiscardingBalances = (c : PathCounts) (ps new : Places) (k : PathKey) (a : Bool) (x y : CallsMade) → CountsAddUp ps c → DiscardsPath k a x y ps new → CountsAddUp new (counted_discard a c)

abbrev pub LosingBalances : Type 0
LosingBalances = (c : PathCounts) (ps new : Places) (k : PathKey) (a : Bool) (x y : CallsMade) → CountsAddUp ps c → DiscardsPath k a x y ps new → CountsAddUp new (counted_loss a c)

abbrev pub AdoptingBalances : Type 0
AdoptingBalances = (c : PathCounts) (ps new : Places) (k : PathKey) (thread : ℕ) (a : Bool) → CountsAddUp ps c → AdoptsPath k thread a ps new → CountsAddUp new c

-- the paths of a thread, or all
abbrev pub ManyBalance : (Places → Places → PathCounts → PathCounts → Type 0) → Type 0
ManyBalance counted = (c later : PathCounts) (ps new : Places) → CountsAddUp ps c → counted ps new c later → CountsAddUp new later
