-- Cited by calls. How many paths began in a table, and what became of them.
use Rattle.std.specs.Prelude.{ℕ, zero, suc, ◌≡◌, ◌+◌, ◌%◌, ◌^◌, ◌||◌, ◌⊎◌, Bool, true, false, [], ◌∷◌, Option, Some, None, is_some, if◌then◌else◌}
use Rattle.dspec_paths.specs.{Table.Places, Table.path_at, Words.Outside.Decided, declared.open_path.OpenPath.OpenPath, declared.path_counts.PathCounts.PathCounts, declared.path_end.PathEnd.PathEnd}
use Rattle.dspec_paths.specs.{declared.path_key.PathKey.PathKey, declared.paths.Paths.Paths}
use Rattle.dspec_deeds.specs.declared.calls.Decided.TheVariants as decided
use Rattle.dspec_paths.specs.declared.path_end.PathEnd.TheVariants as path

-- what a table has counted
abbrev pub counted_in : Paths → PathCounts
counted_in t = t.counts

abbrev pub no_counts : PathCounts
no_counts = record { began = 0; kept = 0; thrown_away = 0; lost = 0 }

-- one more, modulo 2^64
abbrev pub one_more_path : ℕ → ℕ
one_more_path n = (n + 1) % 2 ^ 64

abbrev pub with_one_begun : PathCounts → PathCounts
with_one_begun c = record c { began = one_more_path c.began }

abbrev pub with_one_kept : PathCounts → PathCounts
with_one_kept c = record c { kept = one_more_path c.kept }

abbrev pub with_one_thrown_away : PathCounts → PathCounts
with_one_thrown_away c = record c { thrown_away = one_more_path c.thrown_away }

abbrev pub with_one_lost : PathCounts → PathCounts
with_one_lost c = record c { lost = one_more_path c.lost }

-- a path was to begin
abbrev pub counted_begin : Option PathKey → PathCounts → PathCounts
counted_begin (Some k) c = with_one_begun c
counted_begin None c = c

-- The last speculation of a path was to be committed, with this answer. It is kept where that was copied, or a part of it was kept before; else it is lost.
abbrev pub counted_commit : Bool → Decided → PathCounts → PathCounts
counted_commit true d c = with_one_kept c
counted_commit false (decided.Copied n) c = with_one_kept c
counted_commit false d c = with_one_lost c

-- what came of a path that was to be kept: where it is over, one end is counted
abbrev pub counted_end : Bool → PathEnd → PathCounts → PathCounts
counted_end part path.Over c = c
counted_end part (path.Waits n) c = c
counted_end part (path.GoesOn n) c = c
counted_end part (path.Ended n d) c = counted_commit part d c
counted_end part (path.Lost n) c = with_one_lost c

-- a path has older records, which are kept first, or they are kept already
abbrev pub has_part : OpenPath → Bool
has_part p = is_some p.older || p.is_kept

abbrev pub path_has_part : Option OpenPath → Bool
path_has_part (Some p) = has_part p
path_has_part None = false

-- the same of the path that is open at a place
abbrev pub has_part_at : ℕ → Places → Bool
has_part_at i ps = path_has_part (path_at i ps)

-- a path was to be thrown away, or lost as a whole, where it was there
abbrev pub counted_discard : Bool → PathCounts → PathCounts
counted_discard there c = if there then with_one_thrown_away c else c

abbrev pub counted_loss : Bool → PathCounts → PathCounts
counted_loss there c = if there then with_one_lost c else c

-- how many paths are open
abbrev pub open_in : Places → ℕ
open_in [] = 0
open_in (None ∷ ps) = open_in ps
open_in (Some p ∷ ps) = suc (open_in ps)

-- counted so many times
abbrev pub counted_times : ℕ → (PathCounts → PathCounts) → PathCounts → PathCounts
counted_times zero count c = c
counted_times (suc n) count c = count (counted_times n count c)

-- as many were counted as thrown away as were open before and aren't now
abbrev pub ThrownCounted : Places → Places → PathCounts → PathCounts → Type 0
ThrownCounted old new x y = (n : ℕ) × (open_in old ≡ n + open_in new) × (y ≡ counted_times n with_one_thrown_away x)

-- A path was to be kept. Either it is open as before, and nothing is counted; or one is open no more, and is counted as kept, or as lost.
abbrev pub KeptOne : Places → Places → PathCounts → PathCounts → Type 0
KeptOne old new x y = ((open_in new ≡ open_in old) × (y ≡ x)) ⊎ ((open_in old ≡ suc (open_in new)) × ((y ≡ with_one_kept x) ⊎ (y ≡ with_one_lost x)))

-- as many were counted as kept, or as lost
abbrev pub KeptCounted : Places → Places → PathCounts → PathCounts → Type 0
KeptCounted old new x y = (n m : ℕ) × (open_in old ≡ n + m + open_in new) × (y ≡ counted_times n with_one_kept (counted_times m with_one_lost x))

-- THE SUM: those that began are those that are open, were kept, were thrown away or are lost, modulo 2^64.
abbrev pub IsSum : ℕ → PathCounts → Type 0
IsSum count c = (count + c.kept + c.thrown_away + c.lost) % 2 ^ 64 ≡ c.began

abbrev pub CountsAddUp : Places → PathCounts → Type 0
CountsAddUp ps c = IsSum (open_in ps) c
