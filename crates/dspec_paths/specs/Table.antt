-- Cited by calls. What a call on a table of paths did: to the table's places, and on the CPU.
use Rattle.std.specs.Prelude.{ℕ, ◌≡◌, ◌≢◌, ◌+◌, ◌-◌, ◌^◌, min, Bool, true, false, IsTrue, List, slice_get, slice_set, ◌⊎◌, Option, Some, None, IfNone}
use Rattle.dspec_paths.specs.Words.Outside.{CallsMade, with_decision, with_speculation, Decided, Opening, commit, discard, Speculation}
use Rattle.dspec_paths.specs.declared.{open_path.OpenPath.OpenPath, path_end.PathEnd.PathEnd, path_key.PathKey.PathKey}
use Rattle.dspec_deeds.specs.declared.calls.Decided.TheVariants as decided
use Rattle.dspec_deeds.specs.declared.calls.Opening.TheVariants as opening
use Rattle.dspec_paths.specs.declared.path_end.PathEnd.TheVariants as path

-- the places of a table, each with the path that is open there
abbrev pub Places : Type 0
Places = List (Option OpenPath)

-- the path that is open at a place
abbrev pub at_place : Option (Option OpenPath) → Option OpenPath
at_place (Some o) = o
at_place None = None

abbrev pub path_at : ℕ → Places → Option OpenPath
path_at i ps = at_place (slice_get ps i)

-- a path is open at the place, and has this name
abbrev pub IsNamed : PathKey → Places → OpenPath → Type 0
IsNamed k ps p = (path_at k.place ps ≡ Some p) × (p.newest ≡ k.newest)

abbrev pub NoneNamed : PathKey → Places → Type 0
NoneNamed k ps = (p : OpenPath) → path_at k.place ps ≡ Some p → p.newest ≢ k.newest

-- the same where it isn't decided yet
abbrev pub IsUndecided : PathKey → Places → OpenPath → Type 0
IsUndecided k ps p = IsNamed k ps p × (p.is_kept ≡ false)

abbrev pub NoneUndecided : PathKey → Places → Type 0
NoneUndecided k ps = (p : OpenPath) → path_at k.place ps ≡ Some p → p.newest ≡ k.newest → p.is_kept ≡ true

-- no place is free
abbrev pub AllTaken : Places → Type 0
AllTaken ps = (i : ℕ) → slice_get ps i ≢ Some None

-- the path at a place is another, or leaves it
abbrev pub with_path : PathKey → OpenPath → Places → Places
with_path k p ps = slice_set ps k.place (Some p)

abbrev pub without_path : PathKey → Places → Places
without_path k ps = slice_set ps k.place None

-- a path that has just begun
abbrev pub begun_with : ℕ → ℕ → ℕ → Speculation → OpenPath
begun_with number thread stamp id = record { number = number; thread = thread; begun = stamp; newest = id; older = None; is_kept = false; cut = 0 }

-- how many records a discard threw away
abbrev pub thrown_by : Decided → ℕ
thrown_by (decided.Thrown n) = n
thrown_by d = 0

abbrev pub thrown : Option Decided → ℕ
thrown (Some d) = thrown_by d
thrown None = 0

-- The path goes on in this speculation; the one before is full, and the one before that was discarded with this answer, where there was one. What that threw
-- away is counted, to the largest number that the count can tell.
abbrev pub turned_to : Speculation → Option Decided → OpenPath → OpenPath
turned_to id gone p = record p { newest = id; older = Some p.newest; cut = min (p.cut + thrown gone) (2 ^ 32 - 1) }

-- a speculation was decided, with this answer
abbrev pub CommitsSo : Speculation → Decided → CallsMade → CallsMade → Type 0
CommitsSo id d x y = y ≡ with_decision commit id d x

abbrev pub DiscardsSo : Speculation → Decided → CallsMade → CallsMade → Type 0
DiscardsSo id d x y = y ≡ with_decision discard id d x

-- nothing was done where there is no speculation
abbrev pub DiscardsIfThere : Option Speculation → Option Decided → CallsMade → CallsMade → Type 0
DiscardsIfThere None a x y = (a ≡ None) × (y ≡ x)
DiscardsIfThere (Some id) a x y = (d : Decided) × (a ≡ Some d) × DiscardsSo id d x y

-- A path was to begin in a speculation that was opened for it. It has a place that was free; or there is none, and the speculation is discarded.
abbrev pub BeginsIn : Speculation → ℕ → ℕ → ℕ → Option PathKey → CallsMade → CallsMade → Places → Places → Type 0
BeginsIn id number thread stamp (Some k) x y old new =
    (k.newest ≡ id) × (slice_get old k.place ≡ Some None) × (y ≡ x) × (new ≡ with_path k (begun_with number thread stamp id) old)
BeginsIn id number thread stamp None x y old new = AllTaken old × ((d : Decided) × DiscardsSo id d x y) × (new ≡ old)

-- A path was to begin, and a speculation was asked for, with this answer: where none was given nothing begins.
abbrev pub BeginsBy : Opening → ℕ → ℕ → ℕ → Option PathKey → CallsMade → CallsMade → Places → Places → Type 0
BeginsBy (opening.Id id) number thread stamp a x y old new = BeginsIn id number thread stamp a (with_speculation (opening.Id id) x) y old new
BeginsBy o number thread stamp a x y old new = (a ≡ None) × (y ≡ with_speculation o x) × (new ≡ old)

-- No call of the CPU was made, but where a speculation was given and no path begins.
abbrev pub IsAlone : {B : Type 0} → Opening → Option PathKey → B → B → Type 0
IsAlone (opening.Id id) None x y = Unit {0}
IsAlone o a x y = y ≡ x

-- The CPU, whose calls did what `made` tells, was asked first, by one call.
abbrev pub BeginsPath : {B : Type 0} → (B → CallsMade) → (Opening → B → B → Type 0) → ℕ → ℕ → ℕ → Option PathKey → B → B → Places → Places → Type 0
BeginsPath {B = B} made asked number thread stamp a x y old new =
    (o : Opening) × (z : B) × asked o x z × IsAlone o a z y × BeginsBy o number thread stamp a (made x) (made y) old new

-- A path that is full goes on in this speculation.
abbrev pub TurnsTo : PathKey → OpenPath → Speculation → CallsMade → CallsMade → Places → Places → Type 0
TurnsTo k p id x y old new = (gone : Option Decided) × DiscardsIfThere p.older gone x y × (new ≡ with_path k (turned_to id gone p) old)

-- A speculation was asked for, with this answer: where none was given the path is as it was.
abbrev pub TurnsBy : Opening → PathKey → OpenPath → Option Speculation → CallsMade → CallsMade → Places → Places → Type 0
TurnsBy (opening.Id id) k p a x y old new = (a ≡ Some id) × TurnsTo k p id (with_speculation (opening.Id id) x) y old new
TurnsBy o k p a x y old new = (a ≡ None) × (y ≡ with_speculation o x) × (new ≡ old)

-- nothing was done
abbrev pub IsUnchanged : CallsMade → CallsMade → Places → Places → Type 0
IsUnchanged x y old new = (y ≡ x) × (new ≡ old)

-- Where the path is open and undecided the CPU, whose calls did what `made` tells, was asked first, by one call; and where no speculation was given, by no more.
abbrev pub TurnsPath : {B : Type 0} → (B → CallsMade) → (Opening → B → B → Type 0) → PathKey → Option Speculation → B → B → Places → Places → Type 0
TurnsPath {B = B} made asked k a x y old new =
    ((a ≡ None) × NoneUndecided k old × (y ≡ x) × (new ≡ old))
    ⊎ ((p : OpenPath) × (o : Opening) × (z : B) × IsUndecided k old p × asked o x z × IfNone a (y ≡ z) × TurnsBy o k p a (made x) (made y) old new)

-- how many records a commit copied
abbrev pub copied_by : Decided → ℕ
copied_by (decided.Copied n) = n
copied_by d = 0

-- the commit lost its block
abbrev pub loses_block : Decided → Bool
loses_block (decided.Lost n) = true
loses_block d = false

-- a path is lost as a whole: its last speculation is discarded, which threw so many records away
abbrev pub LosesPath : PathKey → OpenPath → PathEnd → CallsMade → CallsMade → Places → Places → Type 0
LosesPath k p a x y ps new = ((d : Decided) × (a ≡ path.Lost (thrown_by d)) × DiscardsSo p.newest d x y) × (new ≡ without_path k ps)

-- Its older one was committed. Where its block was lost the path is lost as a whole; else the path stays, with so many older records copied.
abbrev pub GoesOnOrLost : Bool → ℕ → PathKey → OpenPath → PathEnd → CallsMade → CallsMade → Places → Places → Type 0
GoesOnOrLost true n k p a x y ps new = LosesPath k p a x y ps new
GoesOnOrLost false n k p a x y ps new = (a ≡ path.GoesOn n) × (y ≡ x) × (new ≡ with_path k p ps)

-- By which speculations a commit would find no room, and whether the caller is to wait where one does:
module _ (lacks : Speculation → Type 0) (waits : Bool) where
  -- whoever is to wait loses nothing for want of room
  abbrev pub LosesNone : Decided → Type 0
  LosesNone d = IsTrue waits → loses_block d ≡ false

  -- a commit; where there is no answer it waits for room, and nothing was done
  abbrev pub CommitsOrWaits : Speculation → Option Decided → CallsMade → CallsMade → Type 0
  CommitsOrWaits id None x y = IsTrue waits × lacks id × (y ≡ x)
  CommitsOrWaits id (Some d) x y = LosesNone d × CommitsSo id d x y

  -- it waits for room for this one, so many of its older records were copied by this call, and these are the paths
  abbrev pub WaitsForRoom : ℕ → Speculation → PathEnd → CallsMade → CallsMade → Places → Places → Type 0
  WaitsForRoom n id a x y ps new = (a ≡ path.Waits n) × IsTrue waits × lacks id × (y ≡ x) × (new ≡ ps)

  -- the path's last speculation was to be committed, after so many older records
  abbrev pub CommitsNewest : ℕ → PathKey → OpenPath → PathEnd → CallsMade → CallsMade → Places → Places → Type 0
  CommitsNewest n k p a x y ps new =
      WaitsForRoom n p.newest a x y (with_path k p ps) new ⊎ ((d : Decided) × (a ≡ path.Ended n d) × LosesNone d × CommitsSo p.newest d x y × (new ≡ without_path k ps))

  -- The one before it was committed, so that the path is decided. Where its block was lost the path is lost as a whole.
  abbrev pub KeepsRest : Bool → ℕ → PathKey → OpenPath → PathEnd → CallsMade → CallsMade → Places → Places → Type 0
  KeepsRest true n k p a x y ps new = LosesPath k p a x y ps new
  KeepsRest false n k p a x y ps new = CommitsNewest n k p a x y ps new

  -- the one before the last was to be committed, and then the last
  abbrev pub CommitsOlder : Speculation → PathKey → OpenPath → PathEnd → CallsMade → CallsMade → Places → Places → Type 0
  CommitsOlder id k p a x y ps new =
      WaitsForRoom 0 id a x y ps new
      ⊎ ((d : Decided) × (z : CallsMade) × LosesNone d × CommitsSo id d x z × KeepsRest (loses_block d) (copied_by d) k (record p { older = None; is_kept = true }) a z y ps new)

  abbrev pub Commits : Option Speculation → PathKey → OpenPath → PathEnd → CallsMade → CallsMade → Places → Places → Type 0
  Commits None k p a x y ps new = CommitsNewest 0 k p a x y ps new
  Commits (Some id) k p a x y ps new = CommitsOlder id k p a x y ps new

  -- the same a part a call
  abbrev pub CommitsOlderPart : Speculation → PathKey → OpenPath → PathEnd → CallsMade → CallsMade → Places → Places → Type 0
  CommitsOlderPart id k p a x y ps new =
      WaitsForRoom 0 id a x y ps new
      ⊎ ((d : Decided) × (z : CallsMade) × LosesNone d × CommitsSo id d x z × GoesOnOrLost (loses_block d) (copied_by d) k (record p { older = None; is_kept = true }) a z y ps new)

  abbrev pub CommitsPart : Option Speculation → PathKey → OpenPath → PathEnd → CallsMade → CallsMade → Places → Places → Type 0
  CommitsPart None k p a x y ps new = CommitsNewest 0 k p a x y ps new
  CommitsPart (Some id) k p a x y ps new = CommitsOlderPart id k p a x y ps new

  -- a part of a path was to be kept
  abbrev pub KeepsPart : PathKey → PathEnd → CallsMade → CallsMade → Places → Places → Type 0
  KeepsPart k a x y old new = ((a ≡ path.Over) × NoneNamed k old × IsUnchanged x y old new) ⊎ ((p : OpenPath) × IsNamed k old p × CommitsPart p.older k p a x y old new)

  -- a path was to be kept
  abbrev pub KeepsPath : PathKey → PathEnd → CallsMade → CallsMade → Places → Places → Type 0
  KeepsPath k a x y old new = ((a ≡ path.Over) × NoneNamed k old × IsUnchanged x y old new) ⊎ ((p : OpenPath) × IsNamed k old p × Commits p.older k p a x y old new)

-- A path was thrown away, where one of that name was open and undecided: its older speculation was discarded, where there was one, and its last one.
abbrev pub ThrowsAway : PathKey → OpenPath → CallsMade → CallsMade → Places → Places → Type 0
ThrowsAway k p x y old new =
    (gone : Option Decided) × (d : Decided) × (z : CallsMade) × DiscardsIfThere p.older gone x z × DiscardsSo p.newest d z y × (new ≡ without_path k old)

abbrev pub DiscardsPath : PathKey → Bool → CallsMade → CallsMade → Places → Places → Type 0
DiscardsPath k true x y old new = (p : OpenPath) × IsUndecided k old p × ThrowsAway k p x y old new
DiscardsPath k false x y old new = NoneUndecided k old × IsUnchanged x y old new

-- a path is this thread's from now on, where one of that name is open
abbrev pub AdoptsPath : PathKey → ℕ → Bool → Places → Places → Type 0
AdoptsPath k thread true old new = (p : OpenPath) × IsNamed k old p × (new ≡ with_path k (record p { thread = thread }) old)
AdoptsPath k thread false old new = NoneNamed k old × (new ≡ old)
