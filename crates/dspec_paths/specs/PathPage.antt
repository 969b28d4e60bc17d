-- Cited by calls. What a table promises of the paths that began in it: this page, over what its CPU's calls did (the page of dspec_promise).
use Rattle.std.specs.List.{AllByRecursion}
use Rattle.std.specs.Prelude.{ℕ, ◌≡◌, ◌≢◌, ◌+◌, ◌≤◌, Bool, true, false, List, Some, None, ◌⊎◌}
use Rattle.dspec_paths.specs.{Table.Places, Table.path_at, Words.Outside.commit, Words.Outside.discard, Words.Outside.Did, Words.Outside.emptied, Words.Outside.some, Words.Outside.is_same_id}
use Rattle.dspec_paths.specs.{Words.Outside.HandedRecord, Words.Outside.taken, Words.Outside.discarded, Words.Outside.Speculation, declared.open_path.OpenPath.OpenPath}
use Rattle.dspec_deeds.specs.declared.deed.DecideFate.TheVariants as decide

-- 1. WHAT A PATH IS. Paths are numbered from 1 on in the order in which they began. A path is open at a place of the table, undecided (`going`), or its older
-- records were kept and the others wait for room (`keeping`); or it was kept, or thrown away, or is lost as a whole. Of a number that no path has nothing is said.
pub data PathState : Type 0 where
  nobodys : PathState
  going : ℕ → PathState
  keeping : ℕ → PathState
  kept : PathState
  thrown_away : PathState
  lost : PathState

-- Whose each speculation is, which of them were thrown away so that their path could go on, and what each path is.
pub record PathBook : Type 0 where
  pub owner : Speculation → ℕ
  pub is_cut : Speculation → Bool
  pub state : ℕ → PathState
  pub begun : ℕ

-- no path has begun
abbrev pub no_paths : PathBook
no_paths = record { owner = λ (id : Speculation). 0; is_cut = λ (id : Speculation). false; state = λ (n : ℕ). nobodys; begun = 0 }

-- 2. WHAT BECAME OF A SPECULATION. A commit of the CPU copied its records to the CPU's stream, or a discard threw them away.
abbrev pub copies : Speculation → Did → Bool
copies id (emptied commit j (decide.Copied n)) = is_same_id id j
copies id d = false

abbrev pub throws : Speculation → Did → Bool
throws id (emptied discard j (decide.Thrown n)) = is_same_id id j
throws id d = false

abbrev pub NotCopied : Speculation → List Did → Type 0
NotCopied id ds = some (copies id) ds ≡ false

abbrev pub NotThrown : Speculation → List Did → Type 0
NotThrown id ds = some (throws id) ds ≡ false

-- 3. THE PROMISE, of each speculation by the path whose it is. Of an undecided path nothing was copied, and nothing was thrown away but what was cut. Of a kept
-- one nothing was thrown away but what was cut, and of that nothing was copied. Of one that was thrown away, or is lost as a whole, nothing was copied.
abbrev pub Became : PathState → Bool → Speculation → List Did → Type 0
Became nobodys cut id ds = Unit {0}
Became (going i) true id ds = NotCopied id ds
Became (going i) false id ds = NotCopied id ds × NotThrown id ds
Became (keeping i) true id ds = NotCopied id ds
Became (keeping i) false id ds = NotThrown id ds
Became kept true id ds = NotCopied id ds
Became kept false id ds = NotThrown id ds
Became thrown_away cut id ds = NotCopied id ds
Became lost cut id ds = NotCopied id ds

-- a speculation of this path, which wasn't cut
abbrev pub IsItsPart : PathBook → ℕ → Speculation → Type 0
IsItsPart book n id = (book.owner id ≡ n) × (book.is_cut id ≡ false)

-- a path is open at this place, decided already or not
abbrev pub open_state : Bool → ℕ → PathState
open_state true i = keeping i
open_state false i = going i

-- the path at a place is an open path of the book, and its speculations are that path's
pub record IsHere (book : PathBook) (i : ℕ) (p : OpenPath) : Type 0 where
  pub state : book.state (book.owner p.newest) ≡ open_state p.is_kept i
  pub newest : book.is_cut p.newest ≡ false
  pub older : (id : Speculation) → p.older ≡ Some id → IsItsPart book (book.owner p.newest) id
  pub apart : p.older ≢ Some p.newest
  pub last : p.is_kept ≡ true → p.older ≡ None

pub record KeepsPaths (book : PathBook) (ps : Places) (ds : List Did) : Type 0 where
  pub became : (id : Speculation) → Became (book.state (book.owner id)) (book.is_cut id) id ds
  pub here : (i : ℕ) (p : OpenPath) → path_at i ps ≡ Some p → IsHere book i p
  pub owned : (id : Speculation) → book.owner id ≤ book.begun
  pub nobody : book.state 0 ≡ nobodys
  pub next : (n : ℕ) → book.state (book.begun + 1 + n) ≡ nobodys

-- 4. HOW A BOOK GOES ON. What has a path stays its own, what was cut stays cut, a path that is decided stays decided, and one that is over stays what it is.
abbrev pub IsOver : PathState → Type 0
IsOver nobodys = ⊥
IsOver (going i) = ⊥
IsOver (keeping i) = ⊥
IsOver kept = Unit {0}
IsOver thrown_away = Unit {0}
IsOver lost = Unit {0}

-- it was decided that the path is kept
abbrev pub IsDecided : PathState → Type 0
IsDecided nobodys = ⊥
IsDecided (going i) = ⊥
IsDecided (keeping i) = Unit {0}
IsDecided kept = Unit {0}
IsDecided thrown_away = ⊥
IsDecided lost = Unit {0}

pub record GoesOnTo (old new : PathBook) : Type 0 where
  pub owners : (id : Speculation) → old.owner id ≢ 0 → new.owner id ≡ old.owner id
  pub cut : (id : Speculation) → old.owner id ≢ 0 → old.is_cut id ≡ true → new.is_cut id ≡ true
  pub decided : (n i : ℕ) → old.state n ≡ keeping i → IsDecided (new.state n)
  pub over : (n : ℕ) → IsOver (old.state n) → new.state n ≡ old.state n

-- some book goes on so, and the page is kept by it
abbrev pub GoesTo : PathBook → Places → List Did → Type 0
GoesTo book ps ds = (later : PathBook) × GoesOnTo book later × KeepsPaths later ps ds

-- 5. WHAT A STEP RESTS ON. A speculation that is given out is nobody's before, as a session gives out each once.
abbrev pub IsNobodys : PathBook → List Did → Speculation → Type 0
IsNobodys book ds id = (book.owner id ≡ 0) × NotCopied id ds × NotThrown id ds

-- what else the CPU does decides no speculation of a path
abbrev pub Spares : PathBook → Did → Type 0
Spares book d = (id : Speculation) → book.owner id ≢ 0 → (copies id d ≡ false) × (throws id d ≡ false)

-- Whoever empties a buffer by copying it commits, and whoever throws records away discards. So it is in each session of one CPU, whose services throw away only
-- buffers without a record.
abbrev pub DecidesItself : Did → Type 0
DecidesItself (emptied b id (decide.Copied n)) = b ≡ commit
DecidesItself (emptied b id (decide.Thrown n)) = (b ≡ discard) ⊎ (n ≡ 0)
DecidesItself d = Unit {0}

-- 6. WHAT IT SAYS OF RECORDS. No record of a path that was thrown away, is lost as a whole, or was cut came out; and none of a kept path was thrown away, but
-- those that were cut.
abbrev pub FateOf : PathState → Bool → HandedRecord → Type 0
FateOf nobodys cut o = Unit {0}
FateOf (going i) true o = o.fate ≢ taken
FateOf (going i) false o = (o.fate ≢ taken) × (o.fate ≢ discarded)
FateOf (keeping i) true o = o.fate ≢ taken
FateOf (keeping i) false o = o.fate ≢ discarded
FateOf kept true o = o.fate ≢ taken
FateOf kept false o = o.fate ≢ discarded
FateOf thrown_away cut o = o.fate ≢ taken
FateOf lost cut o = o.fate ≢ taken

abbrev pub HasFates : PathBook → List HandedRecord → Type 0
HasFates book os = AllByRecursion (λ (o : HandedRecord). (id : Speculation) → o.to ≡ Some id → FateOf (book.state (book.owner id)) (book.is_cut id) o) os
