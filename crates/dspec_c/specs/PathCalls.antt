-- Cited by calls. The calls on a table of the open paths of a CPU, which is in a handle of its own.
use Rattle.std.specs.Prelude.{ℕ, zero, suc, ◌≡◌, Bool, true, false, Option, Some, None, IfNone, IfSome, replicate, is_some}
use Rattle.dspec_c.specs.{Answered.Answered, Answered.AnsweredWith, CpuCalls.IsNumberOf, CpuCalls.OnCpu, CpuCalls.OnSide, CpuCalls.shape_at, Homes.CpuSide, Shows.TellsOpenPath}
use Rattle.dspec_c.specs.{Shows.TellsPathCounts, Statuses.bad_handle, Statuses.decided_number, Statuses.decided_status, Words.Outside.id_number, Words.Outside.EnabledRows, Words.Outside.Has}
use Rattle.dspec_c.specs.{Words.Outside.OpensOne, Words.Outside.Cpu, Words.Outside.Speculation, Words.Outside.called, Words.Outside.meant_path, Words.Outside.places_of, Words.Outside.LacksRoom}
use Rattle.dspec_c.specs.{Words.Outside.AdoptsPath, Words.Outside.BeginsPath, Words.Outside.DiscardsPath, Words.Outside.KeepsPart, Words.Outside.Places, Words.Outside.TurnsPath}
use Rattle.dspec_c.specs.{Words.Outside.OpenPath, Words.Outside.PathCounts, Words.Outside.PathEnd, Words.Outside.PathKey, Words.Outside.Paths, Words.Outside.WhosePaths, Words.Outside.counted_begin}
use Rattle.dspec_c.specs.{Words.Outside.counted_discard, Words.Outside.counted_end, Words.Outside.counted_loss, Words.Outside.counted_in, Words.Outside.no_counts, Words.Outside.has_part_at}
use Rattle.dspec_c.specs.{declared.held.HandleValue.HandleValue, declared.open_path.COpenPath.COpenPath, declared.path_counts.CPathCounts.CPathCounts}
use Rattle.dspec_c.specs.declared.held.HandleValue.TheVariants as held
use Rattle.dspec_paths.specs.declared.path_end.PathEnd.TheVariants as path
use Rattle.dspec_paths.specs.declared.whose.WhosePaths.TheVariants as whose

-- A call on a table and on a CPU. Where the handles hold these, they stay, and this was done on them; else the status is BAD_HANDLE, and all stays as it was.
abbrev pub OnTable : (Paths → Paths → CpuSide → CpuSide → Type 0) → Type 0 → HandleValue → HandleValue → ℕ → HandleValue → HandleValue → Type 0
OnTable did stays (held.Paths t) cpu status left now = (new : Paths) × (left ≡ held.Paths new) × OnCpu (did t new) ((new ≡ t) × stays) cpu status now
OnTable did stays was cpu status left now = (status ≡ bad_handle) × (left ≡ was) × (now ≡ cpu) × stays

-- the same of a call that tells something: where a handle is empty, or of another kind, what was told before stays
abbrev pub ToldOnTable : {A : Type 0} → (A → A → Paths → Paths → CpuSide → CpuSide → Type 0) → A → A → HandleValue → HandleValue → ℕ → HandleValue → HandleValue → Type 0
ToldOnTable did was now paths cpu status left side = OnTable (did was now) (now ≡ was) paths cpu status left side

-- on a table, and on what a CPU's handle holds
abbrev pub ToldOnCpu : {A : Type 0} → (A → A → Paths → Paths → CpuSide → CpuSide → Type 0) → A → A → Paths → Paths → HandleValue → ℕ → HandleValue → Type 0
ToldOnCpu did was now old new cpu status side = OnCpu (did was now old new) ((new ≡ old) × (now ≡ was)) cpu status side

-- a call on a table alone
abbrev pub OnTableAlone : (Paths → Paths → Type 0) → Type 0 → HandleValue → ℕ → HandleValue → Type 0
OnTableAlone did stays (held.Paths t) status left = (new : Paths) × (left ≡ held.Paths new) × did t new
OnTableAlone did stays was status left = (status ≡ bad_handle) × (left ≡ was) × stays

-- a table in which no path has begun, and what a handle holds that has one
abbrev pub IsEmptyTable : Paths → Type 0
IsEmptyTable t = (places_of t ≡ replicate 64 None) × (counted_in t ≡ no_counts)

abbrev pub HoldsNoPaths : HandleValue → Type 0
HoldsNoPaths v = (t : Paths) × (v ≡ held.Paths t) × IsEmptyTable t

-- the name of a path, by its numbers
pub record IsKeyOf (place number : ℕ) (k : PathKey) : Type 0 where
  pub place_is : k.place ≡ place
  pub newest : IsNumberOf number k.newest

-- what C is told of a path's name
pub record ToldKey : Type 0 where
  pub place : ℕ
  pub number : ℕ

abbrev pub named : ℕ → ℕ → ToldKey
named place number = record { place = place; number = number }

abbrev pub key_told : Option PathKey → ToldKey → ToldKey
key_told (Some k) was = named k.place (id_number k.newest)
key_told None was = was

-- whether a path began, and whether it goes on
abbrev pub began_status : Option PathKey → ℕ
began_status (Some k) = 0
began_status None = 36

abbrev pub turned_status : Option Speculation → ℕ
turned_status (Some id) = 0
turned_status None = 36

abbrev pub turned_number : Option Speculation → ℕ → ℕ
turned_number (Some id) was = id_number id
turned_number None was = was

-- what came of a part of a path: none is open of that name; it waits for room; it goes on; it ended; it is lost as a whole
abbrev pub end_status : PathEnd → ℕ
end_status path.Over = 35
end_status (path.Waits n) = 37
end_status (path.GoesOn n) = 39
end_status (path.Ended n d) = decided_status d
end_status (path.Lost n) = 40

-- how many records were copied, lost or thrown away
abbrev pub end_number : PathEnd → ℕ → ℕ
end_number path.Over was = was
end_number (path.Waits n) was = was
end_number (path.GoesOn n) was = n
end_number (path.Ended n d) was = decided_number d was
end_number (path.Lost n) was = n

-- whether a path of that name was open
abbrev pub there_status : Bool → ℕ
there_status true = 0
there_status false = 35

-- whose paths a thread's number means; 0 is no thread's
abbrev pub whose_of : ℕ → WhosePaths
whose_of zero = whose.All
whose_of (suc n) = whose.Thread (suc n)

-- a path was to begin, and to go on, by one call of the CPU
abbrev pub BeginsOnCpu : ℕ → ℕ → ℕ → Option PathKey → Places → Places → Cpu EnabledRows → Cpu EnabledRows → Type 0
BeginsOnCpu number thread stamp a ps new x y = BeginsPath called (λ o u v. OpensOne Has o u v) number thread stamp a x y ps new

abbrev pub TurnsOnCpu : PathKey → Option Speculation → Places → Places → Cpu EnabledRows → Cpu EnabledRows → Type 0
TurnsOnCpu k a ps new x y = TurnsPath called (λ o u v. OpensOne Has o u v) k a x y ps new

-- a part of it was to be kept, and it was thrown away
abbrev pub KeepsPartOnCpu : Bool → PathKey → PathEnd → Places → Places → Cpu EnabledRows → Cpu EnabledRows → Type 0
KeepsPartOnCpu waits k a ps new x y = KeepsPart (LacksRoom Has shape_at y) waits k a (called x) (called y) ps new

abbrev pub DiscardsOnCpu : PathKey → Bool → Places → Places → Cpu EnabledRows → Cpu EnabledRows → Type 0
DiscardsOnCpu k a ps new x y = DiscardsPath k a (called x) (called y) ps new

-- What each call told of what it did, by its status and its out parameters; and what it counted.
pub record BeginTold (number thread stamp status : ℕ) (was now : ToldKey) (old new : Paths) (left side : CpuSide) : Type 0 where
  pub answer : Option PathKey
  pub numbered : status ≡ began_status answer
  pub tells : now ≡ key_told answer was
  pub done : OnSide false (BeginsOnCpu number thread stamp answer (places_of old) (places_of new)) left side
  pub counted : counted_in new ≡ counted_begin answer (counted_in old)

pub record Turns (k : PathKey) (old new : Paths) (left side : CpuSide) (answer : Option Speculation) : Type 0 where
  pub done : OnSide false (TurnsOnCpu k answer (places_of old) (places_of new)) left side
  pub counted : counted_in new ≡ counted_in old

abbrev pub TurnTold : ℕ → ℕ → ℕ → ℕ → ℕ → Paths → Paths → CpuSide → CpuSide → Type 0
TurnTold place number status before newest old new left side =
    (k : PathKey) × IsKeyOf place number k × AnsweredWith turned_status turned_number (Turns k old new left side) status before newest

pub record KeepsAPart (waits : Bool) (k : PathKey) (old new : Paths) (left side : CpuSide) (answer : PathEnd) : Type 0 where
  pub done : OnSide false (KeepsPartOnCpu waits k answer (places_of old) (places_of new)) left side
  pub counted : counted_in new ≡ counted_end (has_part_at k.place (places_of old)) answer (counted_in old)

abbrev pub KeepPartTold : ℕ → ℕ → Bool → ℕ → ℕ → ℕ → Paths → Paths → CpuSide → CpuSide → Type 0
KeepPartTold place number waits status before count old new left side =
    (k : PathKey) × IsKeyOf place number k × AnsweredWith end_status end_number (KeepsAPart waits k old new left side) status before count

-- a path was thrown away, or lost as a whole, which is counted so
pub record Empties (counted_so : Bool → PathCounts → PathCounts) (k : PathKey) (old new : Paths) (left side : CpuSide) (answer : Bool) : Type 0 where
  pub done : OnSide false (DiscardsOnCpu k answer (places_of old) (places_of new)) left side
  pub counted : counted_in new ≡ counted_so answer (counted_in old)

abbrev pub EmptyTold : (Bool → PathCounts → PathCounts) → ℕ → ℕ → ℕ → Paths → Paths → CpuSide → CpuSide → Type 0
EmptyTold counted_so place number status old new left side = (k : PathKey) × IsKeyOf place number k × Answered there_status (Empties counted_so k old new left side) status

abbrev pub DiscardTold : ℕ → ℕ → ℕ → Paths → Paths → CpuSide → CpuSide → Type 0
DiscardTold place number status old new left side = EmptyTold (λ (a : Bool) (c : PathCounts). counted_discard a c) place number status old new left side

abbrev pub LoseTold : ℕ → ℕ → ℕ → Paths → Paths → CpuSide → CpuSide → Type 0
LoseTold place number status old new left side = EmptyTold (λ (a : Bool) (c : PathCounts). counted_loss a c) place number status old new left side

pub record Adopts (k : PathKey) (thread : ℕ) (old new : Paths) (answer : Bool) : Type 0 where
  pub done : AdoptsPath k thread answer (places_of old) (places_of new)
  pub counted : counted_in new ≡ counted_in old

abbrev pub AdoptTold : ℕ → ℕ → ℕ → ℕ → Paths → Paths → Type 0
AdoptTold place number thread status old new = (k : PathKey) × IsKeyOf place number k × Answered there_status (Adopts k thread old new) status

-- the path that is open at a place, where it is meant, is told; else what was told before stays
abbrev pub TellsPathAt : Option OpenPath → COpenPath → COpenPath → Type 0
TellsPathAt a was told = IfSome a (TellsOpenPath told) × IfNone a (told ≡ was)

abbrev pub OpenOfTold : ℕ → ℕ → ℕ → COpenPath → COpenPath → Paths → Paths → Type 0
OpenOfTold place thread status was told old new =
    (new ≡ old) × (status ≡ there_status (is_some (meant_path (whose_of thread) place (places_of old)))) × TellsPathAt (meant_path (whose_of thread) place (places_of old)) was told

-- the table's counts are told
abbrev pub CountsTold : ℕ → CPathCounts → Paths → Paths → Type 0
CountsTold status told old new = (new ≡ old) × (status ≡ 0) × TellsPathCounts told (counted_in old)
