-- Cited by calls. A call of speculation: the slots that it missed, in order, and its deeds by its answer.
use Rattle.std.specs.Prelude.{ℕ, ◌≡◌, ◌≤◌, ◌+◌, ◌*◌, Bool, true, false, ◌||◌, List, [], ◌∷◌, ◌++◌, length}
use Rattle.dspec_cpu.specs.{Calls.Goes, Reached.Stands, Stops.StopsWhereMet, Touching.Touches, Touching.at_slot, Touching.last_looked, Touching.of_slots, Words.Outside.Config, Words.Outside.Opening}
use Rattle.dspec_cpu.specs.{Words.Outside.Deed, Words.Outside.Scan, Words.Outside.Opened, Words.Outside.Miss, Words.Outside.View, Words.Outside.is_stopped_opening, declared.scanning.Look.Look}
use Rattle.dspec_deeds.specs.declared.calls.Opening.TheVariants as opening
use Rattle.dspec_cpu.specs.declared.scanning.Look.TheVariants as look

-- the deed of one slot
abbrev pub look_deed : ℕ → ℕ → Look → Deed
look_deed c slot (look.Given id) = Opened c id
look_deed c slot (look.Missed busy) = Miss c slot busy

-- what was given out is of the slot
abbrev pub IsGivenAt : ℕ → Look → Type 0
IsGivenAt slot (look.Given id) = id.slot ≡ slot
IsGivenAt slot (look.Missed busy) = Unit {0}

-- one slot of a scan
pub record LookedAtSlot (k : Config) (c slot : ℕ) (v : View) (x : Look) (w : View) : Type 0 where
  pub goes : Goes v (look_deed c slot x ∷ []) w
  pub stands : Stands k c v (look_deed c slot x ∷ []) w
  pub bounded : w.steps ≤ v.steps + 2
  pub touches : Touches (at_slot slot) v w
  pub given : IsGivenAt slot x

-- the Misses of the first slots, the latest first: of each, whether the slot was decided
abbrev pub misses : ℕ → List Bool → List Deed
misses c [] = []
misses c (b ∷ bs) = Miss c (length bs + 1) b ∷ misses c bs

abbrev pub any_busy : List Bool → Bool
any_busy [] = false
any_busy (b ∷ bs) = b || any_busy bs

-- the deeds of a call that missed these slots and answered so
abbrev pub opening_deeds : ℕ → List Bool → Opening → List Deed
opening_deeds c bs opening.Worn = []
opening_deeds c bs opening.Stopped = Scan c false ∷ []
opening_deeds c bs (opening.Id id) = Opened c id ∷ misses c bs ++ Scan c true ∷ []
opening_deeds c bs opening.Unavailable = misses c bs ++ Scan c true ∷ []
opening_deeds c bs opening.Busy = misses c bs ++ Scan c true ∷ []

-- the answer of a call that missed these slots: the identifier is of the next slot; or all were missed, and it's busy where one
-- of them was decided
abbrev pub IsOpening : ℕ → List Bool → Opening → Type 0
IsOpening nspec bs opening.Worn = bs ≡ []
IsOpening nspec bs opening.Stopped = bs ≡ []
IsOpening nspec bs (opening.Id id) = (id.slot ≡ length bs + 1) × (id.slot ≤ nspec)
IsOpening nspec bs opening.Unavailable = (length bs ≡ nspec) × (any_busy bs ≡ false)
IsOpening nspec bs opening.Busy = (length bs ≡ nspec) × (any_busy bs ≡ true)

abbrev pub is_worn_opening : Opening → Bool
is_worn_opening opening.Worn = true
is_worn_opening a = false

-- what a call of speculation did: its deeds come in front of every list that the CPU had
pub record Opens (k : Config) (c : ℕ) (a : Opening) (had : List Deed → Type 0) (v : View) (has : List Deed → Type 0) (w : View) : Type 0 where
  pub missed : List Bool
  pub answer : IsOpening k.nspec missed a
  pub did : Goes v (opening_deeds c missed a) w
  pub list : (p : List Deed) → had p → has (opening_deeds c missed a ++ p)

-- a scan came to its answer, and one of the slots that it missed was decided or none
pub record Scanned (k : Config) (c : ℕ) (v : View) (a : Opening) (busy : Bool) (w : View) : Type 0 where
  pub missed : List Bool
  pub any : busy ≡ any_busy missed
  pub answer : IsOpening k.nspec missed a
  pub unworn : is_worn_opening a ≡ false
  pub goes : Goes v (opening_deeds c missed a) w
  pub stands : Stands k c v (opening_deeds c missed a) w
  pub stops : StopsWhereMet v false (is_stopped_opening a) w
  pub bounded : w.steps ≤ v.steps + 1 + 2 * k.nspec
  pub touches : Touches (of_slots (last_looked k.nspec a)) v w
