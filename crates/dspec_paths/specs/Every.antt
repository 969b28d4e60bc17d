-- Cited by calls. What calls on the paths of a thread, or on all, did.
use Rattle.std.specs.Prelude.{ℕ, zero, suc, ◌≡◌, ◌==◌, Bool, true, false, ◌⊎◌, Option, Some, None, if◌then◌else◌}
use Rattle.dspec_paths.specs.{Table.Places, Table.DiscardsPath, Table.IsUnchanged, Table.KeepsPath, Table.path_at, Words.Outside.CallsMade, Words.Outside.Speculation}
use Rattle.dspec_paths.specs.{declared.open_path.OpenPath.OpenPath, declared.path_end.PathEnd.PathEnd, declared.path_key.PathKey.PathKey, declared.whose.WhosePaths.WhosePaths}
use Rattle.dspec_paths.specs.{declared.whose.WhosePaths.TheVariants.All, declared.whose.WhosePaths.TheVariants.Thread}

-- a path of this thread is meant
abbrev pub is_meant : WhosePaths → ℕ → Bool
is_meant All thread = true
is_meant (Thread one) thread = one == thread

-- the path that is open at a place, where it is meant
abbrev pub where_meant : WhosePaths → Option OpenPath → Option OpenPath
where_meant whose (Some p) = if is_meant whose p.thread then Some p else None
where_meant whose None = None

abbrev pub meant_path : WhosePaths → ℕ → Places → Option OpenPath
meant_path whose i ps = where_meant whose (path_at i ps)

-- the name of a path at its place
abbrev pub key_at : ℕ → OpenPath → PathKey
key_at i p = record { place = i; newest = p.newest }

-- no path that is meant is open at the place
abbrev pub NoneMeant : WhosePaths → ℕ → Places → Type 0
NoneMeant whose i ps = (p : OpenPath) → path_at i ps ≡ Some p → is_meant whose p.thread ≡ false

-- the path at a place was thrown away, where it is meant
abbrev pub DiscardsIfMeant : WhosePaths → ℕ → CallsMade → CallsMade → Places → Places → Type 0
DiscardsIfMeant whose i x y old new =
    (NoneMeant whose i old × IsUnchanged x y old new)
    ⊎ ((p : OpenPath) × (a : Bool) × (path_at i old ≡ Some p) × (is_meant whose p.thread ≡ true) × DiscardsPath (key_at i p) a x y old new)

-- it was kept, or lost where it has no room: nobody waits for room
abbrev pub KeepsIfMeant : WhosePaths → ℕ → CallsMade → CallsMade → Places → Places → Type 0
KeepsIfMeant whose i x y old new =
    (NoneMeant whose i old × IsUnchanged x y old new)
    ⊎ ((p : OpenPath) × (a : PathEnd) × (path_at i old ≡ Some p) × (is_meant whose p.thread ≡ true) × KeepsPath (λ (id : Speculation). ⊥) false (key_at i p) a x y old new)

-- one place after another, so many
abbrev pub EachOf : (ℕ → CallsMade → CallsMade → Places → Places → Type 0) → ℕ → CallsMade → CallsMade → Places → Places → Type 0
EachOf step zero x y old new = (y ≡ x) × (new ≡ old)
EachOf step (suc n) x y old new = (z : CallsMade) × (mid : Places) × EachOf step n x z old mid × step n z y mid new
