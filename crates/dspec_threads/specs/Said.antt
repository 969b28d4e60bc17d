-- Cited by calls. What was said, by the ends of rings.
use Rattle.std.specs.Prelude.{ℕ, ◌≡◌, ◌≤◌, ◌+◌, Bool, List, [], ◌∷◌, ◌++◌, MatchBool, slice_get, slice_set, Some, map}
use Rattle.rtrb.specs.Ring.{known_free, sent}
use Rattle.dspec_threads.specs.{Words.Outside.pushed_into, Words.Outside.Ring, declared.saying.Sayer.Sayer, declared.verdict.Verdict.Verdict}

-- what was said by this end so far, the oldest first
abbrev pub said_by : {J : Type 0} → Sayer J → List Verdict
said_by s = sent s.going

-- into which ring: the end that settles what it says has the same
abbrev pub said_into : {J : Type 0} → Sayer J → Ring
said_into s = pushed_into s.going

-- how many verdicts it knows to have room for
abbrev pub room_of_lane : {J : Type 0} → Sayer J → ℕ
room_of_lane s = known_free s.going

-- what was said to each lane
abbrev pub said_to_each : {J : Type 0} → List (Sayer J) → List (List Verdict)
said_to_each ss = map said_by ss

-- it was said to this lane after what had been said, and nothing to the others; or nothing was said
abbrev pub SaysTo : {J : Type 0} → ℕ → Verdict → Bool → List (Sayer J) → List (Sayer J) → Type 0
SaysTo {J} lane v a old new = MatchBool a
    ((s : List Verdict) × (slice_get (said_to_each old) lane ≡ Some s) × (said_to_each new ≡ slice_set (said_to_each old) lane (s ++ v ∷ [])))
    (said_to_each new ≡ said_to_each old)

-- how many verdicts each lane has room for
abbrev pub rooms_of_lanes : {J : Type 0} → List (Sayer J) → List ℕ
rooms_of_lanes ss = map room_of_lane ss

-- a lane that is there was told, and has one place less at the most, and the others have what they had; or there was no room
abbrev pub SaysWithin : {J : Type 0} → ℕ → Bool → List (Sayer J) → List (Sayer J) → Type 0
SaysWithin {J} lane a old new = (r : ℕ) → slice_get (rooms_of_lanes old) lane ≡ Some r
    → MatchBool a ((s : ℕ) × (rooms_of_lanes new ≡ slice_set (rooms_of_lanes old) lane s) × (r ≤ s + 1)) (r ≡ 0)
