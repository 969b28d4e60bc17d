-- Cited by calls. The calls on a ring of parked blocks, which is in a handle of its own.
use Rattle.std.specs.Prelude.{ℕ, ◌≡◌, List, length, slice_get, nat_lt, MatchBool, Option, Some, None}
use Rattle.dspec_c.specs.{CpuCalls.accepts_at, CpuCalls.OnCpu, CpuCalls.shape_at, Homes.CpuSide, Shows.told_block, Shows.told_counts, Shows.told_passed, Statuses.bad_handle, Words.Outside.Cpu}
use Rattle.dspec_c.specs.{Words.Outside.Deed, Words.Outside.EnabledRows, Words.Outside.enabled, Words.Outside.Has, Words.Outside.IsBlockAt, Words.Outside.number_in, Words.Outside.schema_of}
use Rattle.dspec_c.specs.{Words.Outside.table_text, Words.Outside.AreSums, Words.Outside.ExpiresBlocks, Words.Outside.nothing_parked, Words.Outside.ParkingState, Words.Outside.ParksBlock}
use Rattle.dspec_c.specs.{Words.Outside.TakesInto, Words.Outside.told_at, Words.Outside.Parked, Words.Outside.ParkedBlock, Words.Outside.ParkingKey, Words.Outside.PassedPlaces}
use Rattle.dspec_c.specs.{declared.held.HandleValue.HandleValue, declared.parked.CParked.CParked, declared.parked.CParkedCounts.CParkedCounts, declared.parked.CPassed.CPassed}
use Rattle.dspec_c.specs.declared.held.HandleValue.TheVariants as held
use Rattle.dspec_parking.specs.declared.parked.Parked.TheVariants as answer

-- A call on a ring. Where the handle holds one, it stays one, and this was done on it; else the status is BAD_HANDLE, and all stays as it was.
abbrev pub OnRing : (ParkingState → ParkingState → Type 0) → Type 0 → HandleValue → ℕ → HandleValue → Type 0
OnRing did stays (held.Parking old) status now = (new : ParkingState) × (now ≡ held.Parking new) × did old new
OnRing did stays was status now = (status ≡ bad_handle) × (now ≡ was) × stays

-- the same of a call that tells something: where the handle is empty, or of another kind, what was told before stays
abbrev pub ToldOnRing : {A : Type 0} → (A → A → ParkingState → ParkingState → Type 0) → A → A → HandleValue → ℕ → HandleValue → Type 0
ToldOnRing did was now ring status left = OnRing (did was now) (now ≡ was) ring status left

-- what a handle holds that has a ring of so many bytes, and so many places at the most, in which nothing was parked
abbrev pub HoldsEmptyRing : ℕ → ℕ → HandleValue → Type 0
HoldsEmptyRing size most v = v ≡ held.Parking (nothing_parked size most)

-- the text of the records that a CPU holds of a slot's speculation, by whichever list it has
abbrev pub HasBlockAt : ℕ → Cpu EnabledRows → List ℕ → Type 0
HasBlockAt slot cpu bytes = (p : List Deed) → Has cpu p → IsBlockAt (shape_at (schema_of cpu)) (accepts_at (schema_of cpu))
    (table_text (schema_of cpu).header (enabled (schema_of cpu).rows)) (number_in cpu) slot p bytes

-- what came of a block that was to be parked: it is there; it is longer than the ring; no more can be counted
abbrev pub parked_status : Parked → ℕ
parked_status (answer.Stands gone) = 0
parked_status answer.Refused = 26
parked_status answer.Worn = 34

-- what the tail passed, where it is there; else what was told before stays
abbrev pub parked_told : Parked → CPassed → CPassed
parked_told (answer.Stands gone) was = told_passed gone
parked_told answer.Refused was = was
parked_told answer.Worn was = was

-- The text of what the CPU holds of the slot was to be parked, whole, under this key and with this stamp.
pub record ParksAt (slot : ℕ) (key : ParkingKey) (stamp : ℕ) (answer : Parked) (old new : ParkingState) (cpu : Cpu EnabledRows) : Type 0 where
  pub bytes : List ℕ
  pub text : HasBlockAt slot cpu bytes
  pub parks : ParksBlock (record { key = key; stamp = stamp; bytes = bytes }) answer old new

-- So it was, and the CPU stays as it is.
pub record ParkTold (slot : ℕ) (key : ParkingKey) (stamp status : ℕ) (was now : CPassed) (old new : ParkingState) (side left : CpuSide) : Type 0 where
  pub answer : Parked
  pub numbered : status ≡ parked_status answer
  pub tells : now ≡ parked_told answer was
  pub done : ParksAt slot key stamp answer old new side.cpu
  pub same : left ≡ side

-- on a ring, and on what a CPU's handle holds
abbrev pub ParkOnCpu : ℕ → ParkingKey → ℕ → CPassed → CPassed → ParkingState → ParkingState → HandleValue → ℕ → HandleValue → Type 0
ParkOnCpu slot key stamp was now old new cpu status side = OnCpu (ParkTold slot key stamp status was now old new) ((new ≡ old) × (now ≡ was)) cpu status side

abbrev pub ParkAnswers : ℕ → ParkingKey → ℕ → CPassed → CPassed → HandleValue → HandleValue → ℕ → HandleValue → HandleValue → Type 0
ParkAnswers slot key stamp was now ring cpu status left side =
    OnRing (λ old new. ParkOnCpu slot key stamp was now old new cpu status side) ((side ≡ cpu) × (now ≡ was)) ring status left

abbrev pub PlacesTold : ℕ → ℕ → ℕ → ParkingState → ParkingState → Type 0
PlacesTold status was now old new = (status ≡ 0) × (now ≡ length old.ring.places) × (new ≡ old)

-- the block that was found at a place is told; where there is none, what was told before stays
abbrev pub TellsFound : Option ParkedBlock → ℕ → CParked → CParked → Type 0
TellsFound (Some b) status was now = (status ≡ 0) × (now ≡ told_block b)
TellsFound None status was now = (status ≡ 35) × (now ≡ was)

abbrev pub AtTold : ℕ → ℕ → CParked → CParked → ParkingState → ParkingState → Type 0
AtTold place status was now old new = TellsFound (told_at (slice_get old.ring.places place)) status was now × (new ≡ old)

-- a room of the caller's, and what it is told of the block in it
pub record BlockRoom : Type 0 where
  pub room : List ℕ
  pub block : CParked

abbrev pub block_room : List ℕ → CParked → BlockRoom
block_room room block = record { room = room; block = block }

-- The block that was found at a place comes out into the room, and is told; where the room is too small it is told alone; where there is none, all stays.
abbrev pub TakesFound : ℕ → Option ParkedBlock → ℕ → BlockRoom → BlockRoom → ParkingState → ParkingState → Type 0
TakesFound place None status was now old new = (status ≡ 35) × (now ≡ was) × (new ≡ old)
TakesFound place (Some b) status was now old new = (now.block ≡ told_block b) × MatchBool (nat_lt (length was.room) b.length)
    ((status ≡ 23) × (now.room ≡ was.room) × (new ≡ old)) ((status ≡ 0) × TakesInto place (Some b) was.room now.room old new)

abbrev pub TakeTold : ℕ → ℕ → BlockRoom → BlockRoom → ParkingState → ParkingState → Type 0
TakeTold place status was now old new = TakesFound place (told_at (slice_get old.ring.places place)) status was now old new

-- the oldest expired, and what the tail passed is told
pub record ExpireTold (before most status : ℕ) (was now : CPassed) (old new : ParkingState) : Type 0 where
  pub fine : status ≡ 0
  pub gone : PassedPlaces
  pub expires : ExpiresBlocks before most gone old new
  pub tells : now ≡ told_passed gone

abbrev pub CountsTold : ℕ → CParkedCounts → CParkedCounts → ParkingState → ParkingState → Type 0
CountsTold status was now old new = (status ≡ 0) × (now ≡ told_counts old.counts) × AreSums old.counts × (new ≡ old)
