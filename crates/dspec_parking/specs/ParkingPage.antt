-- Cited by calls. What a ring promises of each block that was parked in it: this page.
use Rattle.std.specs.List.{AllByRecursion, count_by, list_any}
use Rattle.std.specs.Prelude.{ℕ, ◌≡◌, ◌⊎◌, ◌++◌, Bool, true, false, List, [], ◌∷◌, length, map, if◌then◌else◌}
use Rattle.dspec_parking.specs.{Blocks.StoredBlock, Blocks.ParkingPlace, Blocks.IsInBounds, Parkings.ParkingState, Parkings.AreSums, declared.parking_counts.ParkingCounts.ParkingCounts}

-- 1. WHAT BECOMES OF A BLOCK. It stands in the ring until it has its one end: it was kept, which is to say that it came out; or it was evicted for newer ones; or it
-- expired; or it was left there when the ring went.
pub data BlockFate : Type 0 where
  standing : BlockFate
  kept : BlockFate
  evicted : BlockFate
  expired : BlockFate
  left : BlockFate

abbrev pub is_fate : BlockFate → BlockFate → Bool
is_fate standing standing = true
is_fate kept kept = true
is_fate evicted evicted = true
is_fate expired expired = true
is_fate left left = true
is_fate f g = false

-- Each block that was ever parked, in the order of parking, with what became of it. No code keeps this register.
pub record ParkedOnce : Type 0 where
  pub block : StoredBlock
  pub fate : BlockFate

abbrev pub Register : Type 0
Register = List ParkedOnce

abbrev pub HasEnded : ParkedOnce → Type 0
HasEnded e = is_fate standing e.fate ≡ false

abbrev pub fate_count : BlockFate → Register → ℕ
fate_count f es = count_by (λ (e : ParkedOnce). is_fate f e.fate) es

-- 2. THE PROMISE. The places of the ring are the newest of the register, each with its block, whole and under its key: it stands there, or it was kept. All that are
-- older have ended. The counts are those of the register, and the bounds hold.
abbrev pub entered : ParkingPlace → ParkedOnce
entered p = record { block = p.block; fate = if p.is_kept then kept else standing }

pub record CountsEnds (register : Register) (c : ParkingCounts) : Type 0 where
  pub parked : c.parked ≡ length register
  pub kept : c.kept ≡ fate_count kept register
  pub evicted : c.evicted ≡ fate_count evicted register
  pub expired : c.expired ≡ fate_count expired register
  pub standing : c.standing ≡ fate_count standing register

pub record KeepsParking (register : Register) (s : ParkingState) : Type 0 where
  pub passed : Register
  pub places : register ≡ passed ++ map entered s.ring.places
  pub ended : AllByRecursion HasEnded passed
  pub counts : CountsEnds register s.counts
  pub sums : AreSums s.counts
  pub bounds : IsInBounds s.ring

-- 3. HOW A REGISTER GOES ON. Each block stays what it was, at its number; one that stood may have ended in this way, and one that has ended stays so.
abbrev pub GoesBy : BlockFate → ParkedOnce → ParkedOnce → Type 0
GoesBy end e f = (f ≡ e) ⊎ ((e.fate ≡ standing) × (f ≡ record { block = e.block; fate = end }))

abbrev pub GoesOnBy : BlockFate → Register → Register → Type 0
GoesOnBy end [] [] = Unit {0}
GoesOnBy end [] (f ∷ fs) = ⊥
GoesOnBy end (e ∷ es) [] = ⊥
GoesOnBy end (e ∷ es) (f ∷ fs) = GoesBy end e f × GoesOnBy end es fs

-- 4. THE OLDEST FIRST. All that are older than one that was evicted, or expired, have ended.
abbrev pub is_given_up : ParkedOnce → Bool
is_given_up e = if is_fate evicted e.fate then true else is_fate expired e.fate

abbrev pub OldestFirst : Register → Type 0
OldestFirst [] = Unit {0}
OldestFirst (e ∷ es) = (list_any is_given_up es ≡ true → HasEnded e) × OldestFirst es
