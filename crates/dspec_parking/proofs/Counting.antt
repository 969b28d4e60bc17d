-- What a call changes of the blocks that stand in a ring, and of their counts.
use Rattle.std.proofs.Common.{◌≡◌, ℕ, ◌+◌, ◌-◌, ◌≤◌, Bool, true, false, List, ◌++◌, length, take, drop, set, cond, None, Option, Some, refl, sym, ap, ◌∙◌, arith, length-append, length-drop}
use Rattle.std.proofs.Math.Seq.{take-append_seam}
use Rattle.std.proofs.lemmas.{List.Sums.sum_by-take-drop, List.Sums.sum_by_push, Option.none-some, Option.same_Some, Slice.drop-append-drop}
use Rattle.std.specs.Prelude.{if◌then◌else◌, not}
use Rattle.dspec_parking.specs.Words.{ParkingPlace, ParkingRing, StoredBlock, is_standing, standing_in, StandsAt, kept_place, told_at, told_of, with_block, with_kept, PassesOldest}
use Rattle.dspec_parking.specs.declared.{parked_block.ParkedBlock.ParkedBlock, passed_places.PassedPlaces.PassedPlaces}
use Rattle.dspec_parking.proofs.Lists.{sum_by-one_set}

-- one place, where its block stands
abbrev pub standing_one : ParkingPlace → ℕ
standing_one p = cond (is_standing p) 1 0

pub passed_standing : (gone : PassedPlaces) (old new : ParkingRing) → PassesOldest gone old new → gone.blocks + standing_in new.places ≡ standing_in old.places
passed_standing gone old new passes =
    let cut : standing_in (take gone.places old.places) + standing_in (drop gone.places old.places) ≡ standing_in old.places = sum_by-take-drop standing_one old.places gone.places in
    let blocks : gone.blocks ≡ standing_in (take gone.places old.places) = passes.blocks in
    let rest : standing_in new.places ≡ standing_in (drop gone.places old.places) = ap (λ (r : ParkingRing). standing_in r.places) passes.ring in
    omega arith

pub parked_standing : (b : StoredBlock) (old new : ParkingRing) → new ≡ with_block b old → standing_in new.places ≡ standing_in old.places + 1
parked_standing b old new is = ap (λ (r : ParkingRing). standing_in r.places) is ∙ sum_by_push standing_one old.places (record { block = b; is_kept = false })

standing_there : (p : ParkingPlace) → p.is_kept ≡ false → standing_one p ≡ 1
standing_there p stands = ap (λ (b : Bool). cond {A = ℕ} (not b) 1 0) stands

pub kept_standing : (i : ℕ) (p : ParkingPlace) (old new : ParkingRing) → StandsAt i p old → new ≡ with_kept i p old → standing_in new.places + 1 ≡ standing_in old.places
kept_standing i p old new stands is =
    let one : standing_one p ≡ 1 = standing_there p stands.1 in
    let set_so : standing_in (set old.places i (kept_place p)) + standing_one p ≡ standing_in old.places + 0 = sum_by-one_set standing_one old.places i p (kept_place p) stands.0 in
    let now : standing_in new.places ≡ standing_in (set old.places i (kept_place p)) = ap (λ (r : ParkingRing). standing_in r.places) is in
    omega arith

told_so : (kept : Bool) (x b : ParkedBlock) → (if kept then None else Some x) ≡ Some b → (kept ≡ false) × (x ≡ b)
told_so true x b is = absurd (none-some b is)
told_so false x b is = (refl, same_Some x b is)

-- a block that is told stands at a place
pub record IsTold (o : Option ParkingPlace) (b : ParkedBlock) : Type 0 where
  pub place : ParkingPlace
  pub there : o ≡ Some place
  pub stands : place.is_kept ≡ false
  pub told : told_of place ≡ Some b
  pub long : length place.block.bytes ≡ b.length

pub is_told : (o : Option ParkingPlace) (b : ParkedBlock) → told_at o ≡ Some b → IsTold o b
is_told None b is = absurd (none-some b is)
is_told (Some p) b is =
    let so = told_so p.is_kept (record { key = p.block.key; stamp = p.block.stamp; length = length p.block.bytes }) b is in
    record { place = p; there = refl; stands = so.0; told = is; long = ap (λ (x : ParkedBlock). x.length) so.1 }

-- a buffer whose first bytes are others
module _ (bytes buffer : List ℕ) (n : ℕ) (long : length bytes ≡ n) where
  pub filled_first : take n (bytes ++ drop n buffer) ≡ bytes
  filled_first = ap (λ (k : ℕ). take k (bytes ++ drop n buffer)) (sym long) ∙ take-append_seam bytes (drop n buffer)

  pub filled_rest : drop n (bytes ++ drop n buffer) ≡ drop n buffer
  filled_rest = drop-append-drop n buffer bytes n (omega arith) long

  pub filled_length : n ≤ length buffer → length (bytes ++ drop n buffer) ≡ length buffer
  filled_length fits =
      let parts : length (bytes ++ drop n buffer) ≡ length bytes + length (drop n buffer) = length-append bytes (drop n buffer) in
      let rest : length (drop n buffer) ≡ length buffer - n = length-drop n buffer in
      omega arith
