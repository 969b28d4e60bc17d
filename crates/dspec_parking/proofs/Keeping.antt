-- Each call on a ring keeps the page.
use Rattle.std.proofs.Common.{◌≡◌, ℕ, ◌+◌, ◌-◌, ◌<◌, ◌≤◌, Bool, false, List, [], ◌∷◌, ◌++◌, length, map, take, drop, set, Some, refl, sym, ap, subst, ◌∙◌, arith, append_assoc, length-drop}
use Rattle.std.proofs.Common.{length-set, take-append-drop}
use Rattle.std.proofs.lemmas.{List.length_push, List.map-append, List.map-set, List.Sums.sum_by-take-drop, List.Sums.sum_by_push, Option.slice_get-map}
use Rattle.std.specs.{List.AllByRecursion, Option.option_map, Prelude.if◌then◌else◌, Prelude.slice_get}
use Rattle.dspec_parking.specs.Words.{IsInBounds, ParkingPlace, ParkingRing, StoredBlock, bytes_at, standing_in, used_bytes, without_oldest, BlockFate, CountsEnds, GoesOnBy, HasEnded, KeepsParking}
use Rattle.dspec_parking.specs.Words.{ParkedOnce, Register, fate_count, entered, evicted, expired, is_fate, kept, standing, ExpiresBlocks, ParkingState, ParksBlock, TakesOut, kept_place}
use Rattle.dspec_parking.specs.Words.{nothing_parked, one_kept, one_parked, some_expired, with_block, with_kept, PassesOldest}
use Rattle.dspec_parking.specs.declared.{parking_counts.ParkingCounts.ParkingCounts, passed_places.PassedPlaces.PassedPlaces}
use Rattle.dspec_parking.specs.declared.parked.Parked.TheVariants as answer
use Rattle.dspec_parking.proofs.Ending.{asked, came_from, counted, given_up, goes_on, goes_to, goes_to_counts, length-goes_to, passed_ended}
use Rattle.dspec_parking.proofs.Lists.{set-after, slice_get-after, sum_by-one_set}

pub begins : (size most : ℕ) → KeepsParking [] (nothing_parked size most)
begins size most = record {
  passed = [];
  places = refl;
  ended = tt;
  counts = record { parked = refl; kept = refl; evicted = refl; expired = refl; standing = refl };
  sums = refl;
  bounds = record { bytes = omega arith; places = omega arith };
}

-- what the register is, when the tail passed some of the oldest places
record HavePassed (end : BlockFate) (register : Register) (n : ℕ) (places : List ParkingPlace) (later : Register) : Type 0 where
  passed : Register
  is : later ≡ passed ++ map entered places
  ended : AllByRecursion HasEnded passed
  goes : GoesOnBy end register later
  long : length later ≡ length register
  counts : (f : BlockFate) → fate_count f later + asked (is_fate f standing) n ≡ fate_count f register + asked (is_fate f end) n

have_passed : (end : BlockFate) (register : Register) (s : ParkingState) (gone : PassedPlaces) (ring : ParkingRing) → is_fate standing end ≡ false → KeepsParking register s
    → PassesOldest gone s.ring ring
    → (later : Register) × HavePassed end register gone.blocks ring.places later
have_passed end register s gone ring ends keeps passes =
    let ps = s.ring.places in
    let k = gone.places in
    let out = take k ps in
    let rest = drop k ps in
    let later = goes_to end keeps.passed out rest in
    let whole : came_from keeps.passed out rest ≡ register = ap (λ (l : List ParkingPlace). keeps.passed ++ map entered l) (take-append-drop k ps) ∙ sym keeps.places in
    let there : ring.places ≡ rest = ap (λ (r : ParkingRing). r.places) passes.ring in (
      later,
      record {
        passed = keeps.passed ++ map (given_up end) out;
        is = ap (λ (l : List ParkingPlace). (keeps.passed ++ map (given_up end) out) ++ map entered l) (sym there);
        ended = passed_ended end keeps.passed out ends keeps.ended;
        goes = subst (λ (r : Register). GoesOnBy end r later) whole (goes_on end keeps.passed out rest);
        long = length-goes_to end keeps.passed out rest ∙ ap length whole;
        counts = λ f. subst (λ (n : ℕ). fate_count f later + asked (is_fate f standing) n ≡ fate_count f register + asked (is_fate f end) n) (sym passes.blocks)
            (goes_to_counts end f keeps.passed out rest ∙ ap (λ (r : Register). fate_count f r + asked (is_fate f end) (standing_in out)) whole);
      },
    )

-- the bounds hold for fewer places
within_rest : (k : ℕ) (ring : ParkingRing) → IsInBounds ring → IsInBounds (without_oldest k ring)
within_rest k ring within =
    let bytes : used_bytes (take k ring.places) + used_bytes (drop k ring.places) ≡ used_bytes ring.places = sum_by-take-drop bytes_at ring.places k in
    let long : length (drop k ring.places) ≡ length ring.places - k = length-drop k ring.places in
    let old_bytes : used_bytes ring.places ≤ ring.size = within.bytes in
    let old_places : length ring.places ≤ ring.most = within.places in
    record { bytes = omega arith; places = omega arith }

pub expires : (register : Register) (before most : ℕ) (gone : PassedPlaces) (old new : ParkingState) → KeepsParking register old → ExpiresBlocks before most gone old new
    → (later : Register) × GoesOnBy expired register later × KeepsParking later new
expires register before most gone old new keeps does =
    let both = have_passed expired register old gone new.ring refl keeps does.ring.oldest in
    let later = both.0 in
    let now = both.1 in
    let c = old.counts in
    let was_standing : fate_count standing later + gone.blocks ≡ fate_count standing register + 0 = now.counts standing in
    let was_expired : fate_count expired later + 0 ≡ fate_count expired register + gone.blocks = now.counts expired in
    let was_kept : fate_count kept later + 0 ≡ fate_count kept register + 0 = now.counts kept in
    let was_evicted : fate_count evicted later + 0 ≡ fate_count evicted register + 0 = now.counts evicted in
    let all = keeps.counts in
    let c_standing : c.standing ≡ fate_count standing register = all.standing in
    let c_expired : c.expired ≡ fate_count expired register = all.expired in
    let c_kept : c.kept ≡ fate_count kept register = all.kept in
    let c_evicted : c.evicted ≡ fate_count evicted register = all.evicted in
    let sums : c.parked ≡ c.kept + c.evicted + c.expired + c.standing = keeps.sums in
    let counts : CountsEnds later (some_expired gone.blocks c) = record {
      parked = all.parked ∙ sym now.long;
      kept = omega arith;
      evicted = omega arith;
      expired = omega arith;
      standing = omega arith;
    } in
    let new_sums : c.parked ≡ c.kept + c.evicted + (c.expired + gone.blocks) + (c.standing - gone.blocks) = omega arith in (
      later,
      now.goes,
      record {
        passed = now.passed;
        places = now.is;
        ended = now.ended;
        counts = subst (CountsEnds later) (sym does.counts) counts;
        sums = subst (λ (d : ParkingCounts). d.parked ≡ d.kept + d.evicted + d.expired + d.standing) (sym does.counts) new_sums;
        bounds = subst IsInBounds (sym does.ring.oldest.ring) (within_rest gone.places old.ring keeps.bounds);
      },
    )

pub parks : (register : Register) (b : StoredBlock) (gone : PassedPlaces) (old new : ParkingState) → KeepsParking register old → ParksBlock b (answer.Stands gone) old new
    → (later : Register) × GoesOnBy evicted register later × KeepsParking (later ++ record { block = b; fate = standing } ∷ []) new
parks register b gone old new keeps (mid, room, ring, count) =
    let both = have_passed evicted register old gone mid refl keeps room.oldest in
    let later = both.0 in
    let now = both.1 in
    let c = old.counts in
    let one : ParkedOnce = record { block = b; fate = standing } in
    let place : ParkingPlace = record { block = b; is_kept = false } in
    let whole = later ++ one ∷ [] in
    let was_standing : fate_count standing later + gone.blocks ≡ fate_count standing register + 0 = now.counts standing in
    let was_expired : fate_count expired later + 0 ≡ fate_count expired register + 0 = now.counts expired in
    let was_kept : fate_count kept later + 0 ≡ fate_count kept register + 0 = now.counts kept in
    let was_evicted : fate_count evicted later + 0 ≡ fate_count evicted register + gone.blocks = now.counts evicted in
    let all = keeps.counts in
    let c_parked : c.parked ≡ length register = all.parked in
    let c_standing : c.standing ≡ fate_count standing register = all.standing in
    let c_expired : c.expired ≡ fate_count expired register = all.expired in
    let c_kept : c.kept ≡ fate_count kept register = all.kept in
    let c_evicted : c.evicted ≡ fate_count evicted register = all.evicted in
    let long : length later ≡ length register = now.long in
    let longer : length whole ≡ length later + 1 = length_push later one in
    let more_standing : fate_count standing whole ≡ fate_count standing later + 1 = sum_by_push (counted standing) later one in
    let more_kept : fate_count kept whole ≡ fate_count kept later + 0 = sum_by_push (counted kept) later one in
    let more_evicted : fate_count evicted whole ≡ fate_count evicted later + 0 = sum_by_push (counted evicted) later one in
    let more_expired : fate_count expired whole ≡ fate_count expired later + 0 = sum_by_push (counted expired) later one in
    let sums : c.parked ≡ c.kept + c.evicted + c.expired + c.standing = keeps.sums in
    let counts : CountsEnds whole (one_parked gone.blocks c) = record { parked = omega arith; kept = omega arith; evicted = omega arith; expired = omega arith; standing = omega arith } in
    let new_sums : c.parked + 1 ≡ c.kept + (c.evicted + gone.blocks) + c.expired + (c.standing - gone.blocks + 1) = omega arith in
    let room_bytes : used_bytes mid.places + length b.bytes ≤ mid.size = room.room.0 in
    let room_places : length mid.places < mid.most = room.room.1 in
    let bytes : used_bytes (mid.places ++ place ∷ []) ≡ used_bytes mid.places + length b.bytes = sum_by_push bytes_at mid.places place in
    let places : length (mid.places ++ place ∷ []) ≡ length mid.places + 1 = length_push mid.places place in
    let within : IsInBounds (with_block b mid) = record { bytes = omega arith; places = omega arith } in
    let is : whole ≡ now.passed ++ map entered (mid.places ++ place ∷ []) =
    ap (λ (l : Register). l ++ one ∷ []) now.is ∙ append_assoc now.passed (map entered mid.places) (one ∷ [])
    ∙ ap (λ (l : Register). now.passed ++ l) (sym (map-append entered mid.places (place ∷ []))) in (
      later,
      now.goes,
      record {
        passed = now.passed;
        places = is ∙ ap (λ (r : ParkingRing). now.passed ++ map entered r.places) (sym ring);
        ended = now.ended;
        counts = subst (CountsEnds whole) (sym count) counts;
        sums = subst (λ (d : ParkingCounts). d.parked ≡ d.kept + d.evicted + d.expired + d.standing) (sym count) new_sums;
        bounds = subst IsInBounds (sym ring) within;
      },
    )

-- a place that stands is a block that stands
entered_standing : (p : ParkingPlace) → p.is_kept ≡ false → entered p ≡ record { block = p.block; fate = standing }
entered_standing p is = ap (λ (b : Bool). record { block = p.block; fate = if b then kept else standing }) is

pub takes : (register : Register) (i : ℕ) (p : ParkingPlace) (bytes : List ℕ) (old new : ParkingState) → KeepsParking register old → TakesOut i p bytes old new
    → (n : ℕ) × (slice_get register n ≡ Some (record { block = p.block; fate = standing })) × (bytes ≡ p.block.bytes)
    × KeepsParking (set register n (record { block = p.block; fate = kept })) new
takes register i p bytes old new keeps does =
    let ps = old.ring.places in
    let c = old.counts in
    let n = length keeps.passed + i in
    let stood : ParkedOnce = record { block = p.block; fate = standing } in
    let done : ParkedOnce = record { block = p.block; fate = kept } in
    let whole = set register n done in
    let found : slice_get (map entered ps) i ≡ Some stood =
    slice_get-map entered ps i ∙ ap (option_map entered) does.stands.0 ∙ ap (λ (e : ParkedOnce). Some e) (entered_standing p does.stands.1) in
    let at : slice_get register n ≡ Some stood = ap (λ (r : Register). slice_get r n) keeps.places ∙ slice_get-after keeps.passed (map entered ps) i ∙ found in
    let set_so : whole ≡ keeps.passed ++ map entered (set ps i (kept_place p)) =
    ap (λ (r : Register). set r n done) keeps.places ∙ set-after keeps.passed (map entered ps) i done ∙ ap (λ (l : Register). keeps.passed ++ l) (sym (map-set entered ps i (kept_place p))) in
    let more_standing : fate_count standing whole + 1 ≡ fate_count standing register + 0 = sum_by-one_set (counted standing) register n stood done at in
    let more_kept : fate_count kept whole + 0 ≡ fate_count kept register + 1 = sum_by-one_set (counted kept) register n stood done at in
    let more_evicted : fate_count evicted whole + 0 ≡ fate_count evicted register + 0 = sum_by-one_set (counted evicted) register n stood done at in
    let more_expired : fate_count expired whole + 0 ≡ fate_count expired register + 0 = sum_by-one_set (counted expired) register n stood done at in
    let all = keeps.counts in
    let c_standing : c.standing ≡ fate_count standing register = all.standing in
    let c_expired : c.expired ≡ fate_count expired register = all.expired in
    let c_kept : c.kept ≡ fate_count kept register = all.kept in
    let c_evicted : c.evicted ≡ fate_count evicted register = all.evicted in
    let sums : c.parked ≡ c.kept + c.evicted + c.expired + c.standing = keeps.sums in
    let counts : CountsEnds whole (one_kept c) = record {
      parked = all.parked ∙ sym (length-set register n done);
      kept = omega arith;
      evicted = omega arith;
      expired = omega arith;
      standing = omega arith;
    } in
    let new_sums : c.parked ≡ (c.kept + 1) + c.evicted + c.expired + (c.standing - 1) = omega arith in
    let same_bytes : used_bytes (set ps i (kept_place p)) + length p.block.bytes ≡ used_bytes ps + length p.block.bytes = sum_by-one_set bytes_at ps i p (kept_place p) does.stands.0 in
    let same_places : length (set ps i (kept_place p)) ≡ length ps = length-set ps i (kept_place p) in
    let old_bytes : used_bytes ps ≤ old.ring.size = keeps.bounds.bytes in
    let old_places : length ps ≤ old.ring.most = keeps.bounds.places in
    let within : IsInBounds (with_kept i p old.ring) = record { bytes = omega arith; places = omega arith } in (
      n,
      at,
      does.whole,
      record {
        passed = keeps.passed;
        places = set_so ∙ ap (λ (r : ParkingRing). keeps.passed ++ map entered r.places) (sym does.ring);
        ended = keeps.ended;
        counts = subst (CountsEnds whole) (sym does.counts) counts;
        sums = subst (λ (d : ParkingCounts). d.parked ≡ d.kept + d.evicted + d.expired + d.standing) (sym does.counts) new_sums;
        bounds = subst IsInBounds (sym does.ring) within;
      },
    )
