-- What is found at a place of a ring.
use Rattle.std.proofs.Common.{◌≡◌, ℕ, ◌+◌, ◌-◌, ◌%◌, ◌^◌, ◌<◌, ◌≤◌, Bool, true, false, List, [], ◌∷◌, length, take, drop, None, Some, zero, suc, sym, ap, ◌∙◌, arith, length-drop, length-take-le}
use Rattle.std.proofs.lemmas.Option.{none-some, same_Some, slice_get_past}
use Rattle.std.specs.{List.sum_by, Prelude.if◌then◌else◌, Prelude.nat_lt, Prelude.slice_get, Prelude.slice_range, Prelude.◌||◌}
use Rattle.dspec_parking.specs.Words.{ParkingPlace, told_at, OldestIsOld, OldestIsYoung, is_old, IsRing, entry_bytes, place_with, ring_shown}
use Rattle.dspec_parking.specs.declared.{block_ring.BlockRing.TheInside.Inside, parked_block.ParkedBlock.ParkedBlock, parking_entry.ParkingEntry.ParkingEntry}
use Rattle.dspec_parking.proofs.{Cutting.entry_within, Cutting.slice_get-places_cut, Rings.shown_length, Starting.distance, Starting.start_at}

past_all : {X : Type 0} (xs : List X) (i : ℕ) → slice_get xs i ≡ None → length xs ≤ i
past_all [] i none = omega arith
past_all (x ∷ xs) zero none = absurd (none-some x (sym none))
past_all (x ∷ xs) (suc i) none = let rest : length xs ≤ i = past_all xs i none in omega arith

module _ (r : Inside) (is : IsRing r) where
  -- no entry is there, and no place
  pub none_there : (i : ℕ) → slice_get r.entries.items i ≡ None → slice_get (ring_shown r).places i ≡ None
  none_there i none =
      let long : length (ring_shown r).places ≡ length r.entries.items = shown_length r is in
      let past : length r.entries.items ≤ i = past_all r.entries.items i none in
      slice_get_past (ring_shown r).places i (omega arith)

  pub some_there : (i : ℕ) → slice_get r.entries.items i ≡ None → i < length (ring_shown r).places → ⊥
  some_there i none within =
      let long : length (ring_shown r).places ≡ length r.entries.items = shown_length r is in
      let past : length r.entries.items ≤ i = past_all r.entries.items i none in
      omega arith

  module _ (i : ℕ) (e : ParkingEntry) (found : slice_get r.entries.items i ≡ Some e) where
    -- where its bytes begin
    abbrev bytes_before : ℕ
    bytes_before = sum_by entry_bytes (take i r.entries.items)

    abbrev pub place_there : ParkingPlace
    place_there = place_with e (take e.length (drop bytes_before r.bytes.items))

    pub is_there : slice_get (ring_shown r).places i ≡ Some place_there
    is_there = slice_get-places_cut r.entries.items r.bytes.items i e found

    ends_within : bytes_before + e.length ≤ length r.bytes.items
    ends_within =
        let within : bytes_before + e.length ≤ sum_by entry_bytes r.entries.items = entry_within r.entries.items i e found in
        let all : sum_by entry_bytes r.entries.items ≡ length r.bytes.items = is.lengths in
        omega arith

    abbrev pub starts : ℕ
    starts = (e.start + (2 ^ 64 - r.passed)) % 2 ^ 64

    starts_so : starts ≡ bytes_before
    starts_so =
        let within : bytes_before + e.length ≤ length r.bytes.items = ends_within in
        let fits : length r.bytes.items ≤ r.bytes.capacity = is.bytes in
        let size : r.bytes.capacity < 2 ^ 64 = is.size in
        distance r.passed bytes_before e.start is.wraps (omega arith) (start_at r.entries.items r.passed i e found is.starts)

    -- its bytes are within those of the ring
    pub ends_in_ring : starts + e.length ≤ length r.bytes.items
    ends_in_ring =
        let so : starts ≡ bytes_before = starts_so in
        let within : bytes_before + e.length ≤ length r.bytes.items = ends_within in
        omega arith

    pub ends_in_word : starts + e.length < 2 ^ 64
    ends_in_word =
        let within : starts + e.length ≤ length r.bytes.items = ends_in_ring in
        let fits : length r.bytes.items ≤ r.bytes.capacity = is.bytes in
        let size : r.bytes.capacity < 2 ^ 64 = is.size in
        omega arith

    -- and these are its block's
    pub bytes_there : (p : ParkingPlace) → slice_get (ring_shown r).places i ≡ Some p → slice_range r.bytes.items starts (starts + e.length) ≡ p.block.bytes
    bytes_there p at =
        let long : (starts + e.length) - starts ≡ e.length = omega arith in
        ap (λ (n : ℕ). take n (drop starts r.bytes.items)) long ∙ ap (λ (n : ℕ). take e.length (drop n r.bytes.items)) starts_so
        ∙ ap (λ (q : ParkingPlace). q.block.bytes) (same_Some place_there p (sym is_there ∙ at))

    length_there : length place_there.block.bytes ≡ e.length
    length_there =
        let within : bytes_before + e.length ≤ length r.bytes.items = ends_within in
        let rest : length (drop bytes_before r.bytes.items) ≡ length r.bytes.items - bytes_before = length-drop bytes_before r.bytes.items in
        length-take-le e.length (drop bytes_before r.bytes.items) (omega arith)

    abbrev pub told : ParkedBlock
    told = record { key = e.key; stamp = e.stamp; length = e.length }

    pub kept_is_untold : e.is_kept ≡ true → told_at (slice_get (ring_shown r).places i) ≡ None
    kept_is_untold kept =
        ap told_at is_there
        ∙ ap (λ (b : Bool). if b then None else Some (record { key = e.key; stamp = e.stamp; length = length place_there.block.bytes })) kept

    pub standing_is_told : e.is_kept ≡ false → told_at (slice_get (ring_shown r).places i) ≡ Some told
    standing_is_told stands =
        ap told_at is_there
        ∙ ap (λ (b : Bool). if b then None else Some (record { key = e.key; stamp = e.stamp; length = length place_there.block.bytes })) stands
        ∙ ap (λ (n : ℕ). Some (record { key = e.key; stamp = e.stamp; length = n })) length_there

  -- of the oldest place
  module _ (e : ParkingEntry) (found : slice_get r.entries.items 0 ≡ Some e) (before : ℕ) where
    pub oldest_kept : e.is_kept ≡ true → OldestIsOld before (ring_shown r)
    oldest_kept kept = (place_there 0 e found, is_there 0 e found, ap (λ (b : Bool). b || nat_lt e.stamp before) kept)

    oldest_by_stamp : (b : Bool) → e.is_kept ≡ false → nat_lt e.stamp before ≡ b → is_old before (place_there 0 e found) ≡ b
    oldest_by_stamp b stands so = ap (λ (k : Bool). k || nat_lt e.stamp before) stands ∙ so

    pub oldest_old : e.is_kept ≡ false → nat_lt e.stamp before ≡ true → OldestIsOld before (ring_shown r)
    oldest_old stands old = (place_there 0 e found, is_there 0 e found, oldest_by_stamp true stands old)

    pub oldest_young : e.is_kept ≡ false → nat_lt e.stamp before ≡ false → OldestIsYoung before (ring_shown r)
    oldest_young stands young p at =
        ap (is_old before) (same_Some p (place_there 0 e found) (sym at ∙ is_there 0 e found)) ∙ oldest_by_stamp false stands young
