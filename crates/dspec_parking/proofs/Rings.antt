-- What the fields of a ring show, and what they show after a step.
use Rattle.std.proofs.Common.{◌≡◌, ℕ, ◌+◌, ◌-◌, ◌<◌, ◌≤◌, Bool, false, List, [], ◌∷◌, ◌++◌, length, drop, set, Some, sym, ap, subst, ◌∙◌, arith, length-append, length-drop, length-set}
use Rattle.std.proofs.lemmas.List.{length_push, Sums.sum_by_push}
use Rattle.std.specs.{List.sum_by, Prelude.slice_get}
use Rattle.circular_buffer.specs.Buffer.{Buffer, buffer}
use Rattle.dspec_parking.specs.Words.{RingBytes, ring_bytes, FitsBeside, IsInBounds, ParkingPlace, StoredBlock, used_bytes, without_oldest, with_block, with_kept, IsRing, entry_bytes, places_cut}
use Rattle.dspec_parking.specs.Words.{ring_shown, wrapped}
use Rattle.dspec_parking.specs.declared.{block_ring.BlockRing.TheInside.Inside, parking_entry.ParkingEntry.ParkingEntry}
use Rattle.dspec_parking.proofs.Cutting.{kept_entry, length-places_cut, places_cut-kept, places_cut-push, places_cut-rest, sum_by-kept, sum_by-rest, used_bytes-places_cut}
use Rattle.dspec_parking.proofs.Starting.{StartsFrom-kept, StartsFrom-push, StartsFrom-rest}

abbrev pub inside : RingBytes → Buffer ParkingEntry → ℕ → Inside
inside bytes entries passed = record { bytes = bytes; entries = entries; passed = passed }

module _ (r : Inside) (is : IsRing r) where
  pub shown_length : length (ring_shown r).places ≡ length r.entries.items
  shown_length = length-places_cut r.entries.items r.bytes.items

  pub shown_used : used_bytes (ring_shown r).places ≡ length r.bytes.items
  shown_used = used_bytes-places_cut r.entries.items r.bytes.items is.lengths

  pub shown_within : IsInBounds (ring_shown r)
  shown_within =
      let used : used_bytes (ring_shown r).places ≡ length r.bytes.items = shown_used in
      let long : length (ring_shown r).places ≡ length r.entries.items = shown_length in
      let bytes_fit : length r.bytes.items ≤ r.bytes.capacity = is.bytes in
      let entries_fit : length r.entries.items ≤ r.entries.capacity = is.entries in
      record { bytes = omega arith; places = omega arith }

  pub has_room_from : (n : ℕ) → n ≤ r.bytes.capacity - length r.bytes.items → length r.entries.items < r.entries.capacity → FitsBeside (ring_shown r) n
  has_room_from n bytes places =
      let used : used_bytes (ring_shown r).places ≡ length r.bytes.items = shown_used in
      let long : length (ring_shown r).places ≡ length r.entries.items = shown_length in
      let bytes_fit : length r.bytes.items ≤ r.bytes.capacity = is.bytes in
      (omega arith, omega arith)

  pub room_left : (n : ℕ) → FitsBeside (ring_shown r) n → (n ≤ r.bytes.capacity - length r.bytes.items) × (length r.entries.items < r.entries.capacity)
  room_left n room =
      let used : used_bytes (ring_shown r).places ≡ length r.bytes.items = shown_used in
      let long : length (ring_shown r).places ≡ length r.entries.items = shown_length in
      let bytes : used_bytes (ring_shown r).places + n ≤ r.bytes.capacity = room.0 in
      let places : length (ring_shown r).places < r.entries.capacity = room.1 in
      (omega arith, omega arith)

  -- one block more
  pub push_shows : (e : ParkingEntry) (more : List ℕ) (bytes : RingBytes) (entries : Buffer ParkingEntry) → FitsBeside (ring_shown r) (length more) → e.length ≡ length more
      → e.start ≡ wrapped (r.passed + length r.bytes.items) → e.is_kept ≡ false → bytes ≡ ring_bytes (r.bytes.items ++ more) r.bytes.capacity
      → entries ≡ buffer (r.entries.items ++ e ∷ []) r.entries.capacity
      → IsRing (inside bytes entries r.passed) × (ring_shown (inside bytes entries r.passed) ≡ with_block (record { key = e.key; stamp = e.stamp; bytes = more }) (ring_shown r))
  push_shows e more bytes entries room long starts standing bytes_are entries_are =
      let bs = r.bytes.items in
      let es = r.entries.items in
      let size = r.bytes.capacity in
      let most = r.entries.capacity in
      let left = room_left (length more) room in
      let left_bytes : length more ≤ size - length bs = left.0 in
      let left_places : length es < most = left.1 in
      let fit : length bs ≤ size = is.bytes in
      let longer : length (bs ++ more) ≡ length bs + length more = length-append bs more in
      let one_longer : length (es ++ e ∷ []) ≡ length es + 1 = length_push es e in
      let bytes_fit : length (bs ++ more) ≤ size = omega arith in
      let entries_fit : length (es ++ e ∷ []) ≤ most = omega arith in
      let lengths : sum_by entry_bytes es ≡ length bs = is.lengths in
      let all : sum_by entry_bytes (es ++ e ∷ []) ≡ sum_by entry_bytes es + e.length = sum_by_push entry_bytes es e in
      let at : e.start ≡ wrapped (r.passed + sum_by entry_bytes es) = starts ∙ ap (λ (n : ℕ). wrapped (r.passed + n)) (sym lengths) in
      let block : StoredBlock = record { key = e.key; stamp = e.stamp; bytes = more } in
      let shows = λ (b : RingBytes) (c : Buffer ParkingEntry). IsRing (inside b c r.passed) × (ring_shown (inside b c r.passed) ≡ with_block block (ring_shown r)) in
      let keeps : IsRing (inside (ring_bytes (bs ++ more) size) (buffer (es ++ e ∷ []) most) r.passed) = record {
        lengths = omega arith;
        starts = StartsFrom-push es r.passed e is.starts at;
        wraps = is.wraps;
        size = is.size;
        bytes = bytes_fit;
        entries = entries_fit;
      } in
      let places : places_cut (es ++ e ∷ []) (bs ++ more) ≡ places_cut es bs ++ record { block = block; is_kept = false } ∷ [] =
      places_cut-push es bs more e lengths long ∙ ap (λ (b : Bool). places_cut es bs ++ record { block = block; is_kept = b } ∷ []) standing in
      subst (λ (b : RingBytes). shows b entries) (sym bytes_are)
      (subst (λ (c : Buffer ParkingEntry). shows (ring_bytes (bs ++ more) size) c)
      (sym entries_are)
      (keeps, ap (λ (ps : List ParkingPlace). record { size = size; most = most; places = ps }) places))

  -- the first has no more bytes than there are
  pub oldest_fits : (e : ParkingEntry) → slice_get r.entries.items 0 ≡ Some e → e.length ≤ length r.bytes.items
  oldest_fits e first =
      let lengths : sum_by entry_bytes r.entries.items ≡ length r.bytes.items = is.lengths in
      let all : sum_by entry_bytes r.entries.items ≡ e.length + sum_by entry_bytes (drop 1 r.entries.items) = sum_by-rest r.entries.items e first in
      omega arith

  -- the first goes
  pub pass_shows : (e : ParkingEntry) (bytes : RingBytes) (entries : Buffer ParkingEntry) (passed : ℕ) → slice_get r.entries.items 0 ≡ Some e
      → bytes ≡ ring_bytes (drop e.length r.bytes.items) r.bytes.capacity → entries ≡ buffer (drop 1 r.entries.items) r.entries.capacity
      → passed ≡ wrapped (r.passed + e.length)
      → IsRing (inside bytes entries passed) × (ring_shown (inside bytes entries passed) ≡ without_oldest 1 (ring_shown r))
  pass_shows e bytes entries passed first bytes_are entries_are passed_is =
      let bs = r.bytes.items in
      let es = r.entries.items in
      let size = r.bytes.capacity in
      let most = r.entries.capacity in
      let lengths : sum_by entry_bytes es ≡ length bs = is.lengths in
      let all : sum_by entry_bytes es ≡ e.length + sum_by entry_bytes (drop 1 es) = sum_by-rest es e first in
      let fits : e.length ≤ length bs = omega arith in
      let fewer : length (drop e.length bs) ≡ length bs - e.length = length-drop e.length bs in
      let one_fewer : length (drop 1 es) ≡ length es - 1 = length-drop 1 es in
      let bytes_fit : length bs ≤ size = is.bytes in
      let entries_fit : length es ≤ most = is.entries in
      let shows = λ (b : RingBytes) (c : Buffer ParkingEntry) (n : ℕ). IsRing (inside b c n) × (ring_shown (inside b c n) ≡ without_oldest 1 (ring_shown r)) in
      let keeps : IsRing (inside (ring_bytes (drop e.length bs) size) (buffer (drop 1 es) most) (wrapped (r.passed + e.length))) = record {
        lengths = omega arith;
        starts = StartsFrom-rest es r.passed e first is.starts;
        wraps = omega arith;
        size = is.size;
        bytes = omega arith;
        entries = omega arith;
      } in
      subst (λ (n : ℕ). shows bytes entries n) (sym passed_is)
      (subst (λ (b : RingBytes). shows b entries (wrapped (r.passed + e.length))) (sym bytes_are)
      (subst (λ (c : Buffer ParkingEntry). shows (ring_bytes (drop e.length bs) size) c (wrapped (r.passed + e.length))) (sym entries_are)
      (keeps, ap (λ (ps : List ParkingPlace). record { size = size; most = most; places = ps }) (sym (places_cut-rest es bs e first)))))

  -- a block is kept
  pub kept_shows : (i : ℕ) (e : ParkingEntry) (p : ParkingPlace) (entries : Buffer ParkingEntry) → slice_get r.entries.items i ≡ Some e → slice_get (ring_shown r).places i ≡ Some p
      → entries ≡ buffer (set r.entries.items i (kept_entry e)) r.entries.capacity
      → IsRing (inside r.bytes entries r.passed) × (ring_shown (inside r.bytes entries r.passed) ≡ with_kept i p (ring_shown r))
  kept_shows i e p entries found at entries_are =
      let es = r.entries.items in
      let most = r.entries.capacity in
      let as_long : length (set es i (kept_entry e)) ≡ length es = length-set es i (kept_entry e) in
      let fit : length es ≤ most = is.entries in
      let shows = λ (c : Buffer ParkingEntry). IsRing (inside r.bytes c r.passed) × (ring_shown (inside r.bytes c r.passed) ≡ with_kept i p (ring_shown r)) in
      let keeps : IsRing (inside r.bytes (buffer (set es i (kept_entry e)) most) r.passed) = record {
        lengths = sum_by-kept es i e found ∙ is.lengths;
        starts = StartsFrom-kept es r.passed i e found is.starts;
        wraps = is.wraps;
        size = is.size;
        bytes = is.bytes;
        entries = omega arith;
      } in
      subst shows (sym entries_are) (keeps, ap (λ (ps : List ParkingPlace). record { size = r.bytes.capacity; most = most; places = ps }) (places_cut-kept es r.bytes.items i e p found at))
