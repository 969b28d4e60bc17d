-- Cited by calls. What the laws say, each by its name.
use Rattle.std.specs.List.{flat_map, Sorted.IsNonDecreasingBy}
use Rattle.std.specs.Prelude.{◌≡◌, ◌<◌, ◌≤◌, ◌+◌, ◌*◌, ℕ, Bool, List, All, length, map, slice_index, slice_range, zip}
use Rattle.dspec_ctf.specs.{ByTime.timed_packets, Filled.filled_packet, Filled.filled_packets, Filled.filled_size, Filled.front_by, Filled.portions, Packets.events, Packets.packet, Rows.Spreads}
use Rattle.dspec_ctf.specs.{Rows.missed_packets, Rows.of_file, Rows.run_files, Rows.run_records, Streams.Accepts, Words.Outside.EnabledRows, Words.Outside.Record, declared.rows.Run.Run}

module _ (e : EnabledRows) where
  -- two lists of records with the same packet are one list
  abbrev pub PacketIsOfOneList : Type 0
  PacketIsOfOneList = (uuid : List ℕ) (missed cpu told other : ℕ) (rs qs : List Record) → All (Accepts e) rs → All (Accepts e) qs
      → packet uuid e missed cpu rs ≡ packet uuid e told other qs → rs ≡ qs

  -- two lists of records with the same packets by time are one list
  abbrev pub StreamIsOfOneList : Type 0
  StreamIsOfOneList = (uuid : List ℕ) (missed cpu told other : ℕ) (rs qs : List Record) → All (Accepts e) rs → All (Accepts e) qs
      → timed_packets uuid e missed cpu rs ≡ timed_packets uuid e told other qs → rs ≡ qs

  -- the records of the packets of files are all of them, in order, each in one packet
  abbrev pub PortionsHaveAll : Type 0
  PortionsHaveAll = (timed : Bool) (rs : List Record) → flat_map (λ portion. portion) (portions timed e rs) ≡ rs

  -- those of each are accepted, and its events go no further than its 1,024 bytes
  abbrev pub PortionsFit : Type 0
  PortionsFit = (timed : Bool) (rs : List Record) → All (Accepts e) rs
      → All (λ portion. All (Accepts e) portion × (front_by timed + length (events e portion) ≤ filled_size)) (portions timed e rs)

  -- and each has 1,024 bytes: what is written at once are whole packets, and each of them lies in one page of its file
  abbrev pub PacketsAreWhole : Type 0
  PacketsAreWhole = (timed : Bool) (uuid : List ℕ) (missed cpu : ℕ) (rs : List Record) → length uuid ≡ 16 → All (Accepts e) rs
      → All (λ portion. length (filled_packet timed e uuid missed cpu portion) ≡ filled_size) (portions timed e rs)
      × (length (filled_packets timed e uuid missed cpu rs) ≡ filled_size * length (portions timed e rs))

-- so have the two that tell what was missed
abbrev pub MissedPacketsAreWhole : Type 0
MissedPacketsAreWhole = (uuid : List ℕ) (before missed cpu : ℕ) (lasts : List ℕ) → length uuid ≡ 16
    → length (missed_packets uuid before missed cpu lasts) ≡ 2 * filled_size

-- in this file stamps don't fall, nor to before the last stamp that it had
abbrev pub StampsRise : List ℕ → List Record → List ℕ → ℕ → Type 0
StampsRise lasts rs files file =
    IsNonDecreasingBy (λ r. r.stamp) (of_file file files rs) × (file < length lasts → All (λ r. slice_index lasts file ≤ r.stamp) (of_file file files rs))

-- side by side with the numbers of their files, of which there are so many, 64 at most, these are all the records in their order
abbrev pub AreFiled : List Record → List ℕ → ℕ → Type 0
AreFiled rs files count =
    (map (λ p. p.1) (zip files rs) ≡ rs) × (map (λ p. p.0) (zip files rs) ≡ files) × All (λ file. file < count) files × (count ≤ 64)

-- these runs have all the records from one place to another, and each record goes to the file of its run
abbrev pub HaveAllBetween : List ℕ → List Record → ℕ → List Run → ℕ → List ℕ → Type 0
HaveAllBetween lasts rs from runs to new =
    (run_records rs from runs ≡ slice_range rs from to) × Spreads lasts (slice_range rs from to) (run_files from runs) new
