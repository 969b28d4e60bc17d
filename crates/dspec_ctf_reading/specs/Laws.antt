-- Cited by calls. What the laws say, each by its name.
use Rattle.std.specs.{List.flat_map, List.range_with_len, Option.option_map, Option.option_and_then, Prelude.◌≡◌, Prelude.◌<◌, Prelude.◌^◌, Prelude.◌++◌, Prelude.◌∷◌, Prelude.[], Prelude.ℕ}
use Rattle.std.specs.{Prelude.true, Prelude.false, Prelude.All, Prelude.List, Prelude.map, Prelude.length, Prelude.slice_index, Prelude.Option, Prelude.Some, Prelude.None}
use Rattle.dspec_ctf_reading.specs.Files.{FileTells, PartTells, file_bytes, last_missed}
use Rattle.dspec_ctf_reading.specs.Fronts.{PacketSplit}
use Rattle.dspec_ctf_reading.specs.Layouts.{layout_of, event_of, packet_of, is_timed, given_name}
use Rattle.dspec_ctf_reading.specs.Reading.{Layout, EventRead, PacketRead, read_packet, read_file, with_events}
use Rattle.dspec_ctf_reading.specs.ReadingMetadata.{read_metadata}
use Rattle.dspec_ctf_reading.specs.Words.Outside.{Record, EnabledRows, events, packet, packet_around, filled_packets, portions, span_by, Accepts, timed_packets, AreRuns, missed_packets, of_file}
use Rattle.dspec_ctf_reading.specs.Words.Outside.{run_files, run_packets, run_records, told_by, origin_text, Header, ProbeNames, Form, AsTaken, ByTime, Names, Origin, Run}
use Rattle.dspec_record.specs.declared.header.Header.TheVariants as header

-- what was read first, and after it the others, which this reading gives of the rest
abbrev pub then_others : {A : Type 0} → (List ℕ → Option (List A)) → Option (A × List ℕ) → Option (List A)
then_others read first = option_and_then (λ p. option_map (λ others. p.0 ∷ others) (read p.1)) first

-- a packet that was split, with its events, and what is after it
abbrev pub with_its_events : Layout → PacketSplit → Option (PacketRead × List ℕ)
with_its_events layout s = option_map (λ packet. (packet, s.after)) (with_events layout s.front s.body)

-- an event is of this EPID, with this stamp and these values, in order
abbrev pub IsReadAs : EventRead → ℕ → Option ℕ → List ℕ → Type 0
IsReadAs event epid stamp values = (event.id ≡ epid) × (event.stamp ≡ stamp) × (map (λ v. v.1) event.values ≡ values)

-- an event without a stamp is read of this record; where records have stamps, the record's is its first value
abbrev pub IsReadAsTaken : Header → Record → EventRead → Type 0
IsReadAsTaken h r event =
    (event.id ≡ r.epid) × (event.stamp ≡ None) × (h ≡ header.One → map (λ v. v.1) event.values ≡ r.values)
    × (h ≡ header.Two → map (λ v. v.1) event.values ≡ r.stamp ∷ r.values)

-- The event and its fields are called by these: each value by its field's name, and each word of a text by the text's.
abbrev pub IsCalledBy : ProbeNames → List ℕ → EventRead → Type 0
IsCalledBy n values event =
    (event.name ≡ n.event.now) × (map (λ v. v.0) event.values ≡ map (given_name n) (range_with_len 0 (length values)))

-- the metadata that is written is read as this layout
abbrev pub MetadataTells : Origin → Form → EnabledRows → Names → Type 0
MetadataTells origin form e names = read_metadata (origin_text origin form e names) ≡ Some (layout_of e names form)

module _ (e : EnabledRows) (names : Names) where
  -- the packet of records as they were taken is read as those records, and what stands after it is left
  abbrev pub TakenPacketsReadBack : Type 0
  TakenPacketsReadBack = (uuid : List ℕ) (missed cpu : ℕ) (rs : List Record) (rest : List ℕ)
      → length uuid ≡ 16 → missed < 2 ^ 64 → cpu < 2 ^ 32 → length (events e rs) < 2 ^ 60 → All (Accepts e) rs
      → read_packet (layout_of e names AsTaken) (packet uuid e missed cpu rs ++ rest) ≡ Some (packet_of e names AsTaken uuid None missed cpu rs, rest)

  -- the packet of records by time is read as those records, and what stands after it is left
  abbrev pub TimedPacketsReadBack : Type 0
  TimedPacketsReadBack = (frequency : ℕ) (uuid : List ℕ) (span : ℕ × ℕ) (missed cpu : ℕ) (rs : List Record) (rest : List ℕ)
      → e.header ≡ header.Two → length uuid ≡ 16 → span.0 < 2 ^ 64 → span.1 < 2 ^ 64 → missed < 2 ^ 64 → cpu < 2 ^ 32
      → length (events e rs) < 2 ^ 60 → All (Accepts e) rs
      → read_packet (layout_of e names (ByTime frequency)) (packet_around uuid (Some span) missed cpu (events e rs) ++ rest)
      ≡ Some (packet_of e names (ByTime frequency) uuid (Some span) missed cpu rs, rest)

  -- the packets of 1,024 bytes of these records are read as the records that each has, between the stamps of its first and of its last by time, and each
  -- tells what was missed
  abbrev pub FilledPacketsReadBack : Form → Type 0
  FilledPacketsReadBack form = (uuid : List ℕ) (missed cpu : ℕ) (rs : List Record) → (is_timed form ≡ true → e.header ≡ header.Two)
      → length uuid ≡ 16 → missed < 2 ^ 64 → cpu < 2 ^ 32 → All (Accepts e) rs
      → read_file (layout_of e names form) (filled_packets (is_timed form) e uuid missed cpu rs)
      ≡ Some (map (λ part. packet_of e names form uuid (span_by (is_timed form) part) missed cpu part) (portions (is_timed form) e rs))

  -- a file of batches as they were taken tells all their records in order, and what was missed up to the last
  abbrev pub TakenFilesReadBack : Type 0
  TakenFilesReadBack = (uuid : List ℕ) (cpu : ℕ) (batches : List (ℕ × List Record)) → length uuid ≡ 16 → cpu < 2 ^ 32
      → All (λ b. (b.0 < 2 ^ 64) × (length (events e b.1) < 2 ^ 60) × All (Accepts e) b.1) batches
      → FileTells (layout_of e names AsTaken) uuid cpu (flat_map (λ b. packet uuid e b.0 cpu b.1) batches)
      (map (event_of e names AsTaken) (flat_map (λ b. b.1) batches)) (last_missed batches)

  -- so does one in whose packets of 1,024 bytes they are
  abbrev pub FilledFilesReadBack : Type 0
  FilledFilesReadBack = (uuid : List ℕ) (cpu : ℕ) (batches : List (ℕ × List Record)) → length uuid ≡ 16 → cpu < 2 ^ 32
      → All (λ b. (b.0 < 2 ^ 64) × All (Accepts e) b.1) batches
      → FileTells (layout_of e names AsTaken) uuid cpu (flat_map (λ b. filled_packets false e uuid b.0 cpu b.1) batches)
      (map (event_of e names AsTaken) (flat_map (λ b. b.1) batches)) (last_missed batches)

  -- a file of records by time tells them in order, and what was missed
  abbrev pub TimedFilesReadBack : Type 0
  TimedFilesReadBack = (frequency : ℕ) (uuid : List ℕ) (missed cpu : ℕ) (rs : List Record)
      → e.header ≡ header.Two → length uuid ≡ 16 → missed < 2 ^ 64 → cpu < 2 ^ 32 → All (Accepts e) rs
      → FileTells (layout_of e names (ByTime frequency)) uuid cpu (timed_packets uuid e missed cpu rs) (map (event_of e names (ByTime frequency)) rs) missed

  -- the packets of a batch's runs tell in each file the records that go to it, in order, and in the first alone what was missed
  abbrev pub RunsReadBack : Type 0
  RunsReadBack = (frequency : ℕ) (uuid : List ℕ) (missed cpu : ℕ) (rs : List Record) (file : ℕ) (lasts new : List ℕ) (from to : ℕ) (runs : List Run)
      → e.header ≡ header.Two → length uuid ≡ 16 → missed < 2 ^ 64 → cpu < 2 ^ 32 → All (Accepts e) rs → AreRuns lasts rs from runs to new
      → PartTells (layout_of e names (ByTime frequency)) uuid cpu (file_bytes file (run_packets uuid e missed cpu rs from runs))
      (map (event_of e names (ByTime frequency)) (of_file file (run_files from runs) (run_records rs from runs))) (told_by file missed)

  -- two packets without events tell what was missed
  abbrev pub MissedReadsBack : Type 0
  MissedReadsBack = (frequency : ℕ) (uuid : List ℕ) (before missed cpu : ℕ) (lasts : List ℕ)
      → e.header ≡ header.Two → length uuid ≡ 16 → before < 2 ^ 64 → missed < 2 ^ 64 → cpu < 2 ^ 32 → slice_index lasts 0 < 2 ^ 64
      → FileTells (layout_of e names (ByTime frequency)) uuid cpu (missed_packets uuid before missed cpu lasts) [] missed
