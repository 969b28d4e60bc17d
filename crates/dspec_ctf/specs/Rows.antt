-- Cited by calls. A CPU's files in a trace by time that is written while it runs: which file each record goes to. What is known of a
-- CPU's files is a list: of each, by its number, the stamp of its last event.
use Rattle.std.specs.Prelude.{true, ◌≡◌, ◌≢◌, ◌<◌, ◌≤◌, ◌+◌, ◌-◌, ◌*◌, ◌/◌, ◌==◌, ◌⊎◌, ℕ, List, [], ◌∷◌, ◌++◌, Option, Some, None, length, map, replicate, slice_get, slice_index, slice_range}
use Rattle.std.specs.Prelude.{slice_set, filter, zip, if◌then◌else◌}
use Rattle.dspec_ctf.specs.{Filled.filled_around, Filled.filled_packets, Filled.filled_size, Streams.HasNoRecords, Words.Outside.Record, Words.Outside.EnabledRows, declared.rows.Run.Run}
use Rattle.dspec_ctf.specs.{declared.stream.PacketFault.PacketFault, declared.stream.PacketFault.TheVariants.Text, declared.stream.PacketFault.TheVariants.Missed}
use Rattle.dspec_ctf.specs.{declared.stream.PacketFault.TheVariants.TooLong, declared.stream.PacketFault.TheVariants.Clock, declared.stream.PacketFault.TheVariants.Memory}

-- Of the first n files that whose last stamp isn't above this one has the greatest, that of this number: of those that have the same
-- it is the first.
pub record IsLatestOf (lasts : List ℕ) (n stamp file : ℕ) : Type 0 where
  pub there : file < n
  pub not_above : slice_index lasts file ≤ stamp
  pub greatest : (other : ℕ) → other < n → slice_index lasts other ≤ stamp → slice_index lasts other ≤ slice_index lasts file
  pub first : (other : ℕ) → other < file → slice_index lasts other ≢ slice_index lasts file

-- the last stamps of the first n files are all above this one
abbrev pub AreAbove : List ℕ → ℕ → ℕ → Type 0
AreAbove lasts n stamp = (other : ℕ) → other < n → stamp < slice_index lasts other

-- what was found among the first n files
abbrev pub IsFoundOf : List ℕ → ℕ → ℕ → Option ℕ → Type 0
IsFoundOf lasts n stamp (Some file) = IsLatestOf lasts n stamp file
IsFoundOf lasts n stamp None = AreAbove lasts n stamp

-- Where a record with this stamp goes, and the last stamps then: of the files whose last stamp isn't above its own, to that with the
-- greatest; where there is none, to a new one after those that are there, of which there are 64 at most.
abbrev pub GoesToFile : List ℕ → ℕ → ℕ → List ℕ → Type 0
GoesToFile lasts stamp file new =
    (IsLatestOf lasts (length lasts) stamp file × (new ≡ slice_set lasts file stamp))
    ⊎ (AreAbove lasts (length lasts) stamp × (length lasts < 64) × (file ≡ length lasts) × (new ≡ lasts ++ stamp ∷ []))

-- a record with this stamp goes nowhere: there are 64 files, with last stamps above its own
abbrev pub GoesNowhere : List ℕ → ℕ → Type 0
GoesNowhere lasts stamp = AreAbove lasts (length lasts) stamp × (64 ≤ length lasts)

-- where each of these records goes, one after another, and the last stamps then
abbrev pub Spreads : List ℕ → List Record → List ℕ → List ℕ → Type 0
Spreads lasts [] [] new = new ≡ lasts
Spreads lasts [] (file ∷ files) new = ⊥
Spreads lasts (r ∷ rs) [] new = ⊥
Spreads lasts (r ∷ rs) (file ∷ files) new = (mid : List ℕ) × (GoesToFile lasts r.stamp file mid × Spreads mid rs files new)

-- the records of a file, where this is the file of each record
abbrev pub of_file : ℕ → List ℕ → List Record → List Record
of_file file files rs = map (λ p. p.1) (filter (λ p. p.0 == file) (zip files rs))

-- The run of these records from this place on: one or more go to one file, and the next, where there is one, to another or nowhere.
pub record IsFileRun (lasts : List ℕ) (rs : List Record) (place : ℕ) (run : Run) (new : List ℕ) : Type 0 where
  pub some : place < run.end
  pub within : run.end ≤ length rs
  pub goes : Spreads lasts (slice_range rs place run.end) (replicate (run.end - place) run.file) new
  pub whole : (r : Record) (after : List ℕ) → slice_get rs run.end ≡ Some r → GoesToFile new r.stamp run.file after → ⊥

-- what comes next of these records from this place on: a run, or nothing at their end
abbrev pub IsNextRun : List ℕ → List Record → ℕ → Option Run → List ℕ → Type 0
IsNextRun lasts rs place (Some run) new = IsFileRun lasts rs place run new
IsNextRun lasts rs place None new = (length rs ≤ place) × (new ≡ lasts)

-- why there is no run of these records from this place on: the one at this place goes nowhere. No memory is taken.
abbrev pub HasNoRun : List ℕ → List Record → ℕ → PacketFault → Type 0
HasNoRun lasts rs place (Clock number) = (number ≡ place) × ((r : Record) × ((slice_get rs place ≡ Some r) × GoesNowhere lasts r.stamp))
HasNoRun lasts rs place (Text fault) = ⊥
HasNoRun lasts rs place Missed = ⊥
HasNoRun lasts rs place TooLong = ⊥
HasNoRun lasts rs place Memory = ⊥

-- these are the runs of these records from one place to another, each after the one before it
abbrev pub AreRuns : List ℕ → List Record → ℕ → List Run → ℕ → List ℕ → Type 0
AreRuns lasts rs from [] to new = (to ≡ from) × (new ≡ lasts)
AreRuns lasts rs from (run ∷ runs) to new = (mid : List ℕ) × (IsFileRun lasts rs from run mid × AreRuns mid rs run.end runs to new)

-- the records of runs from a place on, one run's after another's
abbrev pub run_records : List Record → ℕ → List Run → List Record
run_records rs from [] = []
run_records rs from (run ∷ runs) = slice_range rs from run.end ++ run_records rs run.end runs

-- the file of each of them
abbrev pub run_files : ℕ → List Run → List ℕ
run_files from [] = []
run_files from (run ∷ runs) = replicate (run.end - from) run.file ++ run_files run.end runs

-- what a packet of this file tells of what its CPU missed: the first file's tell it, others' none
abbrev pub told_by : ℕ → ℕ → ℕ
told_by file missed = if file == 0 then missed else 0

module _ (uuid : List ℕ) (e : EnabledRows) (missed cpu : ℕ) where
  -- a file's packets of these records, each with the stamps of its first and of its last
  abbrev pub run_packet : ℕ → List Record → List ℕ
  run_packet file rs = filled_packets true e uuid (told_by file missed) cpu rs

  -- the packets of runs from a place on, each with the number of its file
  abbrev pub run_packets : List Record → ℕ → List Run → List (ℕ × List ℕ)
  run_packets rs from [] = []
  run_packets rs from (run ∷ runs) = (run.file, run_packet run.file (slice_range rs from run.end)) ∷ run_packets rs run.end runs

-- the most records that a text of so many bytes has, where each has a stamp: then it has 12 bytes at least
abbrev pub most_records : ℕ → ℕ
most_records size = size / 12

-- The most bytes of the packets of one run, or of what tells what was missed, where a text has so many bytes: no event is longer than its record's text,
-- and each packet but the last has 881 bytes of events or more, since with 76 bytes more, the most of an event, it would be full.
abbrev pub most_bytes : ℕ → ℕ
most_bytes size = (size / 881 + 2) * filled_size

-- why the records of a text aren't in a list that has room for so many: it isn't one, or may have more, and memory was wanting
abbrev pub HasNoRoomFor : EnabledRows → List ℕ → ℕ → PacketFault → Type 0
HasNoRoomFor e text room (Text fault) = HasNoRecords e text (Text fault)
HasNoRoomFor e text room Memory = room < most_records (length text)
HasNoRoomFor e text room Missed = ⊥
HasNoRoomFor e text room TooLong = ⊥
HasNoRoomFor e text room (Clock place) = ⊥

-- a packet without events at this stamp
abbrev pub silent_packet : List ℕ → ℕ → ℕ → ℕ → List ℕ
silent_packet uuid missed cpu stamp = filled_around uuid (Some (stamp, stamp)) missed cpu []

-- Two packets of a CPU's first file, without events, at its last stamp, or at 0 where it has none: what was missed before, and what
-- was missed by now. Tools tell the difference of two packets.
abbrev pub missed_packets : List ℕ → ℕ → ℕ → ℕ → List ℕ → List ℕ
missed_packets uuid before missed cpu lasts = silent_packet uuid before cpu (slice_index lasts 0) ++ silent_packet uuid missed cpu (slice_index lasts 0)
