-- Cited by calls. The files of one CPU in a trace by time whose packets somebody else writes: what is known of them.
use Rattle.std.specs.Prelude.{ℕ, ◌≡◌, ◌-◌, ◌^◌, ◌<◌, ◌≤◌, min, All, IfSome, List, [], length, Option, None}
use Rattle.dspec_ctf.specs.{Streams.Accepts, Words.Outside.Record, Words.Outside.EnabledRows, declared.rows.Run.Run}
use Rattle.dspec_record.specs.declared.header.Header.TheVariants.{Two}

-- what batches and packets have room for, without memory being taken
pub record FilingRoom : Type 0 where
  -- so many records of a batch
  pub records : ℕ
  -- so many bytes that one call hands out
  pub bytes : ℕ
  -- so many bytes of the events of one packet
  pub body : ℕ

-- no room yet
abbrev pub no_room : FilingRoom
no_room = record { records = 0; bytes = 0; body = 0 }

-- Each packet that is handed out counts as written once the next `put` or `open` is made.
pub record CpuFiling : Type 0 where
  -- the trace's
  pub uuid : List ℕ
  -- the schema of all records
  pub schema : EnabledRows
  -- whose files these are
  pub cpu : ℕ
  -- of each file, by its number, the stamp of its last event
  pub lasts : List ℕ
  -- how many events the CPU missed so far
  pub missed : ℕ
  -- how many of these the packets tell that were handed out
  pub told : ℕ
  -- the same without the packet that was handed out last
  pub told_before : ℕ
  -- the records of the batch that is open
  pub records : List Record
  -- those before this place are written
  pub from : ℕ
  -- those from there up to this place are in the packet that was handed out last
  pub place : ℕ
  -- the run of which the next packet is, where it was found already
  pub run : Option Run
  -- what has room
  pub room : FilingRoom

-- a run of records from a place on, which are there
abbrev pub IsRunWithin : List Record → ℕ → Run → Type 0
IsRunWithin rs place r = (place < r.end) × (r.end ≤ length rs)

-- what is true of all files at all times
pub record IsSoundFiling (f : CpuFiling) : Type 0 where
  pub stamped : f.schema.header ≡ Two
  pub accepted : All (Accepts f.schema) f.records
  pub from_place : f.from ≤ f.place
  pub place_within : f.place ≤ length f.records
  pub run_within : IfSome f.run (IsRunWithin f.records f.place)

-- no packets yet, and no batch
abbrev pub no_packets : List ℕ → EnabledRows → ℕ → CpuFiling
no_packets uuid e cpu =
    record { uuid = uuid; schema = e; cpu = cpu; lasts = []; missed = 0; told = 0; told_before = 0; records = []; from = 0; place = 0; run = None; room = no_room }

-- a number as far as 64 bits count
abbrev pub as_counted : ℕ → ℕ
as_counted n = min n (2 ^ 64 - 1)

-- so many records of the batch are in no packet that was handed out
abbrev pub left : CpuFiling → ℕ
left f = length f.records - f.place

-- so many records of the batch aren't written, as long as the packet that was handed out last isn't
abbrev pub unwritten : CpuFiling → ℕ
unwritten f = length f.records - f.from
