-- Cited by calls. What is read of a folder into which a whole session was traced by one call.
use Rattle.std.specs.Option.{option_map_or}
use Rattle.std.specs.Prelude.{ℕ, zero, suc, ◌≡◌, ◌≢◌, ◌<◌, ◌≤◌, ◌+◌, ◌^◌, List, [], ◌∷◌, length, slice_get, codes, Option, Some, None, IfSome, IsSome}
use Rattle.dspec_trace_reading.specs.Words.Outside.{Record, EnabledRows, enabled, table_accepts, table_shape, table_text, CallsMade, passed_from, IsKept, layout_of, read_metadata, untold, FileWrite}
use Rattle.dspec_trace_reading.specs.Words.Outside.{file_of, cpu_name, row_name, labels_at, event_fields, origin_text, made_at, path_of, Config, Report, Batch, Left, ProbeNames, Form, AsTaken}
use Rattle.dspec_trace_reading.specs.Words.Outside.{ByTime, Names, Numbered, Given, ClockStart, Origin, Loss}

-- the names are those of these probes
abbrev pub AreNamesOf : List ProbeNames → Names → Type 0
AreNamesOf ps Numbered = ⊥
AreNamesOf ps (Given ns) = ns.now ≡ ps

-- What is so of whatever probes there are in memory: there are less than 2 to the 64, each has at most eight fields, and no field has more labels than 64 bits
-- count.
pub record AreCountable (e : EnabledRows) (ps : List ProbeNames) : Type 0 where
  pub events : length e.rows < 2 ^ 64
  pub fields : (epid : ℕ) → length (event_fields e epid) ≤ 8
  pub labels : (probe place : ℕ) → option_map_or (λ n. length (labels_at n place)) (slice_get ps probe) 0 ≤ 2 ^ 64

-- so many records a CPU of this report missed: one for each reservation that was refused, and what it lost besides
abbrev pub missed_in : Report → ℕ
missed_in r = r.drops + untold r

-- so many records the CPUs of all these reports accepted and missed
abbrev pub all_counted : List Left → ℕ
all_counted [] = 0
all_counted (l ∷ left) = l.report.accepted + missed_in l.report + all_counted left

-- so many records weren't written, as a trace answers
abbrev pub lost_records : Option Loss → ℕ
lost_records None = 0
lost_records (Some loss) = loss.records

-- so many these CPUs lost together, from CPU 0 on, by how many each lost
abbrev pub lost_of : (ℕ → ℕ) → ℕ → ℕ
lost_of lost_on zero = 0
lost_of lost_on (suc c) = lost_on c + lost_of lost_on c

-- an origin tells of a trace with this uuid, which a process of this name writes, and whose clock began so
pub record TellsProgram (origin : Origin) (uuid name : List ℕ) (start : Option ClockStart) : Type 0 where
  pub trace : origin.uuid ≡ uuid
  pub told : IsSome origin.process
  pub named : IfSome origin.process (λ p. p.name.now ≡ name)
  pub began : origin.start ≡ start

-- this is the name of a file of a CPU, in a trace of this form
abbrev pub IsFileOf : Form → ℕ → List ℕ → Type 0
IsFileOf AsTaken c name = cpu_name c ≡ name
IsFileOf (ByTime hertz) c name = (file : ℕ) × (row_name c file ≡ name)

-- These records are kept of a CPU's batches and read, where its report counts so many as missed and so many are lost: as missed is told no more than both.
pub record ReadsPart (keeps : List Batch → List Record → ℕ → Type 0) (reads : List Record → ℕ → List FileWrite → Type 0) (batches : List Batch) (missed lost : ℕ) (writes : List FileWrite)
    : Type 0 where
  pub kept : List Record
  pub are_kept : keeps batches kept lost
  pub told : ℕ
  pub tells : reads kept told writes
  pub no_more : told ≤ missed + lost

module _ {K : Type 0} (gets : K → Batch → K → Type 0) (does : ℕ → CallsMade → CallsMade → Type 0) (e : EnabledRows) where
  -- A session of these enablings was traced, and its batches went to a sink and into the folder of this path (`at`), which was asked for these writes. The
  -- sink is promised what `trace` promises (`kept`). What the writes leave of the file `metadata` is the text of these enablings and names, by time with a
  -- clock of so many ticks a second (`text`), and of this trace, written by a program of this name, whose clock began so, where it has one (`whose`); it
  -- is read as their layout. Of any other name but those of these CPUs' files nothing was written (`only`). Where nothing was lost, what they leave of
  -- each CPU is read, by that layout, as the events of exactly the stream that the page promises of it, in order, of this trace and this CPU; and as
  -- missed is told what the CPU's report counts (`whole`). Where something was lost it is read as that stream without the batches that were, by time
  -- without the records of each batch from some record on, and as missed is told no more than that and them (`part`). So many records each CPU lost
  -- (`lost_on`), and together as many as the trace answers (`told`). Both are so unless so much was counted that 64 bits can't hold it.
  pub record IsInFolder (form : Form) (start : Option ClockStart) (keeps : List Batch → List Record → ℕ → Type 0) (reads : List ℕ → Names → ℕ → List Record → ℕ → List FileWrite → Type 0)
      (ps : List ProbeNames) (path name : List ℕ) (k : Config) (old : K) (left : List Left) (new : K) (uuid : List ℕ) (lost : Option Loss) (written : Option (List FileWrite)) : Type 0 where
    pub kept : IsKept gets does (table_shape e.header (enabled e.rows)) (table_accepts e.header (enabled e.rows)) (table_text e.header (enabled e.rows)) k old left new
    pub names : Names
    pub named : AreNamesOf ps names
    pub writes : List FileWrite
    pub asked : written ≡ Some writes
    pub at : path_of writes ≡ path
    pub made : (later : List FileWrite) × (writes ≡ made_at path ∷ later)
    pub origin : Origin
    pub whose : TellsProgram origin uuid name start
    pub text : file_of (codes "metadata") writes ≡ origin_text origin form e names
    pub metadata : AreCountable e ps → read_metadata (file_of (codes "metadata") writes) ≡ Some (layout_of e names form)
    pub only : (other : List ℕ) → other ≢ [] → other ≢ codes "metadata" → ((c : ℕ) → c < length left → IsFileOf form c other → ⊥) → file_of other writes ≡ []
    pub whole : lost ≡ None → (c : ℕ) (l : Left) (there : slice_get left c ≡ Some l) → reads uuid names c ((kept.page.each c l there).seen) (missed_in l.report) writes
    pub lost_on : ℕ → ℕ
    pub part : (c : ℕ) (l : Left) → slice_get left c ≡ Some l → l.report.accepted + missed_in l.report + 1 < 2 ^ 64
        → ReadsPart keeps (reads uuid names c) (passed_from c kept.passed) (missed_in l.report) (lost_on c) writes
    pub told : all_counted left + 1 < 2 ^ 64 → lost_records lost ≡ lost_of lost_on (length left)
