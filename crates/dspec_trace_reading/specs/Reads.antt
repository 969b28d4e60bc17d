-- Cited by calls. What is read of a folder into which a session was traced, as its batches were taken or by time.
use Rattle.std.specs.Prelude.{ℕ, ◌≡◌, ◌<◌, ◌≤◌, ◌+◌, List, slice_get, codes, Option, Some}
use Rattle.dspec_trace_reading.specs.AsTaken.{AreKept, ReadsFile, drops_carried}
use Rattle.dspec_trace_reading.specs.ByTime.{AreKeptInFront, ReadsFiles}
use Rattle.dspec_trace_reading.specs.Words.Outside.{Record, EnabledRows, layout_of, read_metadata, FileWrite, file_of, Batch, Left, Form, AsTaken, ByTime, Names}

-- a CPU's file is read so, or its files by time
abbrev pub Reads : Form → List ℕ → EnabledRows → Names → ℕ → List Record → ℕ → List FileWrite → Type 0
Reads AsTaken = ReadsFile
Reads (ByTime hertz) = λ uuid e names c stream missed writes. ReadsFiles uuid e names hertz c stream missed writes

-- these records are kept of a CPU's batches, and so many are lost
abbrev pub KeptOf : Form → EnabledRows → List Batch → List Record → ℕ → Type 0
KeptOf AsTaken = AreKept
KeptOf (ByTime hertz) = AreKeptInFront

-- It is known what the folder was asked for. What that leaves of the file `metadata` is read as the layout of these enablings and names; and what it leaves of a
-- CPU as the records that came out of that CPU, with as many missed as the CPU's batches carried drops.
pub record ReadsBack (form : Form) (uuid : List ℕ) (e : EnabledRows) (names : Names) (left : List Left)
    (seen : (c : ℕ) (l : Left) → slice_get left c ≡ Some l → List Record) (batches : ℕ → List Batch) (written : Option (List FileWrite)) : Type 0 where
  pub writes : List FileWrite
  pub asked : written ≡ Some writes
  pub metadata : read_metadata (file_of (codes "metadata") writes) ≡ Some (layout_of e names form)
  pub streams : (c : ℕ) (l : Left) → c < 64 → (there : slice_get left c ≡ Some l) → Reads form uuid e names c (seen c l there) (drops_carried (batches c)) writes

-- ---- where some of it couldn't be written

-- What is kept of a CPU's batches is read, with what the trace told as missed; and what it counted as missed, which would be told next, is what the batches
-- carried as drops and what is lost.
pub record ReadsKept (form : Form) (uuid : List ℕ) (e : EnabledRows) (names : Names) (c : ℕ) (batches : List Batch) (writes : List FileWrite) (told missed : ℕ) : Type 0 where
  pub kept : List Record
  pub lost : ℕ
  pub are_kept : KeptOf form e batches kept lost
  pub tells : Reads form uuid e names c kept told writes
  pub counted : missed ≡ drops_carried batches + lost
  pub no_more : told ≤ missed

-- so it is of each CPU, and the metadata tells the layout
pub record ReadsAllKept (form : Form) (uuid : List ℕ) (e : EnabledRows) (names : Names) (left : List Left) (batches : ℕ → List Batch) (written : Option (List FileWrite))
    (told missed : ℕ → ℕ) : Type 0 where
  pub writes : List FileWrite
  pub asked : written ≡ Some writes
  pub metadata : read_metadata (file_of (codes "metadata") writes) ≡ Some (layout_of e names form)
  pub streams : (c : ℕ) (l : Left) → c < 64 → slice_get left c ≡ Some l → ReadsKept form uuid e names c (batches c) writes (told c) (missed c)
