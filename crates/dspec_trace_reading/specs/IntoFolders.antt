-- Cited by calls. A session that was traced into a folder, and what is read of that.
use Rattle.std.specs.Prelude.{ℕ, ◌≡◌, List, None}
use Rattle.dspec_trace_reading.specs.{AsTaken.AreKept, AsTaken.ReadsFile, ByTime.AreKeptInFront, ByTime.ReadsFiles, Folders.IsInFolder, Words.Outside.Declared, Words.Outside.CallsMade}
use Rattle.dspec_trace_reading.specs.{Words.Outside.EnabledRows, Words.Outside.IsOneListWith, Words.Outside.Left, Words.Outside.IsKept, Words.Outside.enabled, Words.Outside.table_accepts}
use Rattle.dspec_trace_reading.specs.{Words.Outside.table_shape, Words.Outside.table_text, Words.Outside.WorkedOn, Words.Outside.one_for, Words.Outside.written_in, Words.Outside.Config}
use Rattle.dspec_trace_reading.specs.{Words.Outside.Batch, Words.Outside.AsTaken, Words.Outside.ByTime, declared.folder_trace.FolderPlace.FolderPlace, declared.folder_trace.FolderTrace.FolderTrace}
use Rattle.dspec_trace_reading.specs.{declared.folder_trace.StampClock.StampClock}

abbrev pub IsTracedInto : {K : Type 0} → (K → Batch → K → Type 0) → (ℕ → CallsMade → CallsMade → Type 0) → Declared → FolderPlace → Config → K → FolderTrace → K → Type 0
IsTracedInto gets does p place k old t new =
    IsInFolder gets does p.schema AsTaken None (AreKept p.schema) (λ uuid. ReadsFile uuid p.schema) p.names place.path.now place.name.now k old t.closed new t.uuid t.lost (written_in t.folder)

-- the same of workers, which came back so
abbrev pub AreTracedInto : {K W : Type 0} → (K → Batch → K → Type 0) → (ℕ → W → CallsMade → W → CallsMade → Type 0) → Declared → FolderPlace → Config → List W → List W → K → FolderTrace → K → Type 0
AreTracedInto gets does p place k workers back old t new = IsTracedInto gets (WorkedOn does workers back) p place (one_for workers k) old t new

-- the same of a folder that was written by time, by this clock
abbrev pub IsTimedInto : {K : Type 0} → (K → Batch → K → Type 0) → (ℕ → CallsMade → CallsMade → Type 0) → Declared → FolderPlace → StampClock → Config → K → FolderTrace → K → Type 0
IsTimedInto gets does p place clock k old t new =
    IsInFolder gets does p.schema (ByTime clock.hertz) clock.start (AreKeptInFront p.schema)
    (λ uuid names c stream missed writes. ReadsFiles uuid p.schema names clock.hertz c stream missed writes) p.names
    place.path.now place.name.now k old t.closed new t.uuid t.lost (written_in t.folder)

-- and of workers
abbrev pub AreTimedInto : {K W : Type 0} → (K → Batch → K → Type 0) → (ℕ → W → CallsMade → W → CallsMade → Type 0) → Declared → FolderPlace → StampClock → Config → List W → List W → K
    → FolderTrace → K → Type 0
AreTimedInto gets does p place clock k workers back old t new = IsTimedInto gets (WorkedOn does workers back) p place clock (one_for workers k) old t new

-- ---- by the list that closes the session

-- The page that the sink is promised is that of a session which one list of all deeds closes, of the same batches and calls. By that list each record had at each
-- moment a fate of which the decision was made by then, each deed has its reason, and nobody stopped the session.
abbrev pub IsByOneList : {K : Type 0} (gets : K → Batch → K → Type 0) (does : ℕ → CallsMade → CallsMade → Type 0) (e : EnabledRows) (k : Config) (old : K) (left : List Left) (new : K)
    → IsKept gets does (table_shape e.header (enabled e.rows)) (table_accepts e.header (enabled e.rows)) (table_text e.header (enabled e.rows)) k old left new → Type 0
IsByOneList gets does e k old left new kept =
    (one : IsOneListWith e gets does k old left new) × (kept.passed ≡ one.0.passed) × (kept.calls ≡ one.0.calls)

-- so it is of a session that was traced into a folder which is read so
abbrev pub IsOneTrace : {K : Type 0} → (K → Batch → K → Type 0) → (ℕ → CallsMade → CallsMade → Type 0) → Declared → FolderPlace → Config → K → FolderTrace → K → Type 0
IsOneTrace gets does p place k old t new =
    (read : IsTracedInto gets does p place k old t new) × IsByOneList gets does p.schema k old t.closed new read.kept

-- the same of workers
abbrev pub AreOneTrace : {K W : Type 0} → (K → Batch → K → Type 0) → (ℕ → W → CallsMade → W → CallsMade → Type 0) → Declared → FolderPlace → Config → List W → List W → K → FolderTrace → K → Type 0
AreOneTrace gets does p place k workers back old t new = IsOneTrace gets (WorkedOn does workers back) p place (one_for workers k) old t new

-- the same by time
abbrev pub IsOneTimed : {K : Type 0} → (K → Batch → K → Type 0) → (ℕ → CallsMade → CallsMade → Type 0) → Declared → FolderPlace → StampClock → Config → K → FolderTrace → K → Type 0
IsOneTimed gets does p place clock k old t new =
    (read : IsTimedInto gets does p place clock k old t new) × IsByOneList gets does p.schema k old t.closed new read.kept

-- and of workers
abbrev pub AreOneTimed : {K W : Type 0} → (K → Batch → K → Type 0) → (ℕ → W → CallsMade → W → CallsMade → Type 0) → Declared → FolderPlace → StampClock → Config → List W → List W → K
    → FolderTrace → K → Type 0
AreOneTimed gets does p place clock k workers back old t new = IsOneTimed gets (WorkedOn does workers back) p place clock (one_for workers k) old t new
