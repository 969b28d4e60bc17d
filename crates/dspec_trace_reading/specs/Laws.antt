-- Cited by calls. What is read of a folder in which a session was traced, whatever its work did.
use Rattle.std.specs.Prelude.{ℕ, ◌≡◌, ◌<◌, ◌+◌, ◌^◌, List, Some, None, length}
use Rattle.dspec_trace_reading.specs.{AsTaken.told_on, Begun.BegunNew, Begun.TimedBegunNew, ByTime.missed_by_time, ByTime.told_by_time, Reads.ReadsAllKept, Reads.ReadsBack}
use Rattle.dspec_trace_reading.specs.{Words.Outside.EnabledRows, Words.Outside.enabled, Words.Outside.table_accepts, Words.Outside.table_shape, Words.Outside.table_text, Words.Outside.CallsMade}
use Rattle.dspec_trace_reading.specs.{Words.Outside.HasLists, Words.Outside.passed_from, Words.Outside.IsTraced, Words.Outside.HasNumbers, Words.Outside.missed_on, Words.Outside.GetsRuns}
use Rattle.dspec_trace_reading.specs.{Words.Outside.TimedTracing, Words.Outside.GetsPacket, Words.Outside.Tracing, Words.Outside.Config, Words.Outside.Batch, Words.Outside.Left}
use Rattle.dspec_trace_reading.specs.{Words.Outside.AsTaken, Words.Outside.ByTime, Words.Outside.Names, Words.Outside.Origin}

module _ (e : EnabledRows) (does : ℕ → CallsMade → CallsMade → Type 0) where
  -- a session of these enablings was traced, in which the work did that, and its sink went from one state to another
  abbrev pub TracedBy : {K : Type 0} → (K → Batch → K → Type 0) → Config → K → List Left → K → Type 0
  TracedBy gets k begun left ended =
      IsTraced gets does (table_shape e.header (enabled e.rows)) (table_accepts e.header (enabled e.rows)) (table_text e.header (enabled e.rows)) k begun left ended

  -- and one list of all deeds closes it
  abbrev pub ListedBy : {K : Type 0} → (K → Batch → K → Type 0) → Config → K → List Left → K → Type 0
  ListedBy gets k begun left ended =
      HasLists gets (table_shape e.header (enabled e.rows)) (table_accepts e.header (enabled e.rows)) (table_text e.header (enabled e.rows)) k begun left ended

  -- It was traced into a folder that had no file, as its batches were taken, and nothing was lost: the folder is read as each CPU's stream.
  abbrev pub TakenIsRead : Type 0
  TakenIsRead = (origin : Origin) (names : Names) (k : Config) (begun ended : Tracing) (left : List Left) → BegunNew origin e names begun
      → (t : TracedBy (GetsPacket e) k begun left ended) → ListedBy (GetsPacket e) k begun left ended → ended.lost ≡ None
      → length origin.uuid ≡ 16 → HasNumbers origin AsTaken e names → ((c : ℕ) → missed_on ended c < 2 ^ 64)
      → ReadsBack AsTaken origin.uuid e names left (λ c l there. (t.promised.each c l there).seen) (λ c. passed_from c t.passed) ended.written

  -- Some of it may have been lost: the folder is read as each CPU's stream without the batches that were.
  abbrev pub KeptIsRead : Type 0
  KeptIsRead = (origin : Origin) (names : Names) (k : Config) (begun ended : Tracing) (left : List Left) → BegunNew origin e names begun
      → (t : TracedBy (GetsPacket e) k begun left ended) → ListedBy (GetsPacket e) k begun left ended
      → length origin.uuid ≡ 16 → HasNumbers origin AsTaken e names → ((c : ℕ) → missed_on ended c + 1 < 2 ^ 64)
      → ReadsAllKept AsTaken origin.uuid e names left (λ c. passed_from c t.passed) ended.written (told_on ended) (missed_on ended)

  -- It was traced into a folder that had no file, by time, and nothing was lost: the folder is read as each CPU's stream, shared out to its files.
  abbrev pub TimedIsRead : Type 0
  TimedIsRead = (origin : Origin) (hertz : ℕ) (names : Names) (k : Config) (begun ended : TimedTracing) (left : List Left) → TimedBegunNew origin hertz e names begun
      → (t : TracedBy (GetsRuns e) k begun left ended) → ListedBy (GetsRuns e) k begun left ended → ended.lost ≡ None
      → length origin.uuid ≡ 16 → HasNumbers origin (ByTime hertz) e names → ((c : ℕ) → missed_by_time ended c < 2 ^ 64)
      → ReadsBack (ByTime hertz) origin.uuid e names left (λ c l there. (t.promised.each c l there).seen) (λ c. passed_from c t.passed) ended.written

  -- Some of it may have been lost: the folder is read as each CPU's stream without the records of its batches that were.
  abbrev pub TimedKeptIsRead : Type 0
  TimedKeptIsRead = (origin : Origin) (hertz : ℕ) (names : Names) (k : Config) (begun ended : TimedTracing) (left : List Left) → TimedBegunNew origin hertz e names begun
      → (t : TracedBy (GetsRuns e) k begun left ended) → ListedBy (GetsRuns e) k begun left ended
      → length origin.uuid ≡ 16 → HasNumbers origin (ByTime hertz) e names → ((c : ℕ) → missed_by_time ended c + 1 < 2 ^ 64)
      → ReadsAllKept (ByTime hertz) origin.uuid e names left (λ c. passed_from c t.passed) ended.written (told_by_time ended) (missed_by_time ended)
