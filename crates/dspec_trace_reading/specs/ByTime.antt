-- Cited by calls. What is read of a folder that was written by time while a session ran.
use Rattle.std.specs.Prelude.{ℕ, ◌≡◌, ◌<◌, ◌+◌, slice_index, All, List, [], ◌∷◌, ◌++◌, length, map}
use Rattle.dspec_trace_reading.specs.Words.Outside.{Record, EnabledRows, IsText, of_file, told_by, FileTells, event_of, layout_of, TimedTracing, row_name, FileWrite, file_of, Batch, ByTime, Names}

-- how many events a CPU missed so far
abbrev pub missed_by_time : TimedTracing → ℕ → ℕ
missed_by_time t cpu = slice_index t.missed cpu

-- A CPU's files: each record of its stream went to one of 64 files. What these writes leave of a file is read as the events of exactly the records that
-- went to it, in order, of this trace and this CPU; and the first file alone tells what was missed.
pub record ReadsFiles (uuid : List ℕ) (e : EnabledRows) (names : Names) (hertz c : ℕ) (stream : List Record) (missed : ℕ) (writes : List FileWrite) : Type 0 where
  pub files : List ℕ
  pub each : length files ≡ length stream
  pub few : All (λ file. file < 64) files
  pub tells : (file : ℕ) → file < 64 → FileTells (layout_of e names (ByTime hertz)) uuid c (file_of (row_name c file) writes)
      (map (event_of e names (ByTime hertz)) (of_file file files stream)) (told_by file missed)

-- of each of these batches the first records, however many, are kept, and the others are lost: those that are kept, in order, and how many are lost
abbrev pub AreKeptInFront : EnabledRows → List Batch → List Record → ℕ → Type 0
AreKeptInFront e [] kept lost = (kept ≡ []) × (lost ≡ 0)
AreKeptInFront e (b ∷ bs) kept lost =
    (front : List Record) × (back : List Record) × (more : List Record) × (rest : ℕ) × IsText e b.buffer.text (front ++ back) × AreKeptInFront e bs more rest
    × (kept ≡ front ++ more) × (lost ≡ length back + rest)

-- how many events of a CPU its first file tells as missed
abbrev pub told_by_time : TimedTracing → ℕ → ℕ
told_by_time t cpu = slice_index t.told cpu
