-- Cited by calls. What is read of the packets that a caller wrote of a CPU.
use Rattle.std.specs.Prelude.{ℕ, ◌≡◌, ◌<◌, ◌≤◌, ◌+◌, ◌-◌, All, List, [], ◌∷◌, ◌++◌, length, map, slice_range}
use Rattle.dspec_filing_reading.specs.Sessions.{FilingCall, all_told_missed, opened_texts}
use Rattle.dspec_filing_reading.specs.Words.Outside.{Record, EnabledRows, IsText, CpuFiling, unwritten, of_file, told_by, FileTells, file_bytes, event_of, layout_of, ByTime, Names}

-- of each of these texts the first records, however many, are kept, and the others are lost: those that are kept, in order, and how many are lost
abbrev pub AreFrontsKept : EnabledRows → List (List ℕ) → List Record → ℕ → Type 0
AreFrontsKept e [] kept lost = (kept ≡ []) × (lost ≡ 0)
AreFrontsKept e (text ∷ texts) kept lost =
    (front : List Record) × (back : List Record) × (more : List Record) × (rest : ℕ) × IsText e text (front ++ back) × AreFrontsKept e texts more rest
    × (kept ≡ front ++ more) × (lost ≡ length back + rest)

-- Packets of a CPU, each for one of 64 files. Each of these records went to one of them; the bytes of a file are read as the events of exactly the records
-- that went to it, in order, of this trace and this CPU; and the first file alone tells what was missed.
pub record ReadsPackets (uuid : List ℕ) (e : EnabledRows) (names : Names) (hertz cpu : ℕ) (packets : List (ℕ × List ℕ)) (stream : List Record) (told : ℕ) : Type 0 where
  pub few_files : All (λ (p : ℕ × List ℕ). p.0 < 64) packets
  pub files : List ℕ
  pub each : length files ≡ length stream
  pub few : All (λ file. file < 64) files
  pub tells : (file : ℕ) → FileTells (layout_of e names (ByTime hertz)) uuid cpu (file_bytes file packets)
      (map (event_of e names (ByTime hertz)) (of_file file files stream)) (told_by file told)

-- Packets that were handed out by these calls are read as the first records of each batch that was opened (`are_kept`), and the first file tells how many were
-- told as missed by then. Of the batch that is open those before `from` are kept: with more of it the records go on there (`goes_on`), and those that aren't
-- written yet aren't lost. What was missed is what the calls told as missed and the records that are lost: of batches before all others, and of the open one
-- those after the place where its rest was lost (`counted`).
pub record ReadsWritten (uuid : List ℕ) (e : EnabledRows) (names : Names) (hertz cpu : ℕ) (calls : List FilingCall) (packets : List (ℕ × List ℕ)) (f : CpuFiling) : Type 0 where
  pub kept : List Record
  pub lost : ℕ
  pub are_kept : AreFrontsKept e (opened_texts calls) kept (lost + unwritten f)
  pub goes_on : (to : ℕ) → f.from ≤ to → to ≤ length f.records → AreFrontsKept e (opened_texts calls) (kept ++ slice_range f.records f.from to) (lost + (length f.records - to))
  pub reads : ReadsPackets uuid e names hertz cpu packets kept f.told_before
  pub counted : f.missed ≡ all_told_missed calls + lost
  pub no_more : f.told_before ≤ f.missed
