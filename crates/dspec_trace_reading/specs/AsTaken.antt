-- Cited by calls. What is read of a folder that was written as a session's batches were taken.
use Rattle.std.specs.{List.AllByRecursion, Prelude.ℕ, Prelude.◌≡◌, Prelude.◌+◌, Prelude.◌⊎◌, Prelude.slice_index, Prelude.List, Prelude.[], Prelude.◌∷◌, Prelude.◌++◌, Prelude.length, Prelude.map}
use Rattle.dspec_trace_reading.specs.Words.Outside.{Record, EnabledRows, Passed, IsText, Tracing, FileTells, layout_of, event_of, FileWrite, file_of, cpu_name, AsTaken, Names, Batch}

-- the drops that these batches carry, together
abbrev pub drops_carried : List Batch → ℕ
drops_carried [] = 0
drops_carried (b ∷ bs) = b.drops + drops_carried bs

-- each batch has the number of the CPU that it came from
abbrev pub HaveNumbers : List Passed → Type 0
HaveNumbers passed = AllByRecursion (λ (x : Passed). x.batch.cpu ≡ x.from) passed

-- of each of these batches all records are kept, or all are lost: those that are kept, in order, and how many are lost
abbrev pub AreKept : EnabledRows → List Batch → List Record → ℕ → Type 0
AreKept e [] kept lost = (kept ≡ []) × (lost ≡ 0)
AreKept e (b ∷ bs) kept lost =
    (rs : List Record) × (more : List Record) × (rest : ℕ) × IsText e b.buffer.text rs × AreKept e bs more rest
    × (((kept ≡ rs ++ more) × (lost ≡ rest)) ⊎ ((kept ≡ more) × (lost ≡ length rs + rest)))

-- how many events of a CPU its file tells as missed
abbrev pub told_on : Tracing → ℕ → ℕ
told_on t cpu = slice_index t.told cpu

-- What these writes leave of a CPU's file is read as the events of exactly these records, in order, of this trace and this CPU, with so many missed.
abbrev pub ReadsFile : List ℕ → EnabledRows → Names → ℕ → List Record → ℕ → List FileWrite → Type 0
ReadsFile uuid e names c stream missed writes = FileTells (layout_of e names AsTaken) uuid c (file_of (cpu_name c) writes) (map (event_of e names AsTaken) stream) missed
