-- Cited by calls. What a sink keeps of the batches that it gets.
use Rattle.std.specs.{List.enumerate_from, List.flat_map, Option.option_map_or, Prelude.ℕ, Prelude.◌≡◌, Prelude.◌==◌, Prelude.◌-◌, Prelude.Bool, Prelude.false, Prelude.List, Prelude.[], Prelude.◌∷◌}
use Rattle.std.specs.{Prelude.◌++◌, Prelude.length, Prelude.replicate, Prelude.slice_get, Prelude.Option, Prelude.Some, Prelude.None, Prelude.if◌then◌else◌}
use Rattle.dspec.specs.Words.Outside.{Record, EnabledRows, enabled, table_shape, table_accepts, table_text, BufferText, StopsAt, Batch}
use Rattle.dspec.specs.declared.record_sink.RecordSinkFault.{RecordSinkFault, TheVariants.Text, TheVariants.Memory}

-- the records, in the order in which they came, of each the CPU, and why not all were kept
pub record SinkRecords : Type 0 where
  pub records : List Record
  pub cpus : List ℕ
  pub fault : Option RecordSinkFault

abbrev pub no_records : SinkRecords
no_records = record { records = []; cpus = []; fault = None }

-- whether the record at a place, counted from 0, is of this CPU
abbrev pub is_made_by : ℕ → List ℕ → ℕ → Bool
is_made_by cpu cpus place = option_map_or (λ c. c == cpu) (slice_get cpus place) false

-- that record, where it is of this CPU
abbrev pub record_of_cpu : ℕ → List ℕ → ℕ × Record → List Record
record_of_cpu cpu cpus p = if is_made_by cpu cpus p.0 then p.1 ∷ [] else []

-- the records of this CPU, in the order in which they came
abbrev pub records_of_cpu : ℕ → SinkRecords → List Record
records_of_cpu cpu kept = flat_map (record_of_cpu cpu kept.cpus) (enumerate_from 0 kept.records)

module _ (e : EnabledRows) where
  -- the records of the text came after those before
  pub record AddsText (text : List ℕ) (before after : List Record) : Type 0 where
    pub added : List Record
    pub is_text : BufferText (table_shape e.header (enabled e.rows)) (table_accepts e.header (enabled e.rows)) (table_text e.header (enabled e.rows)) 0 text added
    pub grown : after ≡ before ++ added

  -- why the records of a batch weren't kept: it has a text that stops there, or memory was wanting
  abbrev pub IsRecordSinkFault : Batch → RecordSinkFault → Type 0
  IsRecordSinkFault b (Text cpu fault) =
      (cpu ≡ b.cpu) × StopsAt (table_shape e.header (enabled e.rows)) (table_accepts e.header (enabled e.rows)) (table_text e.header (enabled e.rows)) b.buffer.text fault
  IsRecordSinkFault b Memory = Unit

  -- All records of the batch are kept, or why not; after a fault nothing more is.
  pub record KeepsBatch (old : SinkRecords) (b : Batch) (new : SinkRecords) : Type 0 where
    pub stopped : (fault : RecordSinkFault) → old.fault ≡ Some fault → new ≡ old
    pub kept : old.fault ≡ None → new.fault ≡ None → AddsText b.buffer.text old.records new.records
    pub cpus : old.fault ≡ None → new.fault ≡ None → new.cpus ≡ old.cpus ++ replicate (length new.records - length old.records) b.cpu
    pub why : (fault : RecordSinkFault) → old.fault ≡ None → new.fault ≡ Some fault → IsRecordSinkFault b fault
