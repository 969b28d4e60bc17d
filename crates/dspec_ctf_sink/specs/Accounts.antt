-- Cited by calls. Nothing is lost uncounted.
use Rattle.std.specs.Prelude.{ℕ, ◌≡◌, ◌≢◌, ◌<◌, ◌+◌, ◌^◌, ◌⊎◌, List, length, slice_index, Some}
use Rattle.dspec_ctf_sink.specs.{Timed.AddsBatch, Timed.TimedTracing, Words.Outside.Record, Words.Outside.EnabledRows, Words.Outside.IsText, Words.Outside.Batch, Writing.AddsPacket, Writing.Tracing}
use Rattle.dspec_ctf_sink.specs.{declared.losing.Loss.Loss}

-- how many events of a CPU a trace counts as missed so far
abbrev pub missed_on : Tracing → ℕ → ℕ
missed_on t cpu = slice_index t.missed cpu

-- the bytes of a batch are the text of records
abbrev pub HasText : EnabledRows → Batch → Type 0
HasText e b = (rs : List Record) × IsText e b.buffer.text rs

-- what each CPU missed before: of the batch's CPU it is, with the batch's drops and its records, a number of 64 bits
abbrev pub IsCountable : EnabledRows → Batch → List ℕ → Type 0
IsCountable e b missed = (rs : List Record) → IsText e b.buffer.text rs → slice_index missed b.cpu + b.drops + length rs < 2 ^ 64

-- What came of a batch: its records are in the packet that was written of it, or none of them is. Those in the packet, and what is counted as
-- missed then, are together what was counted before, the batch's drops, and its records. Of other CPUs the count stays.
pub record Accounts (e : EnabledRows) (old : Tracing) (b : Batch) (new : Tracing) : Type 0 where
  pub read : List Record
  pub is_text : IsText e b.buffer.text read
  pub packed : ℕ
  pub packed_is : (AddsPacket e old b new × (packed ≡ length read)) ⊎ (packed ≡ 0)
  pub sum : packed + missed_on new b.cpu ≡ missed_on old b.cpu + b.drops + length read
  pub others : (c : ℕ) → c ≢ b.cpu → missed_on new c ≡ missed_on old c

-- The same by time: the records of a batch that aren't lost are in the packets that were written.
pub record TimedAccounts (e : EnabledRows) (old : TimedTracing) (b : Batch) (new : TimedTracing) : Type 0 where
  pub read : List Record
  pub is_text : IsText e b.buffer.text read
  pub packed : ℕ
  pub packed_is : (AddsBatch e old b new × (packed ≡ length read)) ⊎ ((loss : Loss) × ((new.last ≡ Some loss) × (packed + loss.records ≡ length read)))
  pub sum : packed + slice_index new.missed b.cpu ≡ slice_index old.missed b.cpu + b.drops + length read
  pub others : (c : ℕ) → c ≢ b.cpu → slice_index new.missed c ≡ slice_index old.missed c
