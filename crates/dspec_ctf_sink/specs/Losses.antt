-- Cited by calls. What isn't written of a trace is counted.
use Rattle.std.specs.Prelude.{ℕ, ◌≡◌, ◌+◌, ◌-◌, ◌^◌, ◌⊎◌, min, List, length, Option, Some, None, slice_index, slice_set}
use Rattle.dspec_ctf_sink.specs.{Words.Outside.Record, Words.Outside.EnabledRows, Words.Outside.IsText, Words.Outside.Batch, declared.losing.Loss.Loss}

-- a number as far as 64 bits count
abbrev pub capped : ℕ → ℕ
capped n = min n (2 ^ 64 - 1)

-- so many records a batch has: those of its text; where it is the text of none, as many as its buffer says
abbrev pub HasSoManyRecords : EnabledRows → Batch → ℕ → Type 0
HasSoManyRecords e b n =
    ((rs : List Record) × (IsText e b.buffer.text rs × (n ≡ capped (length rs))))
    ⊎ (((rs : List Record) → IsText e b.buffer.text rs → ⊥) × (n ≡ b.buffer.count))

-- how many events each CPU missed, where this one missed so many more
abbrev pub missed_more : List ℕ → ℕ → ℕ → List ℕ
missed_more missed cpu n = slice_set missed cpu (capped (slice_index missed cpu + n))

-- what was lost in all, with one loss more: the first says where and why, and the records are summed
abbrev pub lost_more : Option Loss → Loss → Option Loss
lost_more None loss = Some loss
lost_more (Some first) loss = Some (record first { records = capped (first.records + loss.records) })
