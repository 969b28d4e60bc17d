-- Cited by calls. What the end of a trace tells, beyond what batches told.
use Rattle.std.specs.Prelude.{ℕ, ◌≡◌, ◌+◌, ◌-◌, List, [], ◌∷◌}
use Rattle.dspec_ctf_sink.specs.{Losses.capped, Words.Outside.Report, Words.Outside.Batch, Words.Outside.Left}

-- So many records a CPU lost that its batches don't tell: records that had no room, in a principal buffer or a speculative one, and those of lost blocks;
-- less the reservations that were refused, which the batches tell as drops.
abbrev pub untold : Report → ℕ
untold r = capped (r.dropped + r.specdropped + r.lost) - r.drops

-- a batch without records
abbrev pub IsBare : Batch → Type 0
IsBare b = (b.buffer.text ≡ []) × (b.buffer.count ≡ 0)

-- a batch of this CPU without records, which tells so many drops
pub record IsTelling (cpu drops : ℕ) (b : Batch) : Type 0 where
  pub of : b.cpu ≡ cpu
  pub tells : b.drops ≡ drops
  pub bare : IsBare b

module _ {K : Type 0} (gets : K → Batch → K → Type 0) where
  -- a sink got a batch without records that tells what a CPU of this report lost beyond what its batches told
  pub record GetsTelling (cpu : ℕ) (report : Report) (old new : K) : Type 0 where
    pub batch : Batch
    pub is : IsTelling cpu (untold report) batch
    pub got : gets old batch new

  -- a sink got one for each of these CPUs, of which the first has this number
  abbrev pub GetsTellings : ℕ → List Left → K → K → Type 0
  GetsTellings c [] k l = k ≡ l
  GetsTellings c (x ∷ xs) k l = (m : K) × GetsTelling c x.report k m × GetsTellings (c + 1) xs m l

  -- a sink got one for each CPU of a closed session, CPU 0 first
  abbrev pub TellsUntold : List Left → K → K → Type 0
  TellsUntold left k l = GetsTellings 0 left k l
