-- Serves proofs. A session that ran into a folder which was begun, and to a sink beside it.
use Rattle.std.specs.Prelude.{ℕ, ◌≡◌, ◌<◌, ◌^◌, List, Ok, Result, slice_index}
use Rattle.dspec_trace_reading.specs.Words.Outside.{EnabledRows, CallsMade, IsOneListWith, WorkedOn, one_for, missed_on, TellsUntold, written_in, TimedTracing, Tracing, Config, Batch, Left, Both}
use Rattle.dspec_trace_reading.specs.Words.Outside.{Telling}
use Rattle.dspec_trace_reading.specs.declared.{fault.ToFolderFault.ToFolderFault, folder_trace.FolderTrace.FolderTrace, running.Begun.Begun, running.Ran.Ran}

-- two sinks got a batch
abbrev pub BothGet : {K T : Type 0} → (K → Batch → K → Type 0) → (T → Batch → T → Type 0) → Both K (Telling T) → Batch → Both K (Telling T) → Type 0
BothGet gets sees a b c = gets a.first b c.first × sees a.second.sink b c.second.sink

module _ {T : Type 0} (sees : T → Batch → T → Type 0) where
  -- a session of these enablings was traced, and its batches went to a sink and into the folder, whose end was told
  pub record RanInto {K : Type 0} (gets : K → Batch → K → Type 0) (does : ℕ → CallsMade → CallsMade → Type 0) (e : EnabledRows) (k : Config) (old : K) (begun : Telling T) (left : List Left)
      (ended : T) (new : K) : Type 0 where
    pub mid : Both K (Telling T)
    pub one : IsOneListWith e (BothGet gets sees) does k (record { first = old; second = begun }) left mid
    pub first : mid.first ≡ new
    pub tells : TellsUntold sees left mid.second.sink ended

  -- and its folder was the one that was begun so
  abbrev pub RanBegun : {K : Type 0} → (K → Batch → K → Type 0) → (ℕ → CallsMade → CallsMade → Type 0) → EnabledRows → Config → K → Result (Begun T) ToFolderFault → Ran T → K → Type 0
  RanBegun gets does e k old begun r new = (b : Begun T) × ((begun ≡ Ok b) × (r.uuid ≡ b.at_end.uuid) × RanInto gets does e k old b.sink r.closed r.sink new)

  -- the same of workers, which came back so
  abbrev pub RanWorkers : {K W : Type 0} → (K → Batch → K → Type 0) → (ℕ → W → CallsMade → W → CallsMade → Type 0) → EnabledRows → Config → List W → List W → K
      → Result (Begun T) ToFolderFault → Ran T → K → Type 0
  RanWorkers gets does e k workers back old begun r new = RanBegun gets (WorkedOn does workers back) e (one_for workers k) old begun r new

-- what came back of a folder is what its sink had, which counts with 64 bits
pub record IsOfTrace (r : Ran Tracing) (t : FolderTrace) : Type 0 where
  pub closed : t.closed ≡ r.closed
  pub uuid : t.uuid ≡ r.uuid
  pub loses : r.sink.lost ≡ t.lost
  pub puts : r.sink.written ≡ written_in t.folder
  pub counts : (c : ℕ) → missed_on r.sink c < 2 ^ 64

pub record IsOfTimedTrace (r : Ran TimedTracing) (t : FolderTrace) : Type 0 where
  pub closed : t.closed ≡ r.closed
  pub uuid : t.uuid ≡ r.uuid
  pub loses : r.sink.lost ≡ t.lost
  pub puts : r.sink.written ≡ written_in t.folder
  pub counts : (c : ℕ) → slice_index r.sink.missed c < 2 ^ 64
