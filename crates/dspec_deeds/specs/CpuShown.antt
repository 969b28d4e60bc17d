-- Cited by calls. What a CPU's side shows, read off the CPU's own deeds alone.
use Rattle.std.specs.Prelude.{ℕ, ◌≡◌, ◌≤◌, ◌<◌, ◌+◌, ◌-◌, ◌==◌, Bool, false, List, [], length, map, slice_get, Some}
use Rattle.dspec_deeds.specs.{History.is_among, History.callers, History.issue, History.present, History.ack, Marks.mark, Own.Sealing, Own.active, Own.batches, Own.calls, Own.contents}
use Rattle.dspec_deeds.specs.{Own.dropped_in, Own.growing, Own.held, Own.seals, Own.stream, Reports.missed_busy, Words.Outside.Record, Words.Outside.Piece, Words.Outside.one}
use Rattle.dspec_deeds.specs.{Words.Outside.Speculation, declared.config.Config.Config, declared.deed.Deed.Deed}

-- the last speculation of the slot that has the CPU as a caller; where none has, one in which the CPU holds nothing
abbrev pub last_called : ℕ → ℕ → List Deed → Speculation
last_called c s p = record { issue = mark c s p - 1; slot = s }

-- what a CPU's side is to show: numbers, of each slot the acknowledgement, the mark, the records in the speculative buffer and
-- how many were dropped from it, the pieces in the active principal buffer and the drops since the last Seal, what was accepted,
-- and the batches
pub record OwnState : Type 0 where
  pub calls : ℕ
  pub seals : ℕ
  pub missed_busy : Bool
  pub acks : ℕ → ℕ
  pub marks : ℕ → ℕ
  pub specdrops : ℕ → ℕ
  pub speculative : ℕ → List Record
  pub active : List Piece
  pub drops : ℕ
  pub accepted : List Record
  pub batches : List Sealing

abbrev pub own_side : ℕ → List Deed → OwnState
own_side c p = record {
  calls = calls c p;
  seals = seals c p;
  missed_busy = missed_busy c p;
  acks = λ s. ack c s p;
  marks = λ s. mark c s p;
  specdrops = λ s. dropped_in c (last_called c s p) p;
  speculative = λ s. contents (held c (last_called c s p) p);
  active = active c p;
  drops = (growing c p).drops;
  accepted = stream c p;
  batches = batches c p;
}

-- the numbers and the buffers of a CPU's side; the acknowledgement, mark, buffer and drops of slot s stand at place s - 1
pub record StateParts (B : Type 0) : Type 0 where
  pub calls : ℕ
  pub seals : ℕ
  pub missed_busy : Bool
  pub acks : List ℕ
  pub marks : List ℕ
  pub specdrops : List ℕ
  pub speculative : List B
  pub active : B
  pub drops : ℕ

module _ {B : Type 0} (HasPieces : ℕ → List Piece → B → Type 0) (k : Config) where
  -- each slot's buffer has these records, one by one
  abbrev pub ShowsSlots : (ℕ → List Record) → List B → Type 0
  ShowsSlots held bs = (s : ℕ) (b : B) → 1 ≤ s → s ≤ k.nspec → slice_get bs (s - 1) ≡ Some b → HasPieces k.specsize (map one (held s)) b

  -- a side of these numbers and buffers shows this; a buffer that has pieces is of the size asked for. Which of the batches
  -- it still has is each side's own matter
  pub record ShowsOwnState (x : OwnState) (side : StateParts B) : Type 0 where
    pub called : side.calls ≡ x.calls
    pub sealed : side.seals ≡ x.seals
    pub missed : side.missed_busy ≡ x.missed_busy
    pub ack_count : length side.acks ≡ k.nspec
    pub acks : (s : ℕ) → 1 ≤ s → s ≤ k.nspec → slice_get side.acks (s - 1) ≡ Some (x.acks s)
    pub mark_count : length side.marks ≡ k.nspec
    pub marks : (s : ℕ) → 1 ≤ s → s ≤ k.nspec → slice_get side.marks (s - 1) ≡ Some (x.marks s)
    pub specdrop_count : length side.specdrops ≡ k.nspec
    pub specdrops : (s : ℕ) → 1 ≤ s → s ≤ k.nspec → slice_get side.specdrops (s - 1) ≡ Some (x.specdrops s)
    pub buffer_count : length side.speculative ≡ k.nspec
    pub speculative : ShowsSlots x.speculative side.speculative
    pub principal : HasPieces k.bufsize x.active side.active
    pub drops : side.drops ≡ x.drops

-- what a CPU's own list tells of a slot's present speculation: whether the CPU is a caller, and what it holds
pub record TellsPresent (c s : ℕ) (h : List Deed) : Type 0 where
  pub caller : is_among c (callers (present s h) h) ≡ (mark c s h == issue s h + 1)
  pub bound : mark c s h ≤ issue s h + 1
  pub marked : mark c s h ≡ issue s h + 1 → last_called c s h ≡ present s h
  pub unmarked : (mark c s h == issue s h + 1) ≡ false → held c (present s h) h ≡ []
  pub older : (id : Speculation) → id.slot ≡ s → id.issue < issue s h → held c id h ≡ []
  pub holds : held c (last_called c s h) h ≡ held c (present s h) h
