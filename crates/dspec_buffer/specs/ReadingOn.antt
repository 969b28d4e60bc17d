-- Serves proofs. One step of reading: past a padding word, and over one record; and how far a reader has come.
use Rattle.std.specs.Prelude.{◌≡◌, ◌≢◌, ◌<◌, ◌≤◌, ◌+◌, ◌%◌, ◌⊎◌, ℕ, Bool, IsTrue, List, ◌++◌, length, take, drop, Option, Some, None, Result, Ok, Err}
use Rattle.dspec_buffer.specs.{BufferText.IsGap, BufferText.StandsNext, BufferText.BufferText, Extent.align_of, Faults.FaultHere, Words.Outside.Record, Words.Outside.front_epid, Words.Outside.Shape}
use Rattle.dspec_buffer.specs.{declared.read_fault.ReadFault.ReadFault}

-- no padding word that could be skipped stands at this place
abbrev pub NoGapAt : ℕ → List ℕ → Type 0
NoGapAt at bytes = 4 ≤ length bytes → front_epid bytes ≡ 0 → (at % 8 ≢ 4) ⊎ (length bytes ≡ 4)

-- between these two places there is a gap, and no more of it after
pub record SkipsGap (bytes : List ℕ) (place at : ℕ) : Type 0 where
  pub gap : List ℕ
  pub is_gap : IsGap place gap
  pub bytes_are : drop place bytes ≡ gap ++ drop at bytes
  pub at_is : at ≡ place + length gap
  pub goes_on : place < length bytes → at < length bytes
  pub no_more : NoGapAt at (drop at bytes)

module _ (shape : ℕ → Option Shape) (accepted : Record → Bool) (text : Record → List ℕ) where
  -- the text of this record stands between these two places
  pub record StandsHere (bytes : List ℕ) (at : ℕ) (r : Record) (next : ℕ) : Type 0 where
    pub is_accepted : IsTrue (accepted r)
    pub aligned : at % align_of shape r ≡ 0
    pub bytes_are : drop at bytes ≡ text r ++ drop next bytes
    pub next_is : next ≡ at + length (text r)
    pub within : next ≤ length bytes

  -- a record at a place, or the fault there
  abbrev pub ReadsHere : List ℕ → ℕ → Result (Record × ℕ) ReadFault → Type 0
  ReadsHere bytes at (Ok (r, next)) = StandsHere bytes at r next
  ReadsHere bytes at (Err fault) = (fault.at ≡ at) × FaultHere shape accepted text fault.kind at (drop at bytes)

  -- after a gap this record stands, up to `next`
  pub record NextIs (bytes : List ℕ) (place : ℕ) (r : Record) (next : ℕ) : Type 0 where
    pub gap : List ℕ
    pub stands : StandsNext shape accepted text place (drop place bytes) gap r (drop next bytes)
    pub next_is : next ≡ place + length gap + length (text r)
    pub within : next ≤ length bytes

  -- after a gap there is this fault
  pub record FaultIs (bytes : List ℕ) (place : ℕ) (fault : ReadFault) : Type 0 where
    pub gap : List ℕ
    pub left : List ℕ
    pub is_gap : IsGap place gap
    pub bytes_are : drop place bytes ≡ gap ++ left
    pub place_is : fault.at ≡ place + length gap
    pub fault_here : FaultHere shape accepted text fault.kind fault.at left

  -- the next record from a place on, the end of the text, or a fault
  abbrev pub ReadsNext : List ℕ → ℕ → Result (Option (Record × ℕ)) ReadFault → Type 0
  ReadsNext bytes place (Ok None) = place ≡ length bytes
  ReadsNext bytes place (Ok (Some (r, next))) = NextIs bytes place r next
  ReadsNext bytes place (Err fault) = FaultIs bytes place fault

  -- a reader at a place has read some records, whose text ends there
  pub record HasRead (bytes : List ℕ) (place : ℕ) : Type 0 where
    pub within : place ≤ length bytes
    pub read : List Record
    pub is_text : BufferText shape accepted text 0 (take place bytes) read

  -- it came to the end, or to this fault
  abbrev pub EndsAt : List ℕ → ℕ → Option ReadFault → Type 0
  EndsAt bytes place None = HasRead bytes place × (place ≡ length bytes)
  EndsAt bytes place (Some fault) = HasRead bytes place × FaultIs bytes place fault
