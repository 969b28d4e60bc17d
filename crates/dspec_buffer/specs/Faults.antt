-- Cited by calls. Why bytes are the text of no records: what stands before the fault is a text, and no record can begin there.
use Rattle.std.specs.Prelude.{◌≡◌, ◌≢◌, ◌<◌, ◌≤◌, ◌+◌, ◌%◌, ◌⊎◌, ℕ, Bool, List, ◌++◌, length, Option, None}
use Rattle.dspec_buffer.specs.BufferText.{IsGap, BufferText}
use Rattle.dspec_buffer.specs.Words.Outside.{Record, front_epid, NamesShape, HasNoText, Shape, ReadKind, Truncated, UnknownEpid, Misaligned, GapNotZero, Padding}
use Rattle.dspec_buffer.specs.declared.read_fault.ReadFault.{ReadFault}

module _ (shape : ℕ → Option Shape) (accepted : Record → Bool) (text : Record → List ℕ) where
  -- an EPID with this shape stands at place `at`, which is a multiple of the shape's alignment
  abbrev pub NamesAligned : ℕ → List ℕ → Shape → Type 0
  NamesAligned at bytes h = NamesShape shape bytes h × (at % h.align ≡ 0)

  -- the fault at place `at`, where these bytes are left
  abbrev pub FaultHere : ReadKind → ℕ → List ℕ → Type 0
  FaultHere Truncated at bytes =
      ((0 < length bytes) × (length bytes < 4)) ⊎ ((h : Shape) × (NamesAligned at bytes h × (length bytes < h.size)))
  -- a padding word may not stand here, or nothing stands after it
  FaultHere Padding at bytes =
      (4 ≤ length bytes) × (front_epid bytes ≡ 0) × ((at % 8 ≢ 4) ⊎ (length bytes ≡ 4))
  FaultHere UnknownEpid at bytes =
      (4 ≤ length bytes) × (front_epid bytes ≢ 0) × (shape (front_epid bytes) ≡ None)
  FaultHere Misaligned at bytes = (h : Shape) × (NamesShape shape bytes h × (at % h.align ≢ 0))
  FaultHere GapNotZero at bytes = (h : Shape) × (NamesAligned at bytes h × HasNoText accepted text bytes h)

  -- reading these bytes comes as far as this fault: after whole records and perhaps a padding word
  pub record StopsAt (bytes : List ℕ) (fault : ReadFault) : Type 0 where
    pub before : List ℕ
    pub gap : List ℕ
    pub left : List ℕ
    pub read : List Record
    pub bytes_are : bytes ≡ before ++ (gap ++ left)
    pub is_text : BufferText shape accepted text 0 before read
    pub is_gap : IsGap (length before) gap
    pub place : fault.at ≡ length before + length gap
    pub fault_here : FaultHere fault.kind fault.at left

  -- the whole records before this fault are these
  abbrev pub StopsAfter : List ℕ → List Record → ReadFault → Type 0
  StopsAfter bytes records fault = (stop : StopsAt bytes fault) × (stop.read ≡ records)
