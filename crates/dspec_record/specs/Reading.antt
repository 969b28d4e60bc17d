-- Cited by calls. What reading a record at the front of some bytes answers, for any schema. A schema is seen here by three
-- functions: the shape of an EPID, which records it accepts, and the text of a record.
use Rattle.std.specs.Int.{w32, from_le_bytes}
use Rattle.std.specs.Prelude.{◌≡◌, ◌≢◌, ◌≤◌, ◌<◌, ◌%◌, ◌^◌, ◌⊎◌, ◌++◌, All, ℕ, Bool, IsTrue, List, length, take, Option, Some, None, Result, Ok, Err}
use Rattle.dspec_record.specs.{Record.Record, RecordText.little_endian, declared.field.Shape.Shape, declared.reading.ReadKind.ReadKind, declared.reading.ReadKind.TheVariants.Truncated}
use Rattle.dspec_record.specs.{declared.reading.ReadKind.TheVariants.UnknownEpid, declared.reading.ReadKind.TheVariants.Misaligned, declared.reading.ReadKind.TheVariants.GapNotZero}
use Rattle.dspec_record.specs.{declared.reading.ReadKind.TheVariants.Padding}

-- sizes are multiples of four and leave room for an EPID; no offset in a buffer can overflow by one
pub record IsShape (h : Shape) : Type 0 where
  pub whole_words : h.size % 4 ≡ 0
  pub with_epid : 4 ≤ h.size
  pub bounded : h.size ≤ 128
  pub aligned : (h.align ≡ 4) ⊎ (h.align ≡ 8)

-- the text of a record is as long as its EPID's shape says, and begins with the EPID, the lowest byte first
pub record IsTextOf (shape : ℕ → Option Shape) (r : Record) (text : List ℕ) : Type 0 where
  pub epid_fits : r.epid < 2 ^ 32
  pub shape_is : Shape
  pub has_shape : shape r.epid ≡ Some shape_is
  pub size : length text ≡ shape_is.size
  pub epid : take 4 text ≡ little_endian 4 r.epid
  pub bytes : All (λ b. b < 256) text

-- the EPID at the front of at least four bytes
abbrev pub front_epid : List ℕ → ℕ
front_epid bytes = from_le_bytes w32 bytes

-- the first `n` bytes are the text of this record, which the schema accepts
pub record BeginsWith (accepted : Record → Bool) (text : Record → List ℕ) (bytes : List ℕ) (r : Record) (n : ℕ)
    : Type 0 where
  pub is_accepted : IsTrue (accepted r)
  pub size : n ≡ length (text r)
  pub front : take n bytes ≡ text r

-- there is an EPID, not zero, with this shape
pub record NamesShape (shape : ℕ → Option Shape) (bytes : List ℕ) (s : Shape) : Type 0 where
  pub four : 4 ≤ length bytes
  pub epid : front_epid bytes ≢ 0
  pub has_shape : shape (front_epid bytes) ≡ Some s

-- no accepted record has its text at the front, though there are bytes enough for one of this shape
pub record HasNoText (accepted : Record → Bool) (text : Record → List ℕ) (bytes : List ℕ) (s : Shape) : Type 0 where
  pub long : s.size ≤ length bytes
  pub none : (r : Record) → IsTrue (accepted r) → take s.size bytes ≢ text r

-- the answer for these bytes: the record at the front and its size, or the fault that comes first
abbrev pub Answers : (ℕ → Option Shape) → (Record → Bool) → (Record → List ℕ) → List ℕ → Result (Record × ℕ) ReadKind → Type 0
Answers shape accepted text bytes (Ok (r, n)) = BeginsWith accepted text bytes r n
Answers shape accepted text bytes (Err Truncated) =
    (length bytes < 4) ⊎ ((s : Shape) × NamesShape shape bytes s × (length bytes < s.size))
Answers shape accepted text bytes (Err Padding) = (4 ≤ length bytes) × (front_epid bytes ≡ 0)
Answers shape accepted text bytes (Err UnknownEpid) =
    (4 ≤ length bytes) × (front_epid bytes ≢ 0) × (shape (front_epid bytes) ≡ None)
Answers shape accepted text bytes (Err GapNotZero) =
    (s : Shape) × NamesShape shape bytes s × HasNoText accepted text bytes s
Answers shape accepted text bytes (Err Misaligned) = ⊥

-- the only answer where an accepted record's text is at the front, whatever follows it, is that record and its size
abbrev pub GivesBack : (ℕ → Option Shape) → (Record → Bool) → (Record → List ℕ) → Type 0
GivesBack shape accepted text =
    (r : Record) (rest : List ℕ) (answer : Result (Record × ℕ) ReadKind) → IsTrue (accepted r)
    → Answers shape accepted text (text r ++ rest) answer → answer ≡ Ok (r, length (text r))
