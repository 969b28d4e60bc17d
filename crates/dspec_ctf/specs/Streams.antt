-- Cited by calls. Which packet is that of a batch, and why there is none.
use Rattle.std.specs.Prelude.{◌≡◌, ◌<◌, ◌≤◌, ◌+◌, ◌^◌, ℕ, IsTrue, false, All, List, Some, length, take, slice_get}
use Rattle.dspec_ctf.specs.Packets.{events, packet}
use Rattle.dspec_ctf.specs.Words.Outside.{Record, EnabledRows, enabled, table_shape, table_accepts, table_text, BufferText, StopsAt}
use Rattle.dspec_ctf.specs.declared.stream.PacketFault.{PacketFault, TheVariants.Text, TheVariants.Missed, TheVariants.TooLong, TheVariants.Clock, TheVariants.Memory}

module _ (e : EnabledRows) where
  -- these enablings take the record
  abbrev pub Accepts : Record → Type 0
  Accepts r = IsTrue (table_accepts e.header (enabled e.rows) r)

  -- the first of these records that they don't take stands at this place
  abbrev pub IsFirstRefused : List Record → ℕ → Type 0
  IsFirstRefused rs place = All Accepts (take place rs) × ((r : Record) × (slice_get rs place ≡ Some r) × (table_accepts e.header (enabled e.rows) r ≡ false))

  -- the bytes are the text of these records, by these enablings
  abbrev pub IsText : List ℕ → List Record → Type 0
  IsText text rs =
      BufferText (table_shape e.header (enabled e.rows)) (table_accepts e.header (enabled e.rows)) (table_text e.header (enabled e.rows)) 0 text rs

  -- the bytes are the packet of the records of this text
  pub record IsPacketOf (uuid : List ℕ) (missed cpu : ℕ) (text bytes : List ℕ) : Type 0 where
    pub read : List Record
    pub is_text : IsText text read
    pub bytes_are : bytes ≡ packet uuid e missed cpu read

  -- Why a text has no packet, where so many events were missed before it and so many more with it. A number of the packet goes past 64
  -- bits, or its bytes aren't a text. What was missed is told before what the text has.
  abbrev pub HasNoPacket : ℕ → ℕ → List ℕ → PacketFault → Type 0
  HasNoPacket missed drops text (Text fault) =
      (missed + drops < 2 ^ 64)
      × StopsAt (table_shape e.header (enabled e.rows)) (table_accepts e.header (enabled e.rows)) (table_text e.header (enabled e.rows)) text fault
  HasNoPacket missed drops text Missed = 2 ^ 64 ≤ missed + drops
  HasNoPacket missed drops text TooLong = (missed + drops < 2 ^ 64) × ((rs : List Record) × (IsText text rs × (2 ^ 60 ≤ length (events e rs))))
  HasNoPacket missed drops text (Clock place) = ⊥
  HasNoPacket missed drops text Memory = Unit

  -- Why records have no packet, where so many events were missed before and so many more with them: a number of the packet goes past
  -- 64 bits.
  abbrev pub HasNoRecordPacket : ℕ → ℕ → List Record → PacketFault → Type 0
  HasNoRecordPacket missed drops rs (Text fault) = ⊥
  HasNoRecordPacket missed drops rs Missed = 2 ^ 64 ≤ missed + drops
  HasNoRecordPacket missed drops rs TooLong = (missed + drops < 2 ^ 64) × (2 ^ 60 ≤ length (events e rs))
  HasNoRecordPacket missed drops rs (Clock place) = ⊥
  HasNoRecordPacket missed drops rs Memory = Unit

  -- why the records of a text aren't there: it isn't one
  abbrev pub HasNoRecords : List ℕ → PacketFault → Type 0
  HasNoRecords text (Text fault) =
      StopsAt (table_shape e.header (enabled e.rows)) (table_accepts e.header (enabled e.rows)) (table_text e.header (enabled e.rows)) text fault
  HasNoRecords text Missed = ⊥
  HasNoRecords text TooLong = ⊥
  HasNoRecords text (Clock place) = ⊥
  HasNoRecords text Memory = Unit

-- why the bytes of events have no packet around them
abbrev pub IsTooLong : List ℕ → PacketFault → Type 0
IsTooLong body (Text fault) = ⊥
IsTooLong body Missed = ⊥
IsTooLong body TooLong = 2 ^ 60 ≤ length body
IsTooLong body (Clock place) = ⊥
IsTooLong body Memory = Unit
