-- Cited by calls. Calls on the files of a CPU in a trace by time, one after another, and which of the packets that they hand out count as written.
use Rattle.std.specs.Prelude.{ℕ, ◌≡◌, ◌+◌, true, List, [], ◌∷◌, ◌++◌, take, Some, None}
use Rattle.dspec_filing_reading.specs.Words.Outside.{CpuFiling, emptied_in, Hands, HandsNone, has_no_rest, HasAsMuchRoom, HasNoBatch, OpensBatch, with_more_missed, without_rest, PacketFault}
use Rattle.dspec_filing_reading.specs.Words.Outside.{PutFault, Packet}

-- a call, and what it did
pub data FilingCall : Type 0 where
  -- a batch that dropped so many was opened, by its text; or it wasn't
  Opened : ℕ → List ℕ → FilingCall
  OpenRefused : ℕ → List ℕ → FilingCall
  -- a packet was handed out, which has these bytes; or there was no more; or none was handed out, for a fault
  Put : Packet → List ℕ → FilingCall
  NoMore : FilingCall
  PutRefused : FilingCall
  -- what was handed out last wasn't written, nor will be the rest of the batch
  Lost : FilingCall
  -- so many more events were missed
  Missed : ℕ → FilingCall
  -- memory was taken for batches, or not
  Reserved : FilingCall
  -- the room was exchanged with that of other files
  RoomSwapped : FilingCall

-- what each makes of the files
abbrev pub CallMakes : CpuFiling → FilingCall → CpuFiling → Type 0
CallMakes old (Opened drops text) new = OpensBatch old drops text new
CallMakes old (OpenRefused drops text) new = (fault : PacketFault) × (HasNoBatch old drops text fault × HasAsMuchRoom old new)
CallMakes old (Put p bytes) new = (room : List ℕ) × ((filled : List ℕ) × (Hands old room (Some p) filled new × (bytes ≡ take p.size filled)))
CallMakes old NoMore new = (room : List ℕ) × Hands old room None room new
CallMakes old PutRefused new = (room : List ℕ) × ((fault : PutFault) × HandsNone old room fault new)
CallMakes old Lost new = new ≡ without_rest old
CallMakes old (Missed count) new = new ≡ with_more_missed old count
CallMakes old Reserved new = HasAsMuchRoom old new
CallMakes old RoomSwapped new = (has_no_rest old ≡ true) × (new ≡ emptied_in new.room old)

-- all of them, the first at the head
abbrev pub CallsMake : CpuFiling → List FilingCall → CpuFiling → Type 0
CallsMake old [] new = new ≡ old
CallsMake old (call ∷ calls) new = (mid : CpuFiling) × (CallMakes old call mid × CallsMake mid calls new)

-- ---- packets, each with the number of its file

-- the packets that count as written, in order; and that which was handed out last, until it counts as written or is lost
pub record Packets : Type 0 where
  pub written : List (ℕ × List ℕ)
  pub last : List (ℕ × List ℕ)

-- all of them, with the last
abbrev pub with_last : Packets → List (ℕ × List ℕ)
with_last w = w.written ++ w.last

-- the last counts as written
abbrev pub all_written : Packets → Packets
all_written w = record { written = with_last w; last = [] }

-- The packet that was handed out last counts as written once a batch is opened or the next packet is asked for, whatever comes of that; and it never does
-- where the caller says before that it is lost.
abbrev pub packets_after : Packets → FilingCall → Packets
packets_after w (Opened drops text) = all_written w
packets_after w (OpenRefused drops text) = w
packets_after w (Put p bytes) = record { written = with_last w; last = (p.file, bytes) ∷ [] }
packets_after w NoMore = all_written w
packets_after w PutRefused = all_written w
packets_after w Lost = record { written = w.written; last = [] }
packets_after w (Missed count) = w
packets_after w Reserved = w
packets_after w RoomSwapped = w

-- after all calls, the first at the head
abbrev pub packets_after_all : Packets → List FilingCall → Packets
packets_after_all w [] = w
packets_after_all w (call ∷ calls) = packets_after_all (packets_after w call) calls

-- the packets of a whole session of calls
abbrev pub packets_of : List FilingCall → Packets
packets_of calls = packets_after_all (record { written = []; last = [] }) calls

-- ---- batches

-- the text of the batch that a call opened
abbrev pub opened_text : FilingCall → List (List ℕ)
opened_text (Opened drops text) = text ∷ []
opened_text call = []

-- how many events a call told as missed: the batch's drops, or more
abbrev pub told_missed : FilingCall → ℕ
told_missed (Opened drops text) = drops
told_missed (Missed count) = count
told_missed call = 0

-- the texts of all batches that were opened, in order
abbrev pub opened_texts : List FilingCall → List (List ℕ)
opened_texts [] = []
opened_texts (call ∷ calls) = opened_text call ++ opened_texts calls

-- and all that was told as missed
abbrev pub all_told_missed : List FilingCall → ℕ
all_told_missed [] = 0
all_told_missed (call ∷ calls) = told_missed call + all_told_missed calls
