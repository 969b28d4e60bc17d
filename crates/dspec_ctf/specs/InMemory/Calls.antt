-- Cited by calls. What each call makes of a CPU's files.
use Rattle.std.specs.Prelude.{◌≡◌, ◌≢◌, ◌==◌, ℕ, ◌+◌, ◌-◌, ◌*◌, ◌^◌, ◌<◌, ◌≤◌, ◌++◌, ◌⊎◌, Bool, List, [], length, drop, slice_range, Option, Some, None}
use Rattle.dspec_ctf.specs.{Filled.filled_size, Filled.most_body, Filled.LacksBytes, InMemory.Filing.CpuFiling, InMemory.Filing.FilingRoom, InMemory.Filing.IsRunWithin, InMemory.Filing.as_counted}
use Rattle.dspec_ctf.specs.{InMemory.Filing.left, InMemory.Filing.unwritten, Rows.HasNoRoomFor, Rows.HasNoRun, Rows.IsFileRun, Rows.most_bytes, Rows.most_records, Rows.missed_packets}
use Rattle.dspec_ctf.specs.{Rows.run_packet, Streams.HasNoRecords, Streams.IsText, Words.Outside.Record, declared.in_memory.fault.PutFault.PutFault, declared.in_memory.packet.Packet.Packet}
use Rattle.dspec_ctf.specs.{declared.in_memory.putting.NextPart.NextPart, declared.rows.Run.Run, declared.stream.PacketFault.PacketFault, declared.stream.PacketFault.TheVariants.Text}
use Rattle.dspec_ctf.specs.{declared.stream.PacketFault.TheVariants.Missed, declared.stream.PacketFault.TheVariants.TooLong, declared.stream.PacketFault.TheVariants.Clock}
use Rattle.dspec_ctf.specs.{declared.stream.PacketFault.TheVariants.Memory}
use Rattle.dspec_ctf.specs.declared.in_memory.putting.NextPart.TheVariants as next
use Rattle.dspec_ctf.specs.declared.in_memory.fault.PutFault.TheVariants as put

-- there is as much room as there was, or more
abbrev pub IsAsMuch : FilingRoom → FilingRoom → Type 0
IsAsMuch old new = (old.records ≤ new.records) × (old.bytes ≤ new.bytes) × (old.body ≤ new.body)

-- there is as much room as there was, or more; else nothing is changed
abbrev pub HasAsMuchRoom : CpuFiling → CpuFiling → Type 0
HasAsMuchRoom old new = IsAsMuch old.room new.room × (new ≡ record old { room = new.room })

-- there is room for batches of so many bytes: for their records, for all that one call hands out, and for the events of a packet
abbrev pub HasRoomFor : ℕ → FilingRoom → Type 0
HasRoomFor size room = (most_records size ≤ room.records) × (most_bytes size ≤ room.bytes) × (most_body ≤ room.body)

-- room for batches of so many bytes is there now
abbrev pub Reserves : CpuFiling → ℕ → CpuFiling → Type 0
Reserves old size new = HasRoomFor size new.room × HasAsMuchRoom old new

-- A batch is open now, which has the records of this text. What its CPU missed is counted: what it dropped, and the records of the batch
-- before that no packet has.
pub record OpensBatch (old : CpuFiling) (drops : ℕ) (text : List ℕ) (new : CpuFiling) : Type 0 where
  pub read : List Record
  pub is_text : IsText old.schema text read
  pub room : IsAsMuch old.room new.room
  pub is : new ≡ record old { missed = old.missed + left old + drops; told_before = old.told; records = read; from = 0; place = 0; run = None; room = new.room }

-- why no batch is opened: more was missed than 64 bits count, the bytes are no text, or there is no room for as many records as they may have, and memory was wanting
abbrev pub HasNoBatch : CpuFiling → ℕ → List ℕ → PacketFault → Type 0
HasNoBatch f drops text Missed = 2 ^ 64 ≤ f.missed + left f + drops
HasNoBatch f drops text (Text fault) = (f.missed + left f + drops < 2 ^ 64) × HasNoRecords f.schema text (Text fault)
HasNoBatch f drops text Memory = (f.missed + left f + drops < 2 ^ 64) × HasNoRoomFor f.schema text f.room.records Memory
HasNoBatch f drops text (Clock place) = ⊥
HasNoBatch f drops text TooLong = ⊥

-- the packet that was handed out last counts as written
abbrev pub as_written : CpuFiling → CpuFiling
as_written f = record f { told_before = f.told; from = f.place }

-- the run of the next packet, and the last stamps with it: it was found before, or it is what comes next of the records
abbrev pub IsFoundRun : Option Run → CpuFiling → Run → List ℕ → Type 0
IsFoundRun (Some found) f run lasts = (run ≡ found) × (lasts ≡ f.lasts)
IsFoundRun None f run lasts = IsFileRun f.lasts f.records f.place run lasts

-- The next packet tells what was missed: not all of it is told.
abbrev pub IsToTell : CpuFiling → Type 0
IsToTell f = f.missed ≢ f.told

-- the next packet is of a run, which is found now: all that was missed is told
pub record FindsRun (f : CpuFiling) (run : Run) (found : CpuFiling) : Type 0 where
  pub told : f.missed ≡ f.told
  pub lasts : List ℕ
  pub is_run : IsFoundRun f.run f run lasts
  pub within : IsRunWithin f.records f.place run
  pub is : found ≡ record f { lasts = lasts; run = Some run }

-- all that was missed is told, and all records of the batch were handed out
abbrev pub IsAllHanded : CpuFiling → Type 0
IsAllHanded f = (f.missed ≡ f.told) × (length f.records ≤ f.place)

-- what the next packet is, of which the run is found now
abbrev pub FindsNext : CpuFiling → NextPart → CpuFiling → Type 0
FindsNext f next.Missed found = IsToTell f × (found ≡ f)
FindsNext f (next.Run run) found = FindsRun f run found
FindsNext f next.Done found = IsAllHanded f × (found ≡ f)

-- the packet that tells what was missed, for the CPU's first file
abbrev pub missed_bytes : CpuFiling → List ℕ
missed_bytes f = missed_packets f.uuid f.told f.missed f.cpu f.lasts

-- the packet of a run, for its file
abbrev pub run_bytes : CpuFiling → Run → List ℕ
run_bytes f run = run_packet f.uuid f.schema f.missed f.cpu run.file (slice_range f.records f.place run.end)

-- the bytes stand at the front of the room, and after them is what was there
pub record Fills (old bytes new : List ℕ) : Type 0 where
  pub fits : length bytes ≤ length old
  pub is : new ≡ bytes ++ drop (length bytes) old

-- what was missed is handed out
pub record HandsMissed (f : CpuFiling) (room : List ℕ) (p : Packet) (filled : List ℕ) (new : CpuFiling) : Type 0 where
  pub packet_is : p ≡ record { file = 0; size = length (missed_bytes f); records = 0 }
  pub bytes : Fills room (missed_bytes f) filled
  pub roomy : IsAsMuch f.room new.room
  pub is : new ≡ record f { told = f.missed; room = new.room }

-- the packet of this run is handed out
pub record HandsRun (f : CpuFiling) (run : Run) (room : List ℕ) (p : Packet) (filled : List ℕ) (new : CpuFiling) : Type 0 where
  pub packet_is : p ≡ record { file = run.file; size = length (run_bytes f run); records = run.end - f.place }
  pub bytes : Fills room (run_bytes f run) filled
  pub roomy : IsAsMuch f.room new.room
  pub is : new ≡ record f { place = run.end; run = None; room = new.room }

-- the run's packet is handed out, once the run was found
pub record FindsAndHands (f : CpuFiling) (room : List ℕ) (p : Packet) (filled : List ℕ) (new : CpuFiling) : Type 0 where
  pub run : Run
  pub found : CpuFiling
  pub finds : FindsRun f run found
  pub hands : HandsRun found run room p filled new

-- What a call hands out: what was missed, where some of that isn't told, else the packet of the next run; nothing after the last of them.
-- Either way what was handed out before counts as written.
abbrev pub Hands : CpuFiling → List ℕ → Option Packet → List ℕ → CpuFiling → Type 0
Hands f room (Some p) filled new =
    (IsToTell f × HandsMissed (as_written f) room p filled new) ⊎ FindsAndHands (as_written f) room p filled new
Hands f room None filled new = IsAllHanded f × (filled ≡ room) × (new ≡ as_written f)

-- these bytes have no room of so many, which they need
abbrev pub HasNoRoom : List ℕ → List ℕ → ℕ → Type 0
HasNoRoom room bytes needed = (needed ≡ length bytes) × (length room < needed)

-- why these bytes aren't handed out: the caller's room is too small, or the two packets had no room here and memory was wanting for them
abbrev pub HasNoMissed : CpuFiling → List ℕ → PutFault → Type 0
HasNoMissed f room (put.TooSmall needed) = HasNoRoom room (missed_bytes f) needed
HasNoMissed f room (put.Packet fault) = (fault ≡ Memory) × (f.room.bytes < 2 * filled_size)

-- why the packet of this run isn't handed out: the caller's room is too small, or it had no room here and memory was wanting for it
abbrev pub HasNoRunPacket : CpuFiling → Run → List ℕ → PutFault → Type 0
HasNoRunPacket f run room (put.TooSmall needed) = HasNoRoom room (run_bytes f run) needed
HasNoRunPacket f run room (put.Packet fault) = (fault ≡ Memory) × LacksBytes f.room.bytes f.room.body (length (run_bytes f run))

-- the next packet is of this run, which is found now, and isn't handed out
pub record FindsAlone (f : CpuFiling) (room : List ℕ) (fault : PutFault) (new : CpuFiling) : Type 0 where
  pub run : Run
  pub found : CpuFiling
  pub finds : FindsRun f run found
  pub why : HasNoRunPacket found run room fault
  pub is : HasAsMuchRoom found new

-- there is no next run, for that
pub record FindsNone (f : CpuFiling) (fault : PutFault) (new : CpuFiling) : Type 0 where
  pub why : PacketFault
  pub fault_is : fault ≡ put.Packet why
  pub told : f.missed ≡ f.told
  pub none : HasNoRun f.lasts f.records f.place why
  pub is : new ≡ f

-- Why nothing is handed out. Nothing is changed but that what was handed out before counts as written, that the next run is found, and that there may be
-- more room.
abbrev pub HandsNone : CpuFiling → List ℕ → PutFault → CpuFiling → Type 0
HandsNone f room fault new =
    (IsToTell f × HasNoMissed (as_written f) room fault × HasAsMuchRoom (as_written f) new)
    ⊎ (FindsAlone (as_written f) room fault new ⊎ FindsNone (as_written f) fault new)

-- The packet that was handed out last wasn't written, nor will be those after it: what it told isn't told, and its records and those that
-- come after are missed.
abbrev pub without_rest : CpuFiling → CpuFiling
without_rest f =
    record f { missed = as_counted (f.missed + unwritten f); told = f.told_before; from = length f.records; place = length f.records; run = None }

-- so many events more were missed
abbrev pub with_more_missed : CpuFiling → ℕ → CpuFiling
with_more_missed f count = record f { missed = as_counted (f.missed + count) }

-- no record of the batch is left that could be handed out or lost
abbrev pub has_no_rest : CpuFiling → Bool
has_no_rest f = unwritten f == 0

-- without a batch, in this room; what was missed, and how much of that was told, is as it was
abbrev pub emptied_in : FilingRoom → CpuFiling → CpuFiling
emptied_in room f = record f { records = []; from = 0; place = 0; run = None; room = room }

-- two have each other's room, and no batch
abbrev pub SwapRooms : CpuFiling → CpuFiling → CpuFiling → CpuFiling → Type 0
SwapRooms one other one_new other_new = (one_new ≡ emptied_in other.room one) × (other_new ≡ emptied_in one.room other)
