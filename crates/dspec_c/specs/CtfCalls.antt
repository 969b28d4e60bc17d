-- Cited by calls. The calls on a CPU's files in a trace, and the metadata of one.
use Rattle.std.specs.Prelude.{ℕ, ◌≡◌, ◌≢◌, ◌⊎◌, ◌&&◌, true, MatchBool, List, Some, None, length}
use Rattle.dspec_c.specs.CtfStatuses.{needed_of, no_packet, no_stamp, packet_status, put_status, text_size, text_status}
use Rattle.dspec_c.specs.Handles.{held_in, is_full}
use Rattle.dspec_c.specs.Statuses.{bad_handle, busy, no_memory, no_such_cpu}
use Rattle.dspec_c.specs.Words.Outside.{EnabledRows, CpuFiling, no_packets, unwritten, Hands, HandsNone, HasAsMuchRoom, HasNoBatch, OpensBatch, Reserves, with_more_missed, without_rest, has_no_rest}
use Rattle.dspec_c.specs.Words.Outside.{SwapRooms, PutsMetadata, PutsNone, One, Two, PacketFault, PutFault, TextFault, TraceIdentity, Packet}
use Rattle.dspec_c.specs.declared.{handle.Handle.Handle, held.HandleValue.HandleValue}
use Rattle.dspec_c.specs.declared.held.HandleValue.TheVariants as held

-- a room of the caller's, and how many bytes it is told
pub record TextRoom : Type 0 where
  pub room : List ℕ
  pub size : ℕ

abbrev pub text_room : List ℕ → ℕ → TextRoom
text_room room size = record { room = room; size = size }

-- a room of the caller's, and what it is told of the packet in it
pub record PacketRoom : Type 0 where
  pub room : List ℕ
  pub packet : Packet

abbrev pub packet_room : List ℕ → Packet → PacketRoom
packet_room room packet = record { room = room; packet = packet }

-- the metadata stands in the room, and its size is told
pub record HasMetadata (identity : TraceIdentity) (e : EnabledRows) (names : List (List ℕ)) (kinds : List ℕ) (status : ℕ) (before now : TextRoom) : Type 0 where
  pub fine : status ≡ 0
  pub puts : PutsMetadata identity e names kinds before.room now.size now.room

-- it doesn't, for that; where the room is too small, it is told how many bytes are needed
pub record LacksMetadata (identity : TraceIdentity) (e : EnabledRows) (names : List (List ℕ)) (kinds : List ℕ) (status : ℕ) (before now : TextRoom) : Type 0 where
  pub fault : TextFault
  pub numbered : status ≡ text_status fault
  pub why : PutsNone identity e names kinds (length before.room) fault
  pub told : now ≡ text_room before.room (text_size fault before.size)

abbrev pub TellsMetadata : TraceIdentity → EnabledRows → List (List ℕ) → List ℕ → ℕ → TextRoom → TextRoom → Type 0
TellsMetadata identity e names kinds status before now = HasMetadata identity e names kinds status before now ⊎ LacksMetadata identity e names kinds status before now

-- a schema is looked at, and stays as it was
abbrev pub CtfMetadataAnswers : TraceIdentity → List (List ℕ) → List ℕ → HandleValue → ℕ → TextRoom → TextRoom → HandleValue → Type 0
CtfMetadataAnswers identity names kinds (held.Schema e) status before now left = (left ≡ held.Schema e) × TellsMetadata identity e names kinds status before now
CtfMetadataAnswers identity names kinds was status before now left = (left ≡ was) × ((status ≡ bad_handle) × (now ≡ before))

-- there are files of this CPU, without a packet, of records with stamps
abbrev pub BeginsFiles : List ℕ → EnabledRows → ℕ → CpuFiling → Type 0
BeginsFiles uuid e cpu files = (files ≡ no_packets uuid e cpu) × (e.header ≡ Two)

-- there are none: records have no stamps, or memory was wanting for them
abbrev pub HasNoFiles : EnabledRows → ℕ → Type 0
HasNoFiles e why = ((why ≡ no_stamp) × (e.header ≡ One)) ⊎ ((why ≡ no_memory) × (e.header ≡ Two))

-- the handle has them; or not, and that stays as it was
abbrev pub FilesSo : List ℕ → EnabledRows → ℕ → ℕ → Handle → Handle → Type 0
FilesSo uuid e cpu status was now =
    ((status ≡ 0) × ((e.header ≡ Two) × ((is_full now ≡ true) × (held_in now ≡ held.Files (no_packets uuid e cpu)))))
    ⊎ (((status ≡ no_stamp) × ((e.header ≡ One) × (now ≡ was))) ⊎ ((status ≡ no_memory) × ((e.header ≡ Two) × (now ≡ was))))

-- a schema is looked at, and stays as it was
abbrev pub CtfNewAnswers : List ℕ → ℕ → HandleValue → ℕ → HandleValue → Handle → Handle → Type 0
CtfNewAnswers uuid cpu (held.Schema e) status left was now = (left ≡ held.Schema e) × FilesSo uuid e cpu status was now
CtfNewAnswers uuid cpu schema status left was now = (left ≡ schema) × ((status ≡ bad_handle) × (now ≡ was))

-- there is room for batches of so many bytes, or memory was wanting
abbrev pub ReservesSo : ℕ → CpuFiling → ℕ → CpuFiling → Type 0
ReservesSo size old status new = ((status ≡ 0) × Reserves old size new) ⊎ ((status ≡ no_memory) × HasAsMuchRoom old new)

abbrev pub CtfReserveAnswers : ℕ → HandleValue → ℕ → HandleValue → Type 0
CtfReserveAnswers size (held.Files old) status now = (new : CpuFiling) × ((now ≡ held.Files new) × ReservesSo size old status new)
CtfReserveAnswers size was status now = (status ≡ bad_handle) × (now ≡ was)

-- two have each other's room, where neither has a record left to be handed out or lost; else all stays as it was
abbrev pub SwapsSo : CpuFiling → CpuFiling → ℕ → CpuFiling → CpuFiling → Type 0
SwapsSo one other status one_new other_new = MatchBool (has_no_rest one && has_no_rest other)
    ((status ≡ 0) × SwapRooms one other one_new other_new) ((status ≡ busy) × (one_new ≡ one) × (other_new ≡ other))

-- of files, and of what another handle holds
abbrev pub SwapsWith : CpuFiling → HandleValue → ℕ → CpuFiling → HandleValue → Type 0
SwapsWith one (held.Files other) status one_new now = (other_new : CpuFiling) × ((now ≡ held.Files other_new) × SwapsSo one other status one_new other_new)
SwapsWith one was status one_new now = (status ≡ bad_handle) × (now ≡ was) × (one_new ≡ one)

abbrev pub CtfSwapRoomsAnswers : HandleValue → HandleValue → ℕ → HandleValue → HandleValue → Type 0
CtfSwapRoomsAnswers (held.Files one) other status now left = (one_new : CpuFiling) × ((now ≡ held.Files one_new) × SwapsWith one other status one_new left)
CtfSwapRoomsAnswers was other status now left = (status ≡ bad_handle) × (now ≡ was) × (left ≡ other)

-- the batch isn't of this CPU; or it is opened; or not, for that
pub record OpensNone (drops : ℕ) (bytes : List ℕ) (old : CpuFiling) (status : ℕ) (new : CpuFiling) : Type 0 where
  pub fault : PacketFault
  pub numbered : status ≡ packet_status fault
  pub why : HasNoBatch old drops bytes fault
  pub same : HasAsMuchRoom old new

abbrev pub OpensSo : ℕ → ℕ → List ℕ → CpuFiling → ℕ → CpuFiling → Type 0
OpensSo cpu drops bytes old status new =
    ((old.cpu ≢ cpu) × ((status ≡ no_such_cpu) × (new ≡ old)))
    ⊎ ((old.cpu ≡ cpu) × (((status ≡ 0) × OpensBatch old drops bytes new) ⊎ OpensNone drops bytes old status new))

abbrev pub CtfOpenAnswers : ℕ → ℕ → List ℕ → HandleValue → ℕ → HandleValue → Type 0
CtfOpenAnswers cpu drops bytes (held.Files old) status now = (new : CpuFiling) × ((now ≡ held.Files new) × OpensSo cpu drops bytes old status new)
CtfOpenAnswers cpu drops bytes was status now = (status ≡ bad_handle) × (now ≡ was)

-- a packet is put, and told; there is none left; or none is put, for that, and where the room is too small its size is told
abbrev pub PutsOne : CpuFiling → ℕ → PacketRoom → PacketRoom → CpuFiling → Type 0
PutsOne old status before now new = (status ≡ 0) × Hands old before.room (Some now.packet) now.room new

abbrev pub PutsNoMore : CpuFiling → ℕ → PacketRoom → PacketRoom → CpuFiling → Type 0
PutsNoMore old status before now new = (status ≡ no_packet) × ((now ≡ before) × Hands old before.room None before.room new)

pub record PutsNot (old : CpuFiling) (status : ℕ) (before now : PacketRoom) (new : CpuFiling) : Type 0 where
  pub fault : PutFault
  pub numbered : status ≡ put_status fault
  pub why : HandsNone old before.room fault new
  pub told : now ≡ packet_room before.room (record before.packet { size = needed_of fault before.packet.size })

abbrev pub PutsSo : CpuFiling → ℕ → PacketRoom → PacketRoom → CpuFiling → Type 0
PutsSo old status before now new = PutsOne old status before now new ⊎ (PutsNoMore old status before now new ⊎ PutsNot old status before now new)

abbrev pub CtfPutAnswers : HandleValue → ℕ → PacketRoom → PacketRoom → HandleValue → Type 0
CtfPutAnswers (held.Files old) status before now left = (new : CpuFiling) × ((left ≡ held.Files new) × PutsSo old status before now new)
CtfPutAnswers was status before now left = (status ≡ bad_handle) × ((left ≡ was) × (now ≡ before))

abbrev pub CtfLoseAnswers : HandleValue → ℕ → ℕ → ℕ → HandleValue → Type 0
CtfLoseAnswers (held.Files old) status before told now = (status ≡ 0) × ((told ≡ unwritten old) × (now ≡ held.Files (without_rest old)))
CtfLoseAnswers was status before told now = (status ≡ bad_handle) × ((told ≡ before) × (now ≡ was))

abbrev pub CtfMissAnswers : ℕ → HandleValue → ℕ → HandleValue → Type 0
CtfMissAnswers count (held.Files old) status now = (status ≡ 0) × (now ≡ held.Files (with_more_missed old count))
CtfMissAnswers count was status now = (status ≡ bad_handle) × (now ≡ was)
