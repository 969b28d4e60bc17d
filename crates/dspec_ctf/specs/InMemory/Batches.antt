-- Cited by calls. All packets of a batch, and the room that they want.
use Rattle.std.specs.Prelude.{◌≡◌, ◌≤◌, ◌-◌, ◌==◌, ℕ, List, [], ◌∷◌, length, Some, if◌then◌else◌}
use Rattle.dspec_ctf.specs.{InMemory.Calls.Hands, InMemory.Calls.HandsNone, InMemory.Calls.HasNoBatch, InMemory.Calls.HasRoomFor, InMemory.Filing.CpuFiling, InMemory.Filing.left}
use Rattle.dspec_ctf.specs.{InMemory.Filing.unwritten, Rows.AreRuns, Streams.IsText, declared.in_memory.packet.Packet.Packet, declared.rows.Run.Run, declared.stream.PacketFault.TheVariants.Memory}
use Rattle.dspec_ctf.specs.declared.in_memory.fault.PutFault.TheVariants as put

-- calls of `put` one after another, of which each hands out a packet
abbrev pub PutsPackets : CpuFiling → List Packet → CpuFiling → Type 0
PutsPackets f [] new = new ≡ f
PutsPackets f (p ∷ ps) new =
    (room : List ℕ) × ((filled : List ℕ) × ((mid : CpuFiling) × (Hands f room (Some p) filled mid × PutsPackets mid ps new)))

-- of the packets with records the file, and how many they have
abbrev pub parts_of : List Packet → List (ℕ × ℕ)
parts_of [] = []
parts_of (p ∷ ps) = if p.records == 0 then parts_of ps else (p.file, p.records) ∷ parts_of ps

-- the same of runs from a place on
abbrev pub run_parts : ℕ → List Run → List (ℕ × ℕ)
run_parts from [] = []
run_parts from (run ∷ runs) = (run.file, run.end - from) ∷ run_parts run.end runs

-- the packets with records are those of the runs of all records that were left, one run after another
pub record HaveAllLeft (f : CpuFiling) (ps : List Packet) (new : CpuFiling) : Type 0 where
  pub runs : List Run
  pub are_runs : AreRuns f.lasts f.records f.place runs (length f.records) new.lasts
  pub parts : parts_of ps ≡ run_parts f.place runs

-- with room for batches of so many bytes, no batch that has no more is refused for want of memory
abbrev pub OpensWithoutMemory : Type 0
OpensWithoutMemory = (f : CpuFiling) (size drops : ℕ) (text : List ℕ) → HasRoomFor size f.room → length text ≤ size → HasNoBatch f drops text Memory → ⊥

-- nor is any packet of it, nor what tells what was missed, whatever room the caller gives
abbrev pub PutsWithoutMemory : Type 0
PutsWithoutMemory = (f new : CpuFiling) (size : ℕ) (text room : List ℕ) → length f.uuid ≡ 16 → HasRoomFor size f.room → IsText f.schema text f.records → length text ≤ size
    → HandsNone f room (put.Packet Memory) new → ⊥

-- what is missed and told later is the same of both: so much was missed and told, and so much of a batch is left to be lost
abbrev pub MissesAsBefore : CpuFiling → CpuFiling → Type 0
MissesAsBefore old new = (new.missed ≡ old.missed) × (new.told ≡ old.told) × (new.told_before ≡ old.told_before) × (left new ≡ left old) × (unwritten new ≡ unwritten old)
