-- Cited by calls. What is written into a trace folder.
use Rattle.std.specs.Prelude.{ℕ, ◌≡◌, ◌≢◌, ◌+◌, false, List, [], ◌++◌, ◌⊎◌, Option, Some, None, codes, decimal, replicate, slice_get, slice_index, slice_set}
use Rattle.dspec_ctf_sink.specs.Losses.{HasSoManyRecords, lost_more, missed_more}
use Rattle.dspec_ctf_sink.specs.Words.Outside.{EnabledRows, origin_text, origin_fault, AreFilledOf, filled_packets, HasNoPacket, Batch, AsTaken, Names, Origin}
use Rattle.dspec_ctf_sink.specs.Writes.{FileWrite, Refuses, Takes}
use Rattle.dspec_ctf_sink.specs.declared.fault.FolderFault.{FolderFault}
use Rattle.dspec_ctf_sink.specs.declared.fault.FolderFault.TheVariants.{Cpu, Cut, Memory, Metadata, NotEmpty, Packet, Read, Write}
use Rattle.dspec_ctf_sink.specs.declared.losing.Loss.{Loss}
use Rattle.dspec_ctf.specs.declared.fault.MetadataFault.TheVariants as metadata

-- a trace that is being written: its uuid, how many events each CPU missed so far, and how many of them its file tells, what the place was
-- asked for, what was lost in all, and what the last batch lost
pub record Tracing : Type 0 where
  pub uuid : List ℕ
  pub missed : List ℕ
  pub told : List ℕ
  pub written : Option (List FileWrite)
  pub lost : Option Loss
  pub last : Option Loss

-- the metadata was written, in which nothing is refused, and no packet yet
pub record IsBegun (origin : Origin) (e : EnabledRows) (names : Names) (before : Option (List FileWrite)) (new : Tracing) : Type 0 where
  pub allowed : origin_fault origin AsTaken e names ≡ None
  pub uuid_is : new.uuid ≡ origin.uuid
  pub missed : new.missed ≡ replicate 64 0
  pub told : new.told ≡ replicate 64 0
  pub lost : new.lost ≡ None
  pub last : new.last ≡ None
  pub written : Takes before (codes "metadata") (origin_text origin AsTaken e names) new.written

-- a place of this kind, as it was, is one that refused the metadata for that
pub record RefusesMetadata {F : Type 0} (written : F → Option (List FileWrite)) (origin : Origin) (e : EnabledRows) (names : Names) (old : F) (fault : FolderFault) : Type 0 where
  pub left : F
  pub refused : Refuses (written old) (codes "metadata") (origin_text origin AsTaken e names) (written left) fault

-- why no trace is begun: there is no metadata of these names and of this origin, or the place refused it
abbrev pub IsBeginFault : {F : Type 0} → (F → Option (List FileWrite)) → Origin → EnabledRows → Names → F → FolderFault → Type 0
IsBeginFault written origin e names old (Metadata fault) = (fault ≡ metadata.Memory) ⊎ (origin_fault origin AsTaken e names ≡ Some fault)
IsBeginFault written origin e names old fault = RefusesMetadata written origin e names old fault

abbrev pub cpu_name : ℕ → List ℕ
cpu_name c = codes "cpu_" ++ decimal c

-- a file that told of so many missed events tells of some for the first time, where it tells of so many now
abbrev pub TellsFirst : ℕ → ℕ → Type 0
TellsFirst told missed = (told ≡ 0) × (missed ≢ 0)

module _ (e : EnabledRows) (uuid : List ℕ) (missed cpu : ℕ) (text : List ℕ) where
  -- the bytes are the packet of no records, which tells of none missed, and the packets of this text after it
  pub record AreAfterSilent (bytes : List ℕ) : Type 0 where
    pub packets : List ℕ
    pub are_packets : AreFilledOf e uuid missed cpu text packets
    pub bytes_are : bytes ≡ filled_packets false e uuid 0 cpu [] ++ packets

  -- The bytes are the next packets of a file that told of so many missed events: those of this text. Tools tell by how much more a packet tells than
  -- the one before it, so where missed events are told first, a packet that tells of none stands in front.
  abbrev pub AreNextOf : ℕ → List ℕ → Type 0
  AreNextOf told bytes = (TellsFirst told missed × AreAfterSilent bytes) ⊎ ((TellsFirst told missed → ⊥) × AreFilledOf e uuid missed cpu text bytes)

-- the bytes are the next packets of the batch's CPU; and so many events it missed then
pub record IsNextPacket (e : EnabledRows) (old : Tracing) (b : Batch) (missed : ℕ) (bytes : List ℕ) : Type 0 where
  pub before : ℕ
  pub there : slice_get old.missed b.cpu ≡ Some before
  pub missed_is : missed ≡ before + b.drops
  pub packet_is : AreNextOf e old.uuid missed b.cpu b.buffer.text (slice_index old.told b.cpu) bytes

-- the place took the batch's packets, and what its CPU missed is counted
pub record AddsPacket (e : EnabledRows) (old : Tracing) (b : Batch) (new : Tracing) : Type 0 where
  pub total : ℕ
  pub bytes : List ℕ
  pub packet_is : IsNextPacket e old b total bytes
  pub written : Takes old.written (cpu_name b.cpu) bytes new.written
  pub missed : new.missed ≡ slice_set old.missed b.cpu total
  pub told : new.told ≡ slice_set old.told b.cpu total
  pub lost : new.lost ≡ old.lost
  pub last : new.last ≡ None

-- the place refused the batch's packets for that, after which it was asked for these writes
pub record RefusesPacket (e : EnabledRows) (old : Tracing) (b : Batch) (written : Option (List FileWrite)) (fault : FolderFault) : Type 0 where
  pub total : ℕ
  pub bytes : List ℕ
  pub packet_is : IsNextPacket e old b total bytes
  pub refused : Refuses old.written (cpu_name b.cpu) bytes written fault

-- this batch has no packet
abbrev pub HasNone : EnabledRows → Tracing → Batch → FolderFault → Type 0
HasNone e old b (Cpu cpu) = (cpu ≡ b.cpu) × (slice_get old.missed cpu ≡ None)
HasNone e old b (Packet cpu fault) = (cpu ≡ b.cpu) × ((before : ℕ) × ((slice_get old.missed b.cpu ≡ Some before) × HasNoPacket e before b.drops b.buffer.text fault))
HasNone e old b Memory = Unit {0}
HasNone e old b (Write code) = ⊥
HasNone e old b Cut = ⊥
HasNone e old b Read = ⊥
HasNone e old b NotEmpty = ⊥
HasNone e old b (Metadata fault) = ⊥

-- Why a batch isn't written: it has no packet, or memory was wanting, and the place wasn't asked; or the place refused its packets.
abbrev pub IsBatchFault : EnabledRows → Tracing → Batch → Option (List FileWrite) → FolderFault → Type 0
IsBatchFault e old b written fault = (HasNone e old b fault × (written ≡ old.written)) ⊎ RefusesPacket e old b written fault

-- what a batch loses of which nothing is written
abbrev pub whole_loss : Batch → FolderFault → ℕ → Loss
whole_loss b fault records = record { cpu = b.cpu; row = None; fault = fault; records = records }

-- all of a batch is counted: its records, and the drops that it carried, are what its CPU missed
pub record CountsLost (e : EnabledRows) (old : Tracing) (b : Batch) (fault : FolderFault) (new : Tracing) : Type 0 where
  pub records : ℕ
  pub has : HasSoManyRecords e b records
  pub missed : new.missed ≡ missed_more old.missed b.cpu (b.drops + records)
  pub told : new.told ≡ old.told
  pub lost : new.lost ≡ lost_more old.lost (whole_loss b fault records)
  pub last : new.last ≡ Some (whole_loss b fault records)

-- nothing of the batch is written, for that, and all of it is counted
pub record LosesPacket (e : EnabledRows) (old : Tracing) (b : Batch) (new : Tracing) : Type 0 where
  pub fault : FolderFault
  pub why : IsBatchFault e old b new.written fault
  pub counted : CountsLost e old b fault new

-- the batch has no records, its CPU dropped none, and its file tells all that was missed
abbrev pub IsNothing : Tracing → Batch → Type 0
IsNothing old b = (b.buffer.text ≡ []) × (b.drops ≡ 0) × (slice_get old.missed b.cpu ≡ slice_get old.told b.cpu)

-- What a batch makes of the trace. Where there is nothing to write, nothing; else the place takes its packets, each of which tells all that was missed on its
-- CPU so far, or what the batch has is counted as missed.
pub record GetsPacket (e : EnabledRows) (old : Tracing) (b : Batch) (new : Tracing) : Type 0 where
  pub uuid : new.uuid ≡ old.uuid
  pub came : (IsNothing old b × (new ≡ record old { last = None })) ⊎ ((IsNothing old b → ⊥) × (AddsPacket e old b new ⊎ LosesPacket e old b new))
