-- Cited by calls. What is written into a trace folder by time while a session runs.
use Rattle.std.specs.Prelude.{ℕ, ◌≡◌, ◌≢◌, ◌≤◌, ◌+◌, ◌^◌, List, [], ◌∷◌, ◌++◌, ◌⊎◌, Option, Some, None, codes, decimal, replicate, length, slice_get, slice_range, slice_set}
use Rattle.dspec_ctf_sink.specs.Losses.{HasSoManyRecords, lost_more, missed_more}
use Rattle.dspec_ctf_sink.specs.Words.Outside.{Record, EnabledRows, origin_text, origin_fault, events, AreRuns, IsFileRun, HasNoRun, missed_packets, run_packet, run_packets, HasNoRecords, IsText}
use Rattle.dspec_ctf_sink.specs.Words.Outside.{IsTooLong, Batch, ByTime, Names, Origin, Run, PacketFault, Stream}
use Rattle.dspec_ctf_sink.specs.Writes.{FileWrite, IsNotTaken, Refuses, Takes}
use Rattle.dspec_ctf_sink.specs.declared.fault.FolderFault.{FolderFault}
use Rattle.dspec_ctf_sink.specs.declared.fault.FolderFault.TheVariants.{Cpu, Cut, Memory, Metadata, NotEmpty, Packet, Read, Write}
use Rattle.dspec_ctf_sink.specs.declared.losing.Loss.{Loss}
use Rattle.dspec_ctf.specs.declared.stream.PacketFault.TheVariants as packet
use Rattle.dspec_ctf.specs.declared.fault.MetadataFault.TheVariants as metadata

-- a trace by time that is being written: its uuid, how many events each CPU missed so far, and how many of them its first file tells, of each
-- file of a CPU the stamp of its last event, what the place was asked for, what was lost in all, and what the last batch lost
pub record TimedTracing : Type 0 where
  pub uuid : List ℕ
  pub missed : List ℕ
  pub told : List ℕ
  pub lasts : List (List ℕ)
  pub written : Option (List FileWrite)
  pub lost : Option Loss
  pub last : Option Loss

-- the metadata of a clock of so many ticks a second was written, in which nothing is refused, and no packet yet
pub record IsTimedBegun (origin : Origin) (hertz : ℕ) (e : EnabledRows) (names : Names) (before : Option (List FileWrite)) (new : TimedTracing) : Type 0 where
  pub allowed : origin_fault origin (ByTime hertz) e names ≡ None
  pub uuid_is : new.uuid ≡ origin.uuid
  pub missed : new.missed ≡ replicate 64 0
  pub told : new.told ≡ replicate 64 0
  pub lasts : new.lasts ≡ replicate 64 []
  pub lost : new.lost ≡ None
  pub last : new.last ≡ None
  pub written : Takes before (codes "metadata") (origin_text origin (ByTime hertz) e names) new.written

-- a place of this kind, as it was, is one that refused the metadata for that
pub record RefusesTimed {F : Type 0} (written : F → Option (List FileWrite)) (origin : Origin) (hertz : ℕ) (e : EnabledRows) (names : Names) (old : F) (fault : FolderFault) : Type 0 where
  pub left : F
  pub refused : Refuses (written old) (codes "metadata") (origin_text origin (ByTime hertz) e names) (written left) fault

-- why no trace is begun: there is no metadata of these names, of this origin and clock, or memory was wanting, or the place refused it
abbrev pub IsTimedFault : {F : Type 0} → (F → Option (List FileWrite)) → Origin → ℕ → EnabledRows → Names → F → FolderFault → Type 0
IsTimedFault written origin hertz e names old (Metadata fault) = (fault ≡ metadata.Memory) ⊎ (origin_fault origin (ByTime hertz) e names ≡ Some fault)
IsTimedFault written origin hertz e names old Memory = Unit {0}
IsTimedFault written origin hertz e names old (Write code) = RefusesTimed written origin hertz e names old (Write code)
IsTimedFault written origin hertz e names old Cut = RefusesTimed written origin hertz e names old Cut
IsTimedFault written origin hertz e names old Read = ⊥
IsTimedFault written origin hertz e names old NotEmpty = ⊥
IsTimedFault written origin hertz e names old (Packet cpu fault) = ⊥
IsTimedFault written origin hertz e names old (Cpu cpu) = ⊥

-- the file of a CPU with this number
abbrev pub row_name : ℕ → ℕ → List ℕ
row_name cpu file = codes "cpu_" ++ (decimal cpu ++ (codes "_" ++ decimal file))

-- a place took these packets one after another, each after those of its file
abbrev pub TakesAll : ℕ → Option (List FileWrite) → List (ℕ × List ℕ) → Option (List FileWrite) → Type 0
TakesAll cpu old [] new = new ≡ old
TakesAll cpu old (p ∷ ps) new = (mid : Option (List FileWrite)) × (Takes old (row_name cpu p.0) p.1 mid × TakesAll cpu mid ps new)

-- what tells how many events a CPU missed by now, where its first file tells another number: two packets of that file
abbrev pub TellsMissed : List ℕ → ℕ → ℕ → ℕ → List ℕ → Option (List FileWrite) → Option (List FileWrite) → Type 0
TellsMissed uuid told missed cpu lasts old new =
    ((missed ≡ told) × (new ≡ old)) ⊎ ((missed ≢ told) × Takes old (row_name cpu 0) (missed_packets uuid told missed cpu lasts) new)

-- that isn't told, for that
abbrev pub TellsNone : List ℕ → ℕ → ℕ → ℕ → List ℕ → Option (List FileWrite) → Option (List FileWrite) → FolderFault → Type 0
TellsNone uuid told missed cpu lasts old new fault =
    (missed ≢ told) × IsNotTaken old (row_name cpu 0) (missed_packets uuid told missed cpu lasts) new fault

module _ (uuid : List ℕ) (e : EnabledRows) (missed cpu : ℕ) (rs : List Record) where
  -- the place took the packet of the run of these records from one place to another
  pub record AddsRun (from : ℕ) (lasts : List ℕ) (old : Option (List FileWrite)) (after : List ℕ) (new : Option (List FileWrite)) (to : ℕ) : Type 0 where
    pub file : ℕ
    pub is_run : IsFileRun lasts rs from (record { file = file; end = to }) after
    pub taken : Takes old (row_name cpu file) (run_packet uuid e missed cpu file (slice_range rs from to)) new

  -- the record at that place goes nowhere, or memory was wanting; nothing is written
  pub record GoesOnNowhere (from : ℕ) (lasts : List ℕ) (old : Option (List FileWrite)) (after : List ℕ) (new : Option (List FileWrite)) (loss : Loss) : Type 0 where
    pub fault : PacketFault
    pub none : HasNoRun lasts rs from fault
    pub told : loss.fault ≡ Packet cpu fault
    pub row : loss.row ≡ None
    pub lasts_same : after ≡ lasts
    pub same : new ≡ old

  -- there is a run, but its packet is too long or memory was wanting, and nothing is written; or the place didn't take it
  pub record RefusesRun (from : ℕ) (lasts : List ℕ) (old : Option (List FileWrite)) (after : List ℕ) (new : Option (List FileWrite)) (loss : Loss) : Type 0 where
    pub file : ℕ
    pub to : ℕ
    pub is_run : IsFileRun lasts rs from (record { file = file; end = to }) after
    pub row : loss.row ≡ Some file
    pub why :
        ((fault : PacketFault) × (IsTooLong (events e (slice_range rs from to)) fault × ((loss.fault ≡ Packet cpu fault) × (new ≡ old))))
        ⊎ IsNotTaken old (row_name cpu file) (run_packet uuid e missed cpu file (slice_range rs from to)) new loss.fault

  -- no run from a place on was written: the records from there on are lost
  pub record StopsRun (from : ℕ) (lasts : List ℕ) (old : Option (List FileWrite)) (after : List ℕ) (new : Option (List FileWrite)) (loss : Loss) : Type 0 where
    pub whose : loss.cpu ≡ cpu
    pub rest : loss.records + from ≡ length rs
    pub why : GoesOnNowhere from lasts old after new loss ⊎ RefusesRun from lasts old after new loss

  -- the place took the packets of all their runs from a place on
  pub record AddsAll (from : ℕ) (lasts : List ℕ) (old : Option (List FileWrite)) (after : List ℕ) (new : Option (List FileWrite)) : Type 0 where
    pub runs : List Run
    pub are_runs : AreRuns lasts rs from runs (length rs) after
    pub taken : TakesAll cpu old (run_packets uuid e missed cpu rs from runs) new

  -- the place took the packets of some runs from a place on, one after another, and not the next: what stands after them is lost
  pub record StopsRuns (from : ℕ) (lasts : List ℕ) (old : Option (List FileWrite)) (after : List ℕ) (new : Option (List FileWrite)) (loss : Loss) : Type 0 where
    pub runs : List Run
    pub to : ℕ
    pub mid : List ℕ
    pub between : Option (List FileWrite)
    pub are_runs : AreRuns lasts rs from runs to mid
    pub taken : TakesAll cpu old (run_packets uuid e missed cpu rs from runs) between
    pub stops : StopsRun to mid between after new loss

-- a CPU's files: how many events they tell as missed, of each the stamp of its last event, and what the place was asked for
pub record CpuFiles : Type 0 where
  pub told : ℕ
  pub lasts : List ℕ
  pub written : Option (List FileWrite)

-- the files of a CPU by what is known of them
abbrev pub files_with : ℕ → List ℕ → Option (List FileWrite) → CpuFiles
files_with told lasts written = record { told = told; lasts = lasts; written = written }

-- Why a batch has no packets, where its CPU missed so many before: the sum goes past 64 bits, its bytes are no text, or memory was wanting.
abbrev pub HasNoRuns : EnabledRows → ℕ → Batch → PacketFault → Type 0
HasNoRuns e before b packet.Missed = 2 ^ 64 ≤ before + b.drops
HasNoRuns e before b (packet.Text fault) = HasNoRecords e b.buffer.text (packet.Text fault)
HasNoRuns e before b packet.Memory = Unit {0}
HasNoRuns e before b (packet.Clock place) = ⊥
HasNoRuns e before b packet.TooLong = ⊥

module _ (uuid : List ℕ) (e : EnabledRows) (before : ℕ) (b : Batch) (old : CpuFiles) where
  -- the place took what tells what was missed by now, and then the packets of all runs of the batch's records, each record in one
  pub record AddsRuns (new : CpuFiles) : Type 0 where
    pub read : List Record
    pub is_text : IsText e b.buffer.text read
    pub mid : Option (List FileWrite)
    pub tells : TellsMissed uuid old.told (before + b.drops) b.cpu old.lasts old.written mid
    pub told : new.told ≡ before + b.drops
    pub added : AddsAll uuid e (before + b.drops) b.cpu read 0 old.lasts mid new.lasts new.written

  -- the batch has no packets, and the place wasn't asked: all of it is lost
  pub record HasNoFile (new : CpuFiles) (loss : Loss) : Type 0 where
    pub same : new ≡ old
    pub fault : PacketFault
    pub none : HasNoRuns e before b fault
    pub has : HasSoManyRecords e b loss.records
    pub loss_is : loss ≡ record { cpu = b.cpu; row = None; fault = Packet b.cpu fault; records = loss.records }

  -- what was missed by now wasn't told: all of the batch is lost
  pub record LosesAll (new : CpuFiles) (loss : Loss) : Type 0 where
    pub told : new.told ≡ old.told
    pub lasts : new.lasts ≡ old.lasts
    pub fault : FolderFault
    pub why : TellsNone uuid old.told (before + b.drops) b.cpu old.lasts old.written new.written fault
    pub has : HasSoManyRecords e b loss.records
    pub loss_is : loss ≡ record { cpu = b.cpu; row = Some 0; fault = fault; records = loss.records }

  -- what was missed by now was told, and the packets of some runs were taken: the records after them are lost
  pub record LosesRest (new : CpuFiles) (loss : Loss) : Type 0 where
    pub read : List Record
    pub is_text : IsText e b.buffer.text read
    pub mid : Option (List FileWrite)
    pub tells : TellsMissed uuid old.told (before + b.drops) b.cpu old.lasts old.written mid
    pub told : new.told ≡ before + b.drops
    pub stops : StopsRuns uuid e (before + b.drops) b.cpu read 0 old.lasts mid new.lasts new.written loss

  -- some of the batch is lost
  abbrev pub LosesRuns : CpuFiles → Loss → Type 0
  LosesRuns new loss = HasNoFile new loss ⊎ (LosesAll new loss ⊎ LosesRest new loss)

-- the same two of what a stream missed before the batch: all of it is added, or some is lost
abbrev pub AddsToStream : Stream → Batch → CpuFiles → CpuFiles → Type 0
AddsToStream s b old new = AddsRuns s.uuid s.enablings.now s.missed b old new

abbrev pub LosesOfStream : Stream → Batch → CpuFiles → CpuFiles → Loss → Type 0
LosesOfStream s b old new loss = LosesRuns s.uuid s.enablings.now s.missed b old new loss

-- how many events the batch's CPU missed before it, and the files of that CPU
pub record HasFiles (t : TimedTracing) (b : Batch) (before : ℕ) (files : CpuFiles) : Type 0 where
  pub missed : slice_get t.missed b.cpu ≡ Some before
  pub told : slice_get t.told b.cpu ≡ Some files.told
  pub lasts : slice_get t.lasts b.cpu ≡ Some files.lasts
  pub written : files.written ≡ t.written

-- the files of the batch's CPU are these now, and the others' as they were
pub record ChangesFiles (old : TimedTracing) (b : Batch) (files : CpuFiles) (new : TimedTracing) : Type 0 where
  pub told : new.told ≡ slice_set old.told b.cpu files.told
  pub lasts : new.lasts ≡ slice_set old.lasts b.cpu files.lasts
  pub written : new.written ≡ files.written

-- the batch is written whole, and what its CPU missed is counted
pub record AddsBatch (e : EnabledRows) (old : TimedTracing) (b : Batch) (new : TimedTracing) : Type 0 where
  pub before : ℕ
  pub files : CpuFiles
  pub has : HasFiles old b before files
  pub after : CpuFiles
  pub added : AddsRuns old.uuid e before b files after
  pub changes : ChangesFiles old b after new
  pub missed : new.missed ≡ slice_set old.missed b.cpu (before + b.drops)
  pub lost : new.lost ≡ old.lost
  pub last : new.last ≡ None

-- what a batch of a CPU that no session has loses, of which nothing is written
pub record HasNoCpu (e : EnabledRows) (old : TimedTracing) (b : Batch) (new : TimedTracing) (loss : Loss) : Type 0 where
  pub beyond : (slice_get old.missed b.cpu ≡ None) ⊎ (slice_get old.lasts b.cpu ≡ None)
  pub has : HasSoManyRecords e b loss.records
  pub loss_is : loss ≡ record { cpu = b.cpu; row = None; fault = Cpu b.cpu; records = loss.records }
  pub told : new.told ≡ old.told
  pub lasts : new.lasts ≡ old.lasts
  pub written : new.written ≡ old.written

-- what a batch loses of which some isn't written
pub record LosesOfFiles (e : EnabledRows) (old : TimedTracing) (b : Batch) (new : TimedTracing) (loss : Loss) : Type 0 where
  pub before : ℕ
  pub files : CpuFiles
  pub has : HasFiles old b before files
  pub after : CpuFiles
  pub loses : LosesRuns old.uuid e before b files after loss
  pub changes : ChangesFiles old b after new

-- why a batch isn't written whole, and what it loses
abbrev pub IsBatchLoss : EnabledRows → TimedTracing → Batch → TimedTracing → Loss → Type 0
IsBatchLoss e old b new loss = HasNoCpu e old b new loss ⊎ LosesOfFiles e old b new loss

-- The batch isn't written whole. What isn't written is counted: the records that are lost, and the drops that the batch carried, are what its CPU
-- missed.
pub record LosesBatch (e : EnabledRows) (old : TimedTracing) (b : Batch) (new : TimedTracing) : Type 0 where
  pub loss : Loss
  pub why : IsBatchLoss e old b new loss
  pub missed : new.missed ≡ missed_more old.missed b.cpu (b.drops + loss.records)
  pub lost : new.lost ≡ lost_more old.lost loss
  pub last : new.last ≡ Some loss

-- What a batch makes of the trace. What its CPU missed is told where the files don't tell it yet, then the packets of all runs of its records are
-- taken, each record in one; or some of that isn't, and is counted.
pub record GetsRuns (e : EnabledRows) (old : TimedTracing) (b : Batch) (new : TimedTracing) : Type 0 where
  pub uuid : new.uuid ≡ old.uuid
  pub came : AddsBatch e old b new ⊎ LosesBatch e old b new
