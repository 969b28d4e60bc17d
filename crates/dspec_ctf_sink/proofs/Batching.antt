-- A batch by time is added to its CPU's files, or lost.
use Rattle.std.proofs.{Common.arith, Common.◌≡◌, Common.◌⊎◌, Common.◌+◌, Common.ℕ, Common.List, Common.inl, Common.inr, Common.refl, Common.subst, lemmas.Bool.Decides.nat_tests}
use Rattle.std.specs.Prelude.{Option, Some, None, slice_get, slice_set}
use Rattle.dspec_ctf_sink.specs.Words.{Record, EnabledRows, IsText, HasSoManyRecords, lost_more, missed_more, FileWrite, AddsAll, AddsBatch, AddsRuns, CpuFiles, GetsRuns, HasNoRuns, IsBatchLoss}
use Rattle.dspec_ctf_sink.specs.Words.{LosesRuns, StopsRuns, TellsMissed, TellsNone, TimedTracing, Batch, PacketFault}
use Rattle.dspec_ctf_sink.specs.declared.{fault.FolderFault.FolderFault, fault.FolderFault.TheVariants.Cpu, fault.FolderFault.TheVariants.Packet, losing.Loss.Loss}
use Rattle.dspec_ctf_sink.proofs.Following.{of_cpu}

-- a CPU's files, by their parts
abbrev pub files : ℕ → List ℕ → Option (List FileWrite) → CpuFiles
files told lasts written = record { told = told; lasts = lasts; written = written }

module _ (uuid : List ℕ) (e : EnabledRows) (before total cpu : ℕ) (b : Batch) (told : ℕ) (lasts : List ℕ) (was : Option (List FileWrite)) where
  -- it has no packets
  pub no-file : (f : PacketFault) (fault : FolderFault) (loss : Loss) → HasNoRuns e before b f → fault ≡ Packet b.cpu f → HasSoManyRecords e b loss.records
      → loss ≡ of_cpu b.cpu None fault loss.records → LosesRuns uuid e before b (files told lasts was) (files told lasts was) loss
  no-file f fault loss none is has loss_is = grind (arith, nat_tests)

  -- what was missed isn't told
  pub loses-all : (is : Option (List FileWrite)) (fault : FolderFault) (loss : Loss) → total ≡ before + b.drops → cpu ≡ b.cpu → TellsNone uuid told total cpu lasts was is fault
      → HasSoManyRecords e b loss.records → loss ≡ of_cpu b.cpu (Some 0) fault loss.records → LosesRuns uuid e before b (files told lasts was) (files told lasts is) loss
  loses-all is fault loss sum same none has loss_is = grind (arith, nat_tests)

  module _ (rs : List Record) (mid is : Option (List FileWrite)) (after : List ℕ) (sum : total ≡ before + b.drops) (same : cpu ≡ b.cpu) (read : IsText e b.buffer.text rs)
      (tells : TellsMissed uuid told total cpu lasts was mid) where
    told-now : TellsMissed uuid told (before + b.drops) b.cpu lasts was mid
    told-now = subst (λ n. TellsMissed uuid told n b.cpu lasts was mid) sum (subst (λ c. TellsMissed uuid told total c lasts was mid) same tells)

    -- some runs are written, and the rest is lost
    pub loses-rest : (loss : Loss) → StopsRuns uuid e total cpu rs 0 lasts mid after is loss → LosesRuns uuid e before b (files told lasts was) (files total after is) loss
    loses-rest loss stops = inr (inr (record {
      read = rs;
      is_text = read;
      mid = mid;
      tells = told-now;
      told = sum;
      stops = subst (λ n. StopsRuns uuid e n b.cpu rs 0 lasts mid after is loss) sum (subst (λ c. StopsRuns uuid e total c rs 0 lasts mid after is loss) same stops);
    }))

    -- all runs are
    pub adds-runs : AddsAll uuid e total cpu rs 0 lasts mid after is → AddsRuns uuid e before b (files told lasts was) (files total after is)
    adds-runs added = record {
      read = rs;
      is_text = read;
      mid = mid;
      tells = told-now;
      told = sum;
      added = subst (λ n. AddsAll uuid e n b.cpu rs 0 lasts mid after is) sum (subst (λ c. AddsAll uuid e total c rs 0 lasts mid after is) same added);
    }

-- the trace, by its parts
abbrev pub timed : List ℕ → List ℕ → List ℕ → List (List ℕ) → Option (List FileWrite) → Option Loss → Option Loss → TimedTracing
timed uuid missed told lasts written lost last =
    record { uuid = uuid; missed = missed; told = told; lasts = lasts; written = written; lost = lost; last = last }

module _ (e : EnabledRows) (uuid missed told : List ℕ) (lasts : List (List ℕ)) (was : Option (List FileWrite)) (lost last : Option Loss) (old : TimedTracing) (b : Batch)
    (view : timed uuid missed told lasts was lost last ≡ old) where
  -- no such CPU
  pub no-cpu : (loss : Loss) → (slice_get missed b.cpu ≡ None) ⊎ (slice_get lasts b.cpu ≡ None) → HasSoManyRecords e b loss.records
      → loss ≡ of_cpu b.cpu None (Cpu b.cpu) loss.records → IsBatchLoss e old b (timed uuid missed told lasts was lost last) loss
  no-cpu loss beyond has loss_is = subst (λ o. IsBatchLoss e o b (timed uuid missed told lasts was lost last) loss) view
      (inl (record { beyond = beyond; has = has; loss_is = loss_is; told = refl; lasts = refl; written = refl }))

  module _ (before t : ℕ) (known : List ℕ) (there : slice_get missed b.cpu ≡ Some before) (is_told : slice_get told b.cpu ≡ Some t) (here : slice_get lasts b.cpu ≡ Some known)
      (after : ℕ) (rows : List ℕ) (is : Option (List FileWrite)) where
    -- its batch is added
    pub adds-batch : (total : ℕ) → total ≡ before + b.drops → AddsRuns uuid e before b (files t known was) (files after rows is)
        → AddsBatch e old b (timed uuid (slice_set missed b.cpu total) (slice_set told b.cpu after) (slice_set lasts b.cpu rows) is lost None)
    adds-batch total sum added =
        subst (λ o. AddsBatch e o b (timed uuid (slice_set missed b.cpu total) (slice_set told b.cpu after) (slice_set lasts b.cpu rows) is lost None)) view
        (record {
          before = before;
          files = files t known was;
          has = record { missed = there; told = is_told; lasts = here; written = refl };
          after = files after rows is;
          added = added;
          changes = record { told = refl; lasts = refl; written = refl };
          missed = λ i. slice_set missed b.cpu (sum i);
          lost = refl;
          last = refl;
        })

    -- or some of it is lost
    pub loses-some : (loss : Loss) → LosesRuns uuid e before b (files t known was) (files after rows is) loss
        → IsBatchLoss e old b (timed uuid missed (slice_set told b.cpu after) (slice_set lasts b.cpu rows) is lost last) loss
    loses-some loss loses =
        subst (λ o. IsBatchLoss e o b (timed uuid missed (slice_set told b.cpu after) (slice_set lasts b.cpu rows) is lost last) loss) view
        (inr (record {
          before = before;
          files = files t known was;
          has = record { missed = there; told = is_told; lasts = here; written = refl };
          after = files after rows is;
          loses = loses;
          changes = record { told = refl; lasts = refl; written = refl };
        }))

-- what is lost stays so while it is counted
moved : (e : EnabledRows) (old mid new : TimedTracing) (b : Batch) (loss : Loss) → new.told ≡ mid.told → new.lasts ≡ mid.lasts → new.written ≡ mid.written
    → IsBatchLoss e old b mid loss → IsBatchLoss e old b new loss
moved = grind (arith, nat_tests)

-- what is lost is counted
pub loses-batch : (e : EnabledRows) (uuid missed told : List ℕ) (lasts : List (List ℕ)) (written : Option (List FileWrite)) (lost last : Option Loss) (counts : List ℕ)
    (sum : Option Loss) (old mid : TimedTracing) (b : Batch) (loss : Loss) → timed uuid missed told lasts written lost last ≡ mid → IsBatchLoss e old b mid loss
    → mid.uuid ≡ old.uuid → mid.missed ≡ old.missed → mid.lost ≡ old.lost → counts ≡ missed_more missed b.cpu (b.drops + loss.records) → sum ≡ lost_more lost loss
    → GetsRuns e old b (timed uuid counts told lasts written sum (Some loss))
loses-batch e uuid missed told lasts written lost last counts sum old mid b loss view why same missed-same lost-same counted summed = grind (arith, nat_tests, moved)
