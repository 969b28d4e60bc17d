-- What one batch brings to the files of its CPU by time, where some of it may be lost.
use Rattle.std.proofs.Common.{◌≡◌, ◌<◌, ◌≤◌, ◌+◌, ◌^◌, ◌++◌, inl, inr, ℕ, List, [], ap, Option, Some, sym, subst, ◌∙◌, arith, length, All, slice_index}
use Rattle.std.proofs.lemmas.{Bool.Decides.nat_tests, List.append-nil}
use Rattle.std.specs.Prelude.{slice_range}
use Rattle.dspec_trace_reading.specs.Words.{Record, EnabledRows, AddsRuns, ChangesFiles, CpuFiles, FileWrite, file_of, HasFiles, IsNotTaken, LosesAll, LosesRest, RefusesRun, row_name, StopsRun}
use Rattle.dspec_trace_reading.specs.Words.{TellsMissed, TimedTracing, Batch, Names, FolderFault, Loss}
use Rattle.dspec_record.specs.declared.header.Header.TheVariants as header
use Rattle.dspec_ctf_sink.proofs.Written.{file_of_more}
use Rattle.dspec_trace_reading.proofs.{Filing.Filed, Filing.add, Filing.add_to, Filing.still_filed, Filing.tell, Losing.refused_there, TimedAsking.lasts_now, TimedAsking.lasts_of}
use Rattle.dspec_trace_reading.proofs.{TimedAsking.lasts_then, TimedAsking.told_now, TimedAsking.told_then}
use Rattle.dspec_filing_reading.proofs.{FilesLaws.FilesLaws, Fronts.all_accepted, Sharing.FilesHaveAll, Sharing.RunsHaveAll, Sharing.lasts_after, Sharing.stamps_low}

-- a place was asked for nothing that it took: every file stays
abbrev pub StaysSame : Option (List FileWrite) → List FileWrite → Type 0
StaysSame new was = (added : List FileWrite) × ((new ≡ Some (was ++ added)) × ((name : List ℕ) → file_of name (was ++ added) ≡ file_of name was))

pub unasked : (old new : Option (List FileWrite)) (was : List FileWrite) → old ≡ Some was → new ≡ old → StaysSame new was
unasked old new was asked same = ([], (same ∙ asked ∙ ap Some (sym (append-nil was)), λ name. ap (λ ws. file_of name ws) (append-nil was)))

pub not_taken : (old new : Option (List FileWrite)) (was : List FileWrite) (name bytes : List ℕ) (fault : FolderFault) → old ≡ Some was → IsNotTaken old name bytes new fault
    → StaysSame new was
not_taken = grind (arith, nat_tests, unasked, refused_there, file_of_more, append-nil)

-- a run that isn't written
module _ (uuid : List ℕ) (e : EnabledRows) (missed cpu : ℕ) (rs : List Record) (from : ℕ) (lasts : List ℕ) (old : Option (List FileWrite)) (after : List ℕ) (new : Option (List FileWrite))
    (loss : Loss) where
  refused : (was : List FileWrite) → old ≡ Some was → RefusesRun uuid e missed cpu rs from lasts old after new loss → StaysSame new was
  refused was asked r = elim r.why [
    | inl t ↦ unasked old new was asked t.1.1.1
    | inr n ↦ not_taken old new was _ _ loss.fault asked n
  ]

  pub stopped : (was : List FileWrite) → old ≡ Some was → StopsRun uuid e missed cpu rs from lasts old after new loss → StaysSame new was
  stopped was asked s = elim s.why [
    | inl n ↦ unasked old new was asked n.same
    | inr r ↦ refused was asked r
  ]

  pub stopped_lasts : FilesHaveAll → RunsHaveAll → length lasts ≤ 64 → slice_index lasts 0 < 2 ^ 64 → All (λ r. r.stamp < 2 ^ 64) rs
      → StopsRun uuid e missed cpu rs from lasts old after new loss → (length after ≤ 64) × (slice_index after 0 < 2 ^ 64)
  stopped_lasts files_law runs_law few first low s = elim s.why [
    | inl n ↦ (subst (λ (xs : List ℕ). length xs ≤ 64) (sym n.lasts_same) few, subst (λ (xs : List ℕ). slice_index xs 0 < 2 ^ 64) (sym n.lasts_same) first)
    | inr r ↦ lasts_after files_law runs_law lasts rs from (record { file = r.file; end = r.to }) after few first low r.is_run
  ]

module _ (laws : FilesLaws) (e : EnabledRows) (names : Names) (hertz : ℕ) (stamped : e.header ≡ header.Two) (uuid : List ℕ) (long : length uuid ≡ 16) (before : ℕ) (b : Batch) (low : b.cpu < 64)
    (old new : CpuFiles) (stream : List Record) where
  -- what files of the batch's CPU tell
  abbrev pub Have : CpuFiles → List Record → Type 0
  Have files rs = Filed uuid e names hertz b.cpu files.written files.lasts files.told rs

  -- what was missed by now is told
  told_first : (mid : Option (List FileWrite)) → old.told ≤ before → before + b.drops < 2 ^ 64 → Have old stream
      → TellsMissed uuid old.told (before + b.drops) b.cpu old.lasts old.written mid → Filed uuid e names hertz b.cpu mid old.lasts (before + b.drops) stream
  told_first mid rises small f tells =
      tell laws uuid e names hertz b.cpu low long stamped old.written mid old.lasts old.told (before + b.drops) stream (omega (arith, rises)) small f tells

  -- and then all of its records
  pub all_added : old.told ≤ before → before + b.drops < 2 ^ 64 → Have old stream → (adds : AddsRuns uuid e before b old new) → Have new (stream ++ adds.read)
  all_added rises small f adds =
      subst (λ n. Filed uuid e names hertz b.cpu new.written new.lasts n (stream ++ adds.read)) (sym adds.told)
      (add laws uuid e names hertz b.cpu low long stamped adds.mid new.written old.lasts new.lasts (before + b.drops) stream adds.read small
      (all_accepted e adds.read 0 b.buffer.text adds.is_text) (told_first adds.mid rises small f adds.tells) adds.added)

  -- or its first
  pub front_added : (loss : Loss) → old.told ≤ before → before + b.drops < 2 ^ 64 → Have old stream → (rest : LosesRest uuid e before b old new loss)
      → Have new (stream ++ slice_range rest.read 0 rest.stops.to)
  front_added loss rises small f rest =
      let total : ℕ = before + b.drops in
      let s = rest.stops in
      let accepted = all_accepted e rest.read 0 b.buffer.text rest.is_text in
      let some : Filed uuid e names hertz b.cpu s.between s.mid total (stream ++ slice_range rest.read 0 s.to) =
      add_to laws uuid e names hertz b.cpu low long stamped rest.mid s.between old.lasts s.mid total stream rest.read s.runs s.to small accepted (told_first rest.mid rises small f rest.tells)
      s.are_runs s.taken in
      let still = stopped uuid e total b.cpu rest.read s.to s.mid s.between new.lasts new.written loss some.writes some.asked s.stops in
      let lasts = stopped_lasts uuid e total b.cpu rest.read s.to s.mid s.between new.lasts new.written loss laws.have_all laws.runs_have some.few some.first
      (stamps_low e rest.read accepted) s.stops in
      subst (λ n. Filed uuid e names hertz b.cpu new.written new.lasts n (stream ++ slice_range rest.read 0 s.to)) (sym rest.told)
      (still_filed uuid e names hertz b.cpu s.between new.written s.mid new.lasts total (stream ++ slice_range rest.read 0 s.to) some (some.writes ++ still.0) still.1.0
      (λ file few. still.1.1 (row_name b.cpu file)) lasts.0 lasts.1)

  -- or none, where what was missed wasn't told
  pub none_added : (loss : Loss) → Have old stream → LosesAll uuid e before b old new loss → Have new stream
  none_added loss f all =
      let still = not_taken old.written new.written f.writes _ _ all.fault f.asked all.why.1 in
      subst (λ n. Filed uuid e names hertz b.cpu new.written new.lasts n stream) (sym all.told)
      (still_filed uuid e names hertz b.cpu old.written new.written old.lasts new.lasts old.told stream f (f.writes ++ still.0) still.1.0 (λ file few. still.1.1 (row_name b.cpu file))
      (subst (λ (xs : List ℕ). length xs ≤ 64) (sym all.lasts) f.few) (subst (λ (xs : List ℕ). slice_index xs 0 < 2 ^ 64) (sym all.lasts) f.first))

-- what a trace's files of a CPU tell
abbrev pub HasFiled : List ℕ → EnabledRows → Names → ℕ → ℕ → TimedTracing → List Record → Type 0
HasFiled uuid e names hertz c t rs = Filed uuid e names hertz c t.written (lasts_of t c) (slice_index t.told c) rs

-- the trace's files of the batch's CPU are these
module _ (uuid : List ℕ) (e : EnabledRows) (names : Names) (hertz : ℕ) (old new : TimedTracing) (b : Batch) (before : ℕ) (files after : CpuFiles) (has : HasFiles old b before files)
    (changes : ChangesFiles old b after new) (stream : List Record) where
  pub filed_then : HasFiled uuid e names hertz b.cpu old stream → Filed uuid e names hertz b.cpu files.written files.lasts files.told stream
  filed_then f =
      subst (λ o. Filed uuid e names hertz b.cpu o files.lasts files.told stream) (sym has.written)
      (subst (λ xs. Filed uuid e names hertz b.cpu old.written xs files.told stream) (sym (lasts_then old new b before files after has changes))
      (subst (λ n. Filed uuid e names hertz b.cpu old.written (lasts_of old b.cpu) n stream) (sym (told_then old new b before files after has changes)) f))

  pub filed_now : Filed uuid e names hertz b.cpu after.written after.lasts after.told stream → HasFiled uuid e names hertz b.cpu new stream
  filed_now f =
      subst (λ o. Filed uuid e names hertz b.cpu o (lasts_of new b.cpu) (slice_index new.told b.cpu) stream) (sym changes.written)
      (subst (λ xs. Filed uuid e names hertz b.cpu after.written xs (slice_index new.told b.cpu) stream) (sym (lasts_now old new b before files after has changes))
      (subst (λ n. Filed uuid e names hertz b.cpu after.written after.lasts n stream) (sym (told_now old new b before files after has changes)) f))
