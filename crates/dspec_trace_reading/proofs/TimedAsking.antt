-- What one batch asks of a folder by time, where nothing is lost.
use Rattle.std.proofs.Common.{arith, ◌≡◌, ◌≢◌, ◌<◌, ◌+◌, ℕ, List, [], ◌∷◌, ◌++◌, Some, None, get_or, sym, ap, ◌∙◌, append_assoc, length, slice_index}
use Rattle.std.proofs.lemmas.{Bool.Decides.nat_tests, List.get_or-set_same, List.get_or-set_other, Option.slice_get_within, Option.get_or_from_slice_get}
use Rattle.dspec_trace_reading.specs.Words.{EnabledRows, Passed, GotAll, run_packets, AddsBatch, ChangesFiles, CpuFiles, GetsRuns, HasFiles, TimedTracing, row_name, FileWrite, file_of}
use Rattle.dspec_trace_reading.specs.Words.{missed_by_time, Batch}
use Rattle.dspec_trace_reading.proofs.{Asking.some_lost, Taking.Telling, Taking.row_writes, Taking.stays_elsewhere, Taking.telling, Taking.took_all}

-- the last stamps of a CPU's files
abbrev pub lasts_of : TimedTracing → ℕ → List ℕ
lasts_of t c = get_or t.lasts c []

-- what is known of the files of a batch's CPU, before it and after it
module _ (old new : TimedTracing) (b : Batch) (before : ℕ) (files after : CpuFiles) (has : HasFiles old b before files) (changes : ChangesFiles old b after new) where
  pub told_now : slice_index new.told b.cpu ≡ after.told
  told_now = grind (arith, nat_tests, get_or-set_same, slice_get_within)

  pub told_then : files.told ≡ slice_index old.told b.cpu
  told_then = sym (get_or_from_slice_get old.told b.cpu files.told 0 has.told)

  pub told_others : (c : ℕ) → b.cpu ≢ c → slice_index new.told c ≡ slice_index old.told c
  told_others c apart = ap (λ (xs : List ℕ). slice_index xs c) changes.told ∙ get_or-set_other old.told b.cpu c after.told 0 (λ s. apart (sym s))

  pub lasts_now : lasts_of new b.cpu ≡ after.lasts
  lasts_now = grind (arith, nat_tests, get_or-set_same, slice_get_within)

  pub lasts_then : files.lasts ≡ lasts_of old b.cpu
  lasts_then = sym (get_or_from_slice_get old.lasts b.cpu files.lasts [] has.lasts)

  pub lasts_others : (c : ℕ) → b.cpu ≢ c → lasts_of new c ≡ lasts_of old c
  lasts_others c apart = ap (λ (xs : List (List ℕ)). get_or xs c []) changes.lasts ∙ get_or-set_other old.lasts b.cpu c after.lasts [] (λ s. apart (sym s))

  pub missed_then : before ≡ missed_by_time old b.cpu
  missed_then = sym (get_or_from_slice_get old.missed b.cpu before 0 has.missed)

module _ (e : EnabledRows) where
  -- the batch was written whole
  pub came : (old new : TimedTracing) (b : Batch) → GetsRuns e old b new → new.lost ≡ None → AddsBatch e old b new
  came old new b gets none = grind (arith, nat_tests, some_lost)

  pub none_before : (bs : List Passed) (old new : TimedTracing) → GotAll (GetsRuns e) old bs new → new.lost ≡ None → old.lost ≡ None
  none_before [] old new got none = ap (λ (t : TimedTracing). t.lost) got ∙ none
  none_before (x ∷ xs) old new (mid, gets, rest) none = grind (arith, nat_tests, none_before xs mid new rest none, came)

  module _ (old new : TimedTracing) (b : Batch) (adds : AddsBatch e old b new) where
    -- what the place was asked for then
    tells : Telling old.uuid adds.files.told (adds.before + b.drops) b.cpu adds.files.lasts adds.files.written adds.added.mid
    tells = telling old.uuid adds.files.told (adds.before + b.drops) b.cpu adds.files.lasts adds.files.written adds.added.mid adds.added.tells

    run_parts : List (ℕ × List ℕ)
    run_parts = run_packets old.uuid e (adds.before + b.drops) b.cpu adds.added.read 0 adds.added.added.runs

    pub added : List FileWrite
    added = row_writes b.cpu tells.packets ++ row_writes b.cpu run_parts

    pub asked_then : (was : List FileWrite) → old.written ≡ Some was → new.written ≡ Some (was ++ added)
    unfolding added run_parts
    asked_then was asked =
        adds.changes.written
        ∙ took_all b.cpu run_parts adds.added.mid adds.after.written (was ++ row_writes b.cpu tells.packets)
        (took_all b.cpu tells.packets adds.files.written adds.added.mid was (adds.has.written ∙ asked) tells.takes) adds.added.added.taken
        ∙ ap Some (append_assoc was (row_writes b.cpu tells.packets) (row_writes b.cpu run_parts))

    pub stays_then : (name : List ℕ) → ((file : ℕ) → row_name b.cpu file ≢ name) → (was : List FileWrite) → file_of name (was ++ added) ≡ file_of name was
    unfolding added
    stays_then name apart was =
        ap (λ ws. file_of name ws) (sym (append_assoc was (row_writes b.cpu tells.packets) (row_writes b.cpu run_parts)))
        ∙ stays_elsewhere b.cpu name apart (was ++ row_writes b.cpu tells.packets) run_parts ∙ stays_elsewhere b.cpu name apart was tells.packets

    -- what is known of the CPU's files
    within : b.cpu < length old.missed
    within = slice_get_within old.missed b.cpu adds.before adds.has.missed

    pub missed_here : missed_by_time new b.cpu ≡ adds.before + b.drops
    missed_here = ap (λ (xs : List ℕ). slice_index xs b.cpu) adds.missed ∙ get_or-set_same old.missed b.cpu (adds.before + b.drops) 0 within

    pub missed_before : adds.before ≡ missed_by_time old b.cpu
    missed_before = missed_then old new b adds.before adds.files adds.after adds.has adds.changes

    pub missed_elsewhere : (c : ℕ) → b.cpu ≢ c → missed_by_time new c ≡ missed_by_time old c
    missed_elsewhere c apart = ap (λ (xs : List ℕ). slice_index xs c) adds.missed ∙ get_or-set_other old.missed b.cpu c (adds.before + b.drops) 0 (λ s. apart (sym s))

    pub told_here : slice_index new.told b.cpu ≡ adds.before + b.drops
    told_here = told_now old new b adds.before adds.files adds.after adds.has adds.changes ∙ adds.added.told

    pub told_elsewhere : (c : ℕ) → b.cpu ≢ c → slice_index new.told c ≡ slice_index old.told c
    told_elsewhere c apart = told_others old new b adds.before adds.files adds.after adds.has adds.changes c apart

    pub lasts_elsewhere : (c : ℕ) → b.cpu ≢ c → lasts_of new c ≡ lasts_of old c
    lasts_elsewhere c apart = lasts_others old new b adds.before adds.files adds.after adds.has adds.changes c apart
