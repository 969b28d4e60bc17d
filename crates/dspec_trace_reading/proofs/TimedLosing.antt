-- What one batch makes of a trace by time, where some of it may be lost.
use Rattle.std.proofs.Common.{◌≡◌, ◌≢◌, ◌<◌, ◌≤◌, ◌+◌, ◌^◌, ◌++◌, ◌⊎◌, inl, inr, ℕ, List, [], Some, None, sym, ap, subst, ◌∙◌, append_assoc, arith, length, length-set, get_or, slice_index}
use Rattle.std.proofs.lemmas.{List.get_or-set_same, List.get_or-set_other, Option.slice_get_within}
use Rattle.dspec_trace_reading.specs.Words.{Record, EnabledRows, IsText, run_packets, AddsBatch, capped, FileWrite, file_of, IsBatchLoss, LosesBatch, LosesOfFiles, LosesRest, row_name, TimedTracing}
use Rattle.dspec_trace_reading.specs.Words.{missed_by_time, Batch, Loss}
use Rattle.dspec_trace_reading.proofs.{Asking.some_lost, Losing.at_most, Losing.uncapped, Taking.Telling, Taking.row_writes, Taking.stays_elsewhere, Taking.telling, Taking.took_all}
use Rattle.dspec_trace_reading.proofs.{TimedAsking.asked_then, TimedAsking.lasts_elsewhere, TimedAsking.lasts_of, TimedAsking.lasts_others, TimedAsking.missed_before, TimedAsking.missed_elsewhere}
use Rattle.dspec_trace_reading.proofs.{TimedAsking.missed_here, TimedAsking.stays_then, TimedAsking.told_elsewhere, TimedAsking.told_others, TimedAsking.added, TimedFiles.StaysSame}
use Rattle.dspec_trace_reading.proofs.{TimedFiles.not_taken, TimedFiles.stopped, TimedFiles.unasked}

-- what may come of a batch
abbrev pub CameByTime : EnabledRows → TimedTracing → Batch → TimedTracing → Type 0
CameByTime e old b new = AddsBatch e old b new ⊎ LosesBatch e old b new

-- nothing was lost, or 64 bits are enough for what the CPU missed
abbrev pub IsExactByTime : ℕ → TimedTracing → Type 0
IsExactByTime c t = (t.lost ≡ None) ⊎ (missed_by_time t c + 1 < 2 ^ 64)

-- of a batch of which something is lost they are
pub small_then : (e : EnabledRows) (old new : TimedTracing) (b : Batch) (c : ℕ) → LosesBatch e old b new → IsExactByTime c new → missed_by_time new c + 1 < 2 ^ 64
small_then e old new b c loses (inl none) = absurd (some_lost old.lost loses.loss (sym loses.lost ∙ none))
small_then e old new b c loses (inr small) = small

-- the place was asked for these writes, after which each file stays that isn't of this CPU
abbrev pub StayElsewhere : TimedTracing → Batch → TimedTracing → List FileWrite → Type 0
StayElsewhere old b new was = (added : List FileWrite) × ((new.written ≡ Some (was ++ added))
    × ((name : List ℕ) → (b.cpu < length old.missed → (file : ℕ) → row_name b.cpu file ≢ name) → file_of name (was ++ added) ≡ file_of name was))

-- what a batch leaves as it was
pub record Leaves (old : TimedTracing) (b : Batch) (new : TimedTracing) : Type 0 where
  pub wide : length new.missed ≡ length old.missed
  pub missed : (c : ℕ) → b.cpu ≢ c → missed_by_time new c ≡ missed_by_time old c
  pub told : (c : ℕ) → b.cpu ≢ c → slice_index new.told c ≡ slice_index old.told c
  pub lasts : (c : ℕ) → b.cpu ≢ c → lasts_of new c ≡ lasts_of old c
  pub files : (was : List FileWrite) → old.written ≡ Some was → StayElsewhere old b new was

module _ (e : EnabledRows) (old new : TimedTracing) (b : Batch) where
  same_all : (was : List FileWrite) → StaysSame new.written was → StayElsewhere old b new was
  same_all was s = (s.0, (s.1.0, λ name apart. s.1.1 name))

  -- the files of other CPUs, where the first records of the batch were written
  rest_files : (loss : Loss) (l : LosesOfFiles e old b new loss) → LosesRest old.uuid e l.before b l.files l.after loss → (was : List FileWrite) → old.written ≡ Some was
      → StayElsewhere old b new was
  rest_files loss l r was asked =
      let total : ℕ = l.before + b.drops in
      let s = r.stops in
      let t : Telling old.uuid l.files.told total b.cpu l.files.lasts l.files.written r.mid = telling old.uuid l.files.told total b.cpu l.files.lasts l.files.written r.mid r.tells in
      let first : List FileWrite = was ++ row_writes b.cpu t.packets in
      let parts : List (ℕ × List ℕ) = run_packets old.uuid e total b.cpu r.read 0 s.runs in
      let then : s.between ≡ Some (first ++ row_writes b.cpu parts) =
      took_all b.cpu parts r.mid s.between first (took_all b.cpu t.packets l.files.written r.mid was (l.has.written ∙ asked) t.takes) s.taken in
      let still = stopped old.uuid e total b.cpu r.read s.to s.mid s.between l.after.lasts l.after.written loss (first ++ row_writes b.cpu parts) then s.stops in
      let both : (first ++ row_writes b.cpu parts) ++ still.0 ≡ was ++ (row_writes b.cpu t.packets ++ (row_writes b.cpu parts ++ still.0)) =
      append_assoc first (row_writes b.cpu parts) still.0 ∙ append_assoc was (row_writes b.cpu t.packets) (row_writes b.cpu parts ++ still.0) in (
        row_writes b.cpu t.packets ++ (row_writes b.cpu parts ++ still.0),
        (
          l.changes.written ∙ still.1.0 ∙ ap Some both,
          λ name apart.
              let other = apart (slice_get_within old.missed b.cpu l.before l.has.missed) in
              ap (λ ws. file_of name ws) (sym both) ∙ still.1.1 name ∙ stays_elsewhere b.cpu name other first parts ∙ stays_elsewhere b.cpu name other was t.packets,
        ),
      )

  part_files : (loss : Loss) → LosesOfFiles e old b new loss → (was : List FileWrite) → old.written ≡ Some was → StayElsewhere old b new was
  part_files loss l was asked = elim l.loses [
    | inl n ↦ same_all was (unasked old.written new.written was asked (l.changes.written ∙ ap (λ f. f.written) n.same ∙ l.has.written))
    | inr (inl a) ↦
        let still = not_taken l.files.written l.after.written was _ _ a.fault (l.has.written ∙ asked) a.why.1 in
        same_all was (still.0, (l.changes.written ∙ still.1.0, still.1.1))
    | inr (inr r) ↦ rest_files loss l r was asked
  ]

  module _ (loses : LosesBatch e old b new) where
    lost_wide : length new.missed ≡ length old.missed
    lost_wide = ap length loses.missed ∙ length-set old.missed b.cpu _

    lost_missed : (c : ℕ) → b.cpu ≢ c → missed_by_time new c ≡ missed_by_time old c
    lost_missed c apart = ap (λ (xs : List ℕ). slice_index xs c) loses.missed ∙ get_or-set_other old.missed b.cpu c _ 0 (λ s. apart (sym s))

    lost_leaves : Leaves old b new
    lost_leaves = elim loses.why [
      | inl n ↦ record {
        wide = lost_wide;
        missed = lost_missed;
        told = λ c apart. ap (λ (xs : List ℕ). slice_index xs c) n.told;
        lasts = λ c apart. ap (λ (xs : List (List ℕ)). get_or xs c []) n.lasts;
        files = λ was asked. same_all was (unasked old.written new.written was asked n.written);
      }
      | inr l ↦ record {
        wide = lost_wide;
        missed = lost_missed;
        told = λ c apart. told_others old new b l.before l.files l.after l.has l.changes c apart;
        lasts = λ c apart. lasts_others old new b l.before l.files l.after l.has l.changes c apart;
        files = λ was asked. part_files loses.loss l was asked;
      }
    ]

  pub leaves : CameByTime e old b new → Leaves old b new
  leaves (inl adds) = record {
    wide = ap length adds.missed ∙ length-set old.missed b.cpu (adds.before + b.drops);
    missed = λ c apart. missed_elsewhere e old new b adds c apart;
    told = λ c apart. told_elsewhere e old new b adds c apart;
    lasts = λ c apart. lasts_elsewhere e old new b adds c apart;
    files = λ was asked. (
      added e old new b adds,
      (
        asked_then e old new b adds was asked,
        λ name apart. stays_then e old new b adds name (apart (slice_get_within old.missed b.cpu adds.before adds.has.missed)) was,
      ),
    );
  }
  leaves (inr loses) = lost_leaves loses

module _ (e : EnabledRows) (old new : TimedTracing) (b : Batch) (low : b.cpu < 64) (wide : length old.missed ≡ 64) where
  -- what its CPU missed is counted as far as 64 bits go
  lost_counted : (loses : LosesBatch e old b new) → missed_by_time new b.cpu ≡ capped (missed_by_time old b.cpu + (b.drops + loses.loss.records))
  lost_counted loses = ap (λ (xs : List ℕ). slice_index xs b.cpu) loses.missed ∙ get_or-set_same old.missed b.cpu _ 0 (omega (arith, low, wide))

  -- all of it is, where they are enough
  pub exact : missed_by_time new b.cpu + 1 < 2 ^ 64 → (loses : LosesBatch e old b new) → missed_by_time new b.cpu ≡ missed_by_time old b.cpu + (b.drops + loses.loss.records)
  exact small loses = lost_counted loses ∙ uncapped _ (subst (λ n. n + 1 < 2 ^ 64) (lost_counted loses) small)

  pub own_rises : IsExactByTime b.cpu new → CameByTime e old b new → missed_by_time old b.cpu ≤ missed_by_time new b.cpu
  own_rises is (inl adds) = omega (arith, missed_here e old new b adds, missed_before e old new b adds)
  own_rises is (inr loses) = omega (arith, exact (small_then e old new b b.cpu loses is) loses)

module _ (e : EnabledRows) (b : Batch) (rs : List Record) (is_text : IsText e b.buffer.text rs) (unique : (qs : List Record) → IsText e b.buffer.text qs → qs ≡ rs) where
  module _ (old new : TimedTracing) (low : b.cpu < 64) (wide : length old.missed ≡ 64) where
    lost_few : (loss : Loss) → IsBatchLoss e old b new loss → loss.records ≤ length rs
    lost_few loss why = elim why [
      | inl n ↦ at_most e b rs is_text unique loss.records n.has
      | inr l ↦ elim l.loses [
        | inl n ↦ at_most e b rs is_text unique loss.records n.has
        | inr (inl a) ↦ at_most e b rs is_text unique loss.records a.has
        | inr (inr r) ↦ let one : length r.read ≡ length rs = ap length (unique r.read r.is_text) in omega (arith, r.stops.stops.rest, one)
      ]
    ]

    -- no more is counted than the batch's records, and its drops
    pub own_at_most : CameByTime e old b new → missed_by_time new b.cpu ≤ missed_by_time old b.cpu + b.drops + length rs
    own_at_most (inl adds) = omega (arith, missed_here e old new b adds, missed_before e old new b adds)
    own_at_most (inr loses) = omega (arith, lost_counted e old new b low wide loses, lost_few loses.loss loses.why)
