-- What one batch makes of the counts of a trace that is written by time.
use Rattle.std.proofs.Common.{◌≡◌, ◌<◌, ◌+◌, ◌^◌, ℕ, inl, inr, refl, arith, length}
use Rattle.dspec_trace_reading.specs.Words.{EnabledRows, GetsRuns, TimedTracing, missed_by_time, Batch}
use Rattle.dspec_trace_reading.proofs.{Adding.LosesMore, Bounded.Counts, TimedAsking.missed_before, TimedAsking.missed_here, TimedLosing.exact, TimedLosing.leaves, TimedLosing.own_at_most}

module _ (e : EnabledRows) where
  one_adds : (old : TimedTracing) (b : Batch) (new : TimedTracing) → GetsRuns e old b new → length old.missed ≡ 64 → b.cpu < 64 → missed_by_time new b.cpu + 1 < 2 ^ 64
      → (records : ℕ) × (missed_by_time new b.cpu ≡ missed_by_time old b.cpu + (b.drops + records)) × LosesMore old.lost records new.lost
  one_adds old b new got wide low small = elim got.came [
    | inl adds ↦ (0, omega (arith, missed_here e old new b adds, missed_before e old new b adds), inl (refl, adds.lost))
    | inr loses ↦ (loses.loss.records, exact e old new b low wide small loses, inr (loses.loss, refl, loses.lost))
  ]

  pub counts : Counts e (GetsRuns e) (λ (t : TimedTracing). t.missed) (λ (t : TimedTracing). t.lost)
  counts = record {
    wide = λ old b new got. (leaves e old new b got.came).wide;
    others = λ old b new got. (leaves e old new b got.came).missed;
    few = λ old b new got wide low rs text unique. own_at_most e b rs text unique old new low wide got.came;
    adds = one_adds;
  }
