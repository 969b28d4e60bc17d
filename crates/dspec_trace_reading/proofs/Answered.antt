-- What one batch makes of the counts of a trace that is written as batches are taken.
use Rattle.std.proofs.Common.{◌≡◌, ◌<◌, ◌+◌, ◌^◌, ℕ, inl, inr, refl, ap, ◌∙◌, subst, arith, length}
use Rattle.dspec_trace_reading.specs.Words.{EnabledRows, GetsPacket, Tracing, missed_on, whole_loss, Batch}
use Rattle.dspec_trace_reading.proofs.{Adding.LosesMore, Asking.missed_before, Asking.missed_here, Bounded.Counts, Losing.counted_here, Losing.leaves, Losing.own_few, Losing.uncapped}

module _ (e : EnabledRows) where
  one_adds : (old : Tracing) (b : Batch) (new : Tracing) → GetsPacket e old b new → length old.missed ≡ 64 → b.cpu < 64 → missed_on new b.cpu + 1 < 2 ^ 64
      → (records : ℕ) × (missed_on new b.cpu ≡ missed_on old b.cpu + (b.drops + records)) × LosesMore old.lost records new.lost
  one_adds old b new got wide low small = elim got.came [
    | inl nothing ↦
        let same : missed_on new b.cpu ≡ missed_on old b.cpu = ap (λ (t : Tracing). missed_on t b.cpu) nothing.1 in
        (0, omega (arith, same, nothing.0.1), inl (refl, ap (λ (t : Tracing). t.lost) nothing.1))
    | inr (some, inl adds) ↦ (0, omega (arith, missed_here e old new b adds wide b.cpu refl, missed_before e old new b adds wide b.cpu refl), inl (refl, adds.lost))
    | inr (some, inr loses) ↦
        let read = counted_here e old new b loses wide b.cpu low refl in (
          loses.counted.records,
          read ∙ uncapped _ (subst (λ n. n + 1 < 2 ^ 64) read small),
          inr (whole_loss b loses.fault loses.counted.records, refl, loses.counted.lost),
        )
  ]

  pub counts : Counts e (GetsPacket e) (λ (t : Tracing). t.missed) (λ (t : Tracing). t.lost)
  counts = record {
    wide = λ old b new got. (leaves e old new b got.came).wide;
    others = λ old b new got. (leaves e old new b got.came).missed;
    few = λ old b new got wide low rs text unique. own_few e old new b b.cpu got.came wide low refl rs text unique;
    adds = one_adds;
  }
