-- What a trace by time counts of a CPU as missed never falls.
use Rattle.std.proofs.Common.{◌≡◌, ◌<◌, ◌≤◌, ◌==◌, ℕ, Bool, true, false, List, [], ◌∷◌, inl, inr, refl, ◌∙◌, subst, arith, length}
use Rattle.std.proofs.lemmas.Bool.{eqb-true, eqb-false}
use Rattle.dspec_trace_reading.specs.Words.{EnabledRows, Passed, GotAll, GetsRuns, TimedTracing, missed_by_time, Batch}
use Rattle.dspec_trace_reading.proofs.{TimedAsking.none_before, TimedLosing.CameByTime, TimedLosing.IsExactByTime, TimedLosing.leaves, TimedLosing.own_rises}

module _ (e : EnabledRows) (c : ℕ) (low : c < 64) where
  one_rises : (old new : TimedTracing) (b : Batch) → CameByTime e old b new → length old.missed ≡ 64 → IsExactByTime c new → (q : Bool) → (b.cpu == c) ≡ q
      → missed_by_time old c ≤ missed_by_time new c
  one_rises old new b came wide is true same =
      let here : b.cpu ≡ c = eqb-true b.cpu c same in
      subst (λ n. n < 64 → IsExactByTime n new → missed_by_time old n ≤ missed_by_time new n) here (λ few fits. own_rises e old new b few wide fits came) low is
  one_rises old new b came wide is false apart = omega (arith, (leaves e old new b came).missed c (eqb-false b.cpu c apart))

  -- and what is so in the end of what it counts was so before
  pub rises : (bs : List Passed) (old new : TimedTracing) → GotAll (GetsRuns e) old bs new → length old.missed ≡ 64 → IsExactByTime c new
      → (missed_by_time old c ≤ missed_by_time new c) × IsExactByTime c old
  rises [] old new got wide is =
      (subst (λ (t : TimedTracing). missed_by_time old c ≤ missed_by_time t c) got (omega arith), subst (λ (t : TimedTracing). IsExactByTime c t → IsExactByTime c old) got (λ so. so) is)
  rises (x ∷ xs) old new (mid, gets, rest) wide is =
      let more = rises xs mid new rest ((leaves e old mid x.batch gets.came).wide ∙ wide) is in
      let one = one_rises old mid x.batch gets.came wide more.1 (x.batch.cpu == c) refl in (
        omega (arith, more.0, one),
        elim more.1 [
          | inl none ↦ inl (none_before e (x ∷ []) old mid (mid, gets, refl) none)
          | inr small ↦ inr (omega (arith, one, small))
        ],
      )
