-- What all batches of a session bring to one CPU's files by time, where some of them may be lost.
use Rattle.std.proofs.Common.{◌≡◌, ◌≢◌, ◌<◌, ◌+◌, ◌^◌, ◌==◌, ℕ, Bool, true, false, if◌then◌else◌, List, [], ◌∷◌, ◌++◌, None, refl, sym, ap, ◌∙◌, subst, arith, length, append_assoc}
use Rattle.std.proofs.lemmas.{Bool.eqb-true, Bool.eqb-false, Bool.Decides.nat_tests, List.append-nil}
use Rattle.dspec_trace_reading.specs.Words.{Record, EnabledRows, Passed, GotAll, passed_from, GetsRuns, TimedTracing, HaveNumbers, drops_carried, AreKeptInFront, missed_by_time, told_by_time, Batch}
use Rattle.dspec_trace_reading.specs.Words.{Names}
use Rattle.dspec_record.specs.declared.header.Header.TheVariants as header
use Rattle.dspec_trace_reading.proofs.{Filing.Filed, Filing.still_filed, Folding.Holds, Folding.one_text, RowNaming.cpus_differ, TimedAsking.lasts_of, TimedAsking.none_before, TimedBounded.rises}
use Rattle.dspec_trace_reading.proofs.{TimedFronts.KeepsFront, TimedFronts.StandsInPart, TimedFronts.keeps, TimedLosing.CameByTime, TimedLosing.IsExactByTime, TimedLosing.Leaves, TimedLosing.leaves}
use Rattle.dspec_filing_reading.proofs.FilesLaws.{FilesLaws}

module _ (laws : FilesLaws) (uuid : List ℕ) (e : EnabledRows) (names : Names) (hertz c : ℕ) (low : c < 64) (long : length uuid ≡ 16) (stamped : e.header ≡ header.Two) where
  -- the records that are kept of a CPU's batches, after those of before
  pub record KeptByTime (old new : TimedTracing) (bs : List Batch) (stream : List Record) : Type 0 where
    pub kept : List Record
    pub lost : ℕ
    pub are_kept : AreKeptInFront e bs kept lost
    pub counted : missed_by_time new c ≡ missed_by_time old c + drops_carried bs + lost
    pub stands : StandsInPart uuid e names hertz c new (stream ++ kept)
    pub whole : new.lost ≡ None → (lost ≡ 0) × (told_by_time old c ≡ missed_by_time old c → told_by_time new c ≡ missed_by_time new c)

  -- a batch of another CPU changes nothing of it
  passes : (old new : TimedTracing) (b : Batch) (stream : List Record) → Leaves old b new → length old.missed ≡ 64 → b.cpu ≢ c → StandsInPart uuid e names hertz c old stream
      → StandsInPart uuid e names hertz c new stream
  passes old new b stream l wide apart s = grind (arith, nat_tests, lasts_of, Filed, still_filed, cpus_differ)

  -- one of its own
  own_kept : (old new : TimedTracing) (b : Batch) (rs stream : List Record) → Holds e (b ∷ []) rs → old.uuid ≡ uuid → b.cpu ≡ c → length old.missed ≡ 64
      → missed_by_time new c < 2 ^ 64 → IsExactByTime c new → CameByTime e old b new → StandsInPart uuid e names hertz c old stream → KeepsFront uuid e names hertz c old b new stream
  own_kept old new b rs stream (ps, more, has, many, sum, holds) u here wide small is came s =
      subst (λ n. n < 64 → missed_by_time new n < 2 ^ 64 → IsExactByTime n new → StandsInPart uuid e names hertz n old stream → KeepsFront uuid e names hertz n old b new stream) here
      (subst (λ id. b.cpu < 64 → missed_by_time new b.cpu < 2 ^ 64 → IsExactByTime b.cpu new → StandsInPart id e names hertz b.cpu old stream → KeepsFront id e names hertz b.cpu old b new stream)
      u (λ few fits exact so. keeps laws e names hertz stamped b old new (ap length u ∙ long) few wide fits exact ps has (λ qs text. one_text e b ps qs has text) stream so came))
      low small is s

  next_kept : (old mid new : TimedTracing) (x : Passed) (xs : List Passed) (stream rest : List Record) → CameByTime e old x.batch mid → old.uuid ≡ uuid → length old.missed ≡ 64
      → x.batch.cpu ≡ x.from → missed_by_time mid c < 2 ^ 64 → IsExactByTime c mid → (new.lost ≡ None → mid.lost ≡ None)
      → ((so_far more : List Record) → Holds e (passed_from c xs) more → StandsInPart uuid e names hertz c mid so_far → KeptByTime mid new (passed_from c xs) so_far)
      → StandsInPart uuid e names hertz c old stream → (q : Bool) → (x.from == c) ≡ q → Holds e (if q then x.batch ∷ passed_from c xs else passed_from c xs) rest
      → KeptByTime old new (if q then x.batch ∷ passed_from c xs else passed_from c xs) stream
  next_kept old mid new x xs stream rest came u wide own small exact before on s false is holds =
      let apart : x.batch.cpu ≢ c = λ same. eqb-false x.from c is (sym own ∙ same) in
      let l = leaves e old mid x.batch came in
      let k = on stream rest holds (passes old mid x.batch stream l wide apart s) in
      record {
        kept = k.kept;
        lost = k.lost;
        are_kept = k.are_kept;
        counted = omega (arith, k.counted, l.missed c apart);
        stands = k.stands;
        whole = λ none. let w = k.whole none in (w.0, λ same. w.1 (l.told c apart ∙ same ∙ sym (l.missed c apart)));
      }
  next_kept old mid new x xs stream rest came u wide own small exact before on s true is (ps, more, has, many, sum, holds) =
      let o = own_kept old mid x.batch ps stream (ps, [], has, many, sym (append-nil ps), refl) u (own ∙ eqb-true x.from c is) wide small exact came s in
      let k = on (stream ++ o.front) more holds o.stands in
      record {
        kept = o.front ++ k.kept;
        lost = length o.back + k.lost;
        are_kept = (o.front, o.back, k.kept, k.lost, o.text, k.are_kept, refl, refl);
        counted = omega (arith, k.counted, o.counted);
        stands = subst (λ rs. StandsInPart uuid e names hertz c new rs) (append_assoc stream o.front k.kept) k.stands;
        whole = λ none. let w = k.whole none in let here = o.whole (before none) in (omega (arith, w.0, here.0), λ same. w.1 here.1);
      }

  pub all_kept : (bs : List Passed) (old new : TimedTracing) (stream rest : List Record) → GotAll (GetsRuns e) old bs new → old.uuid ≡ uuid → length old.missed ≡ 64
      → missed_by_time new c < 2 ^ 64 → IsExactByTime c new → HaveNumbers bs → Holds e (passed_from c bs) rest → StandsInPart uuid e names hertz c old stream
      → KeptByTime old new (passed_from c bs) stream
  all_kept [] old new stream rest got u wide small exact own hold s = subst (λ t. KeptByTime old t [] stream) got (record {
    kept = [];
    lost = 0;
    are_kept = (refl, refl);
    counted = omega arith;
    stands = subst (λ rs. StandsInPart uuid e names hertz c old rs) (sym (append-nil stream)) s;
    whole = λ none. (refl, λ same. same);
  })
  all_kept (x ∷ xs) old new stream rest (mid, gets, after) u wide small exact (own, owns) hold s =
      let still = (leaves e old mid x.batch gets.came).wide ∙ wide in
      let below = rises e c low xs mid new after still exact in
      next_kept old mid new x xs stream rest gets.came u wide own (omega (arith, below.0, small)) below.1 (none_before e xs mid new after)
      (λ so_far more holds so. all_kept xs mid new so_far more after (gets.uuid ∙ u) still small exact owns holds so) s (x.from == c) refl hold
