-- What goes through an end of the rings, in the list of all ends.
use Rattle.std.proofs.{Common.arith, Common.◌≡◌, Common.ℕ, Common.◌<◌, Common.◌≤◌, Common.List, Common.length, Common.map, Common.[], Common.refl, Common.ap, Common.◌∙◌, Common.inr}
use Rattle.std.proofs.{Math.Seq.map-set_same, lemmas.Bool.Decides.nat_tests}
use Rattle.std.specs.Prelude.{Option, Some, None, IfSome, IfNone, Result, Ok, Err, OnOk, OnErr, IfErr, slice_get, slice_set, slice_index_or}
use Rattle.dspec_session_core.specs.Words.{Batch, ConsumerKnows, consumer_moved, known_there, IsSameConsumer, TookFrom, GivenTo, Took, FoundNone, GaveBack, IsNotTakenBack, ConsumerSeat}
use Rattle.dspec_session_core.proofs.Ends.{end_at, put_back}

-- an end that passes batches stays one of its pair
kept_pairs : (es : List ConsumerKnows) (c : ℕ) (d f : ConsumerKnows) → d ≡ slice_index_or es c d → f.pair ≡ d.pair
    → map (λ (e : ConsumerKnows). e.pair) (slice_set es c f) ≡ map (λ (e : ConsumerKnows). e.pair) es
kept_pairs es c d f is same = map-set_same (λ (e : ConsumerKnows). e.pair) es c f d (same ∙ ap (λ (e : ConsumerKnows). e.pair) is)

took_pair : (P : Type 0) (r : Option Batch) (d f : ConsumerKnows) → IfSome r (λ b. TookFrom b d f) → IfNone r ((f ≡ consumer_moved d) × P) → f.pair ≡ d.pair
took_pair P None d f came none = ap (λ (e : ConsumerKnows). e.pair) none.0
took_pair P (Some b) d f came none = came.pair

gave_pair : {T : Type 0} (r : Result T Batch) (b : Batch) (d f : ConsumerKnows) → OnOk r (GivenTo b d f) → IfErr r (λ back. (back ≡ b) × (f ≡ consumer_moved d)) → f.pair ≡ d.pair
gave_pair (Ok t) b d f given refused = given.pair
gave_pair (Err back) b d f given refused = ap (λ (e : ConsumerKnows). e.pair) refused.1

module _ (seat : ConsumerSeat) (es : List ConsumerKnows) (c : ℕ) (d f : ConsumerKnows) (is : d ≡ slice_index_or es c d) where
  pub took_same : (P : Type 0) (r : Option Batch) → IfSome r (λ b. TookFrom b d f) → IfNone r ((f ≡ consumer_moved d) × P)
      → IsSameConsumer record { seat = seat; ends = es } record { seat = seat; ends = slice_set es c f }
  took_same P r came none = record { config = refl; pairs = kept_pairs es c d f is (took_pair P r d f came none) }

  pub took_there : (r : Option Batch) → c < (known_there seat).config.cpus → slice_get es c ≡ Some d → IfSome r (λ b. TookFrom b d f)
      → IfSome r (λ b. Took c b record { seat = seat; ends = es } record { seat = seat; ends = slice_set es c f })
  took_there None known there came = tt
  took_there (Some b) known there came = record { before = d; after = f; known = known; there = there; took = came; ends = refl; seat = refl }

  pub took_none : (r : Option Batch) → slice_get es c ≡ Some d → IfNone r ((f ≡ consumer_moved d) × (d.waiting ≡ []))
      → IfNone r (FoundNone c record { seat = seat; ends = es } record { seat = seat; ends = slice_set es c f })
  took_none None there none = inr (record { before = d; there = there; ends = ap (slice_set es c) none.0; seat = refl }, none.1)
  took_none (Some b) there none = tt

  pub gave_same : {T : Type 0} (r : Result T Batch) (b : Batch) → OnOk r (GivenTo b d f) → IfErr r (λ back. (back ≡ b) × (f ≡ consumer_moved d))
      → IsSameConsumer record { seat = seat; ends = es } record { seat = seat; ends = slice_set es c f }
  gave_same r b given refused = record { config = refl; pairs = kept_pairs es c d f is (gave_pair r b d f given refused) }

-- the batch went back, or it is refused since the ring had no place
module _ (seat : ConsumerSeat) (es : List ConsumerKnows) (b : Batch) (d f : ConsumerKnows) (is : d ≡ slice_index_or es b.cpu d) where
  pub gave_there : {T : Type 0} (r : Result T Batch) → b.cpu < (known_there seat).config.cpus → slice_get es b.cpu ≡ Some d → length d.given < length d.taken
      → b.buffer.size ≡ (known_there seat).config.bufsize
      → OnOk r (GivenTo b d f) → OnOk r (GaveBack b record { seat = seat; ends = es } record { seat = seat; ends = slice_set es b.cpu f })
  gave_there (Ok t) known there out size given = record { before = d; after = f; known = known; there = there; out = out; size = size; given = given; ends = refl; seat = refl }
  gave_there (Err back) known there out size given = tt

  pub refused_full : {T : Type 0} (r : Result T Batch) → slice_get es b.cpu ≡ Some d → IfErr r (λ back. (back ≡ b) × (f ≡ consumer_moved d)) → OnErr r (d.room ≡ 0)
      → OnErr r (IsNotTakenBack b record { seat = seat; ends = es } record { seat = seat; ends = slice_set es b.cpu f })
  refused_full (Ok t) there refused full = tt
  refused_full (Err back) there refused full = inr (record { before = d; there = there; ends = ap (slice_set es b.cpu) refused.1; seat = refl }, full)

  -- none of them is out, so the end is as it was
  pub none_out : length d.taken ≤ length d.given → IsNotTakenBack b record { seat = seat; ends = es } record { seat = seat; ends = slice_set es b.cpu d }
  none_out le = grind (arith, nat_tests, end_at, put_back)
