-- The calls of tour's work, one after the other, and the records of its probes.
use Rattle.std.proofs.Common.{◌≡◌, ℕ, List, [], ◌∷◌, refl, ap, ◌∙◌}
use Rattle.dspec_record.specs.Record.{Record}
use Rattle.dspec_record.specs.declared.header.Header.{Header}
use Rattle.dspec_record.specs.declared.header.Header.TheVariants as header
use Rattle.dspec_deeds.specs.declared.calls.Decided.{Decided}
use Rattle.dspec_deeds.specs.declared.calls.Opening.{Opening}
use Rattle.dspec_deeds.specs.declared.calls.Spoken.{Spoken}
use Rattle.dspec_deeds.specs.declared.calls.Traced.{Traced}
use Rattle.dspec_deeds.specs.FateAnswers.{id_given}
use Rattle.dspec_promise.specs.Promise.{commit, discard}
use Rattle.dspec_cpu.specs.Called.{CallsMade, with_decision, with_speculate, with_speculation, with_trace}
use Rattle.dspec_probe.specs.Probes.{epid_of_probe, probed_record, stamp_in}
use Rattle.dspec_probe.specs.declared.probe.Probe.{Probe}
use Rattle.tour.specs.Requests.{MakesRequests, plain}

-- no stamp is 0, whatever the header
unstamped : (h : Header) → stamp_in h 0 ≡ 0
unstamped header.One = refl
unstamped header.Two = refl

-- a probe's record without a stamp is one of its EPID
pub plain_record : {F : Type 0} (p q : Probe F) → p ≡ q → (values : List ℕ) → probed_record p 0 values ≡ plain (epid_of_probe q) values
plain_record p q e values =
    (λ i. record { epid = p.epid; stamp = unstamped p.header i; values = values }) ∙ ap (λ x. plain (epid_of_probe x) values) e

-- the calls, one after the other, by the records of the two probes
module _ (request touch : ℕ) (failed fine : Opening) (first second third : Spoken) (kept thrown : Decided) (seventh eighth ninth : Traced) where
  module _ (x x1 x2 x3 x4 x5 x6 x7 x8 x9 y : CallsMade) (r1 r2 r3 r7 r8 r9 : Record) where
    pub one_by_one : r1 ≡ plain touch (4096 ∷ 5 ∷ []) → r2 ≡ plain touch (8192 ∷ 0 ∷ []) → r3 ≡ plain touch (12288 ∷ 0 ∷ [])
        → r7 ≡ plain request (7 ∷ []) → r8 ≡ plain request (8 ∷ []) → r9 ≡ plain request (9 ∷ [])
        → x1 ≡ with_speculation failed x → x2 ≡ with_speculate (id_given failed) r1 first x1 → x3 ≡ with_speculate (id_given failed) r2 second x2
        → x4 ≡ with_decision commit (id_given failed) kept x3 → x5 ≡ with_speculation fine x4 → x6 ≡ with_speculate (id_given fine) r3 third x5
        → x7 ≡ with_decision discard (id_given fine) thrown x6 → x8 ≡ with_trace r7 seventh x7 → x9 ≡ with_trace r8 eighth x8 → y ≡ with_trace r9 ninth x9
        → MakesRequests request touch x y
    one_by_one q1 q2 q3 q7 q8 q9 e1 e2 e3 e4 e5 e6 e7 e8 e9 e =
        let f2 = e2 ∙ (λ i. with_speculate (id_given failed) (q1 i) first (e1 i)) in
        let f3 = e3 ∙ (λ i. with_speculate (id_given failed) (q2 i) second (f2 i)) in
        let f4 = e4 ∙ (λ i. with_decision commit (id_given failed) kept (f3 i)) in
        let f5 = e5 ∙ (λ i. with_speculation fine (f4 i)) in
        let f6 = e6 ∙ (λ i. with_speculate (id_given fine) (q3 i) third (f5 i)) in
        let f7 = e7 ∙ (λ i. with_decision discard (id_given fine) thrown (f6 i)) in
        let f8 = e8 ∙ (λ i. with_trace (q7 i) seventh (f7 i)) in
        let f9 = e9 ∙ (λ i. with_trace (q8 i) eighth (f8 i)) in
        record {
          failed = failed;
          first = first;
          second = second;
          kept = kept;
          fine = fine;
          third = third;
          thrown = thrown;
          seventh = seventh;
          eighth = eighth;
          ninth = ninth;
          told = e ∙ (λ i. with_trace (q9 i) ninth (f9 i));
        }
