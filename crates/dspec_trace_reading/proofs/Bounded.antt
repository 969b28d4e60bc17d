-- What a trace of either form counts of a CPU as missed is no more than its batches' drops and its records, however many are lost; and what it answers as lost is
-- what its CPUs lost.
use Rattle.std.proofs.Common.{◌≡◌, ◌≢◌, ◌<◌, ◌≤◌, ◌+◌, ◌^◌, ◌==◌, ℕ, Bool, true, false, if◌then◌else◌, Option, Some, None, List, [], ◌∷◌, refl, sym, ap, ◌∙◌, subst, arith, length, slice_get}
use Rattle.std.proofs.Common.{slice_index, replicate}
use Rattle.std.proofs.lemmas.{Bool.eqb-true, Bool.eqb-false, List.length-append}
use Rattle.dspec_trace_reading.specs.Words.{Record, EnabledRows, Passed, GotAll, passed_from, AreFrom, IsText, HaveNumbers, drops_carried, all_counted, lost_of, lost_records, missed_in, Batch, Left}
use Rattle.dspec_trace_reading.specs.Words.{Loss}
use Rattle.dspec_ctf_reading.proofs.AllowedWords.{get-some}
use Rattle.dspec_trace_reading.proofs.{Adding.AddsUp, Adding.LosesMore, Adding.all_answered, Apart.none_from, Begun.none_yet, Folding.Holds, Folding.one_text, Summing.all_within}

-- What each batch makes of what is counted of the CPUs (`missing`) and of what is answered as lost (`losing`): other CPUs' counts stay; no more is counted than
-- the batch's drops and its records; and where 64 bits are enough, what is counted beyond the drops is lost.
pub record Counts (e : EnabledRows) {T : Type 0} (gets : T → Batch → T → Type 0) (missing : T → List ℕ) (losing : T → Option Loss) : Type 0 where
  pub wide : (old : T) (b : Batch) (new : T) → gets old b new → length (missing new) ≡ length (missing old)
  pub others : (old : T) (b : Batch) (new : T) → gets old b new → (c : ℕ) → b.cpu ≢ c → slice_index (missing new) c ≡ slice_index (missing old) c
  pub few : (old : T) (b : Batch) (new : T) → gets old b new → length (missing old) ≡ 64 → b.cpu < 64 → (rs : List Record) → IsText e b.buffer.text rs
      → ((qs : List Record) → IsText e b.buffer.text qs → qs ≡ rs) → slice_index (missing new) b.cpu ≤ slice_index (missing old) b.cpu + b.drops + length rs
  pub adds : (old : T) (b : Batch) (new : T) → gets old b new → length (missing old) ≡ 64 → b.cpu < 64 → slice_index (missing new) b.cpu + 1 < 2 ^ 64
      → (records : ℕ) × (slice_index (missing new) b.cpu ≡ slice_index (missing old) b.cpu + (b.drops + records)) × LosesMore (losing old) records (losing new)

module _ (e : EnabledRows) {T : Type 0} (gets : T → Batch → T → Type 0) (missing : T → List ℕ) (losing : T → Option Loss) (counts : Counts e gets missing losing) where
  module _ (c : ℕ) (low : c < 64) where
    own_few : (old mid : T) (b : Batch) (rs : List Record) → length (missing old) ≡ 64 → gets old b mid → b.cpu ≡ c → IsText e b.buffer.text rs
        → slice_index (missing mid) c ≤ slice_index (missing old) c + b.drops + length rs
    own_few old mid b rs broad got here text =
        subst (λ n. slice_index (missing mid) n ≤ slice_index (missing old) n + b.drops + length rs) here
        (counts.few old b mid got broad (omega (arith, here, low)) rs text (λ qs other. one_text e b rs qs text other))

    next_bounded : (old mid new : T) (x : Passed) (xs : List Passed) (rs : List Record) → length (missing old) ≡ 64 → x.batch.cpu ≡ x.from
        → ((more : List Record) → Holds e (passed_from c xs) more → slice_index (missing new) c ≤ slice_index (missing mid) c + drops_carried (passed_from c xs) + length more)
        → gets old x.batch mid → (q : Bool) → (x.from == c) ≡ q → Holds e (if q then x.batch ∷ passed_from c xs else passed_from c xs) rs
        → slice_index (missing new) c ≤ slice_index (missing old) c + drops_carried (if q then x.batch ∷ passed_from c xs else passed_from c xs) + length rs
    next_bounded old mid new x xs rs broad own later got false is holds =
        omega (arith, counts.others old x.batch mid got c (λ s. eqb-false x.from c is (sym own ∙ s)), later rs holds)
    next_bounded old mid new x xs rs broad own later got true is (ps, more, has, many, sum, holds) =
        let all : length rs ≡ length ps + length more = ap length sum ∙ length-append ps more in
        omega (arith, own_few old mid x.batch ps broad got (own ∙ eqb-true x.from c is) has, all, later more holds)

    pub bounded : (bs : List Passed) (old new : T) (rs : List Record) → GotAll gets old bs new → length (missing old) ≡ 64 → HaveNumbers bs → Holds e (passed_from c bs) rs
        → slice_index (missing new) c ≤ slice_index (missing old) c + drops_carried (passed_from c bs) + length rs
    bounded [] old new rs got broad own hold = subst (λ (t : T). slice_index (missing t) c ≤ slice_index (missing old) c + 0 + length rs) got (omega arith)
    bounded (x ∷ xs) old new rs (mid, got, rest) broad (own, owns) hold =
        next_bounded old mid new x xs rs broad own (λ more holds. bounded xs mid new more rest (counts.wide old x.batch mid got ∙ broad) owns holds) got (x.from == c) refl hold

  -- a trace that was begun, and whose CPUs missed no more than their reports count
  module _ (begun ended : T) (zero : missing begun ≡ replicate 64 0) (none : losing begun ≡ None) (xs : List Passed) (got : GotAll gets begun xs ended)
      (left : List Left) (few : length left ≤ 64) (from : AreFrom (length left) xs) (own : HaveNumbers xs)
      (count : (c : ℕ) (l : Left) → slice_get left c ≡ Some l → slice_index (missing ended) c ≤ l.report.accepted + missed_in l.report) where
    -- nothing was missed on a CPU that isn't there
    absent : (c : ℕ) → length left ≤ c → c < 64 → slice_index (missing ended) c ≡ 0
    absent c out low =
        let gone = none_from (length left) c xs from out in
        let no_drops : drops_carried (passed_from c xs) ≡ 0 = ap drops_carried gone in
        let most = bounded c low xs begun ended [] got (ap length zero) own (subst (λ bs. Holds e bs []) (sym gone) refl) in
        omega (arith, most, no_drops, none_yet (missing begun) zero c)

    adds_up : (old : T) (b : Batch) (new : T) → gets old b new → length (missing old) ≡ 64 → b.cpu < 64 → slice_index (missing new) b.cpu + 1 < 2 ^ 64
        → AddsUp (λ c. slice_index (missing old) c) (λ c. slice_index (missing new) c) (losing old) (losing new) b
    adds_up old b new got broad low small =
        let one = counts.adds old b new got broad low small in
        record { records = one.0; here = one.1; others = counts.others old b new got; loses = one.2 }

    pub lost_answered : (lost_on : ℕ → ℕ) → ((c : ℕ) (l : Left) → slice_get left c ≡ Some l → slice_index (missing ended) c ≡ drops_carried (passed_from c xs) + lost_on c)
        → all_counted left + 1 < 2 ^ 64 → lost_records (losing ended) ≡ lost_of lost_on (length left)
    lost_answered lost_on each small =
        all_answered gets (λ t c. slice_index (missing t) c) losing (λ t. length (missing t) ≡ 64) 64 (λ old b new got broad. counts.wide old b new got ∙ broad) adds_up (length left) xs begun ended
        lost_on got (ap length zero) few from own (none_yet (missing begun) zero) none (omega (arith, all_within left (λ c. slice_index (missing ended) c) count, small))
        (λ c lt. let found = get-some left c lt in each c found.0 found.1) absent
