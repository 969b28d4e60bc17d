-- What a trace missed of all CPUs together are the drops of its batches and the records that it answers as lost, as far as 64 bits count.
use Rattle.std.proofs.Common.{◌≡◌, ◌≢◌, ◌<◌, ◌≤◌, ◌+◌, ◌^◌, ◌⊎◌, ℕ, List, [], ◌∷◌, Option, Some, None, ap, subst, arith}
use Rattle.std.proofs.lemmas.Bool.Decides.{nat_tests}
use Rattle.dspec_trace_reading.specs.Words.{AreFrom, GotAll, Passed, passed_from, lost_more, HaveNumbers, drops_carried, lost_of, lost_records, Batch, Loss}
use Rattle.dspec_trace_reading.proofs.{Apart.AreOf, Apart.all_drops, Apart.are_of, Apart.drops_apart, Summing.both_of, Summing.none_of, Summing.one_more, Summing.rest_none, Summing.within_of}

-- so many more records are lost
abbrev pub LosesMore : Option Loss → ℕ → Option Loss → Type 0
LosesMore lost records now = ((records ≡ 0) × (now ≡ lost)) ⊎ ((loss : Loss) × (loss.records ≡ records) × (now ≡ lost_more lost loss))

-- what one batch makes of a trace's numbers: its drops and the records that it lost are missed on its CPU, and these are lost
pub record AddsUp (before after : ℕ → ℕ) (lost now : Option Loss) (b : Batch) : Type 0 where
  pub records : ℕ
  pub here : after b.cpu ≡ before b.cpu + (b.drops + records)
  pub others : (c : ℕ) → b.cpu ≢ c → after c ≡ before c
  pub loses : LosesMore lost records now

-- they are answered, where 64 bits count them
one_loss : (lost : Option Loss) (loss : Loss) → lost_records lost + loss.records + 1 < 2 ^ 64 → lost_records (lost_more lost loss) ≡ lost_records lost + loss.records
one_loss None loss few = omega arith
one_loss (Some first) loss few = omega (arith, few)

answered : (lost now : Option Loss) (records : ℕ) → LosesMore lost records now → lost_records lost + records + 1 < 2 ^ 64 → lost_records now ≡ lost_records lost + records
answered = grind (arith, nat_tests, one_loss)

-- a trace of whatever kind, of so many CPUs at most: how many events of each it missed, and what it answers as lost
module _ {T : Type 0} (gets : T → Batch → T → Type 0) (missed : T → ℕ → ℕ) (lost : T → Option Loss) (IsWide : T → Type 0) (most : ℕ)
    (stays : (old : T) (b : Batch) (new : T) → gets old b new → IsWide old → IsWide new)
    (adds : (old : T) (b : Batch) (new : T) → gets old b new → IsWide old → b.cpu < most → missed new b.cpu + 1 < 2 ^ 64
    → AddsUp (missed old) (missed new) (lost old) (lost new) b) where
  -- what it missed together
  all_of : T → ℕ
  all_of t = lost_of (missed t) most

  one_adds : (old : T) (b : Batch) (new : T) → gets old b new → IsWide old → b.cpu < most → all_of new + 1 < 2 ^ 64
      → (a : AddsUp (missed old) (missed new) (lost old) (lost new) b) × (all_of new ≡ all_of old + (b.drops + a.records))
  unfolding all_of
  one_adds old b new got wide low small =
      let a = adds old b new got wide low (omega (arith, small, within_of (missed new) b.cpu most low)) in
      (a, one_more (missed old) (missed new) b.cpu (b.drops + a.records) most low a.here a.others)

  rises : (xs : List Passed) (old new : T) → GotAll gets old xs new → IsWide old → AreOf most xs → all_of new + 1 < 2 ^ 64 → all_of old ≤ all_of new
  rises [] old new got wide low small = subst (λ (t : T). all_of old ≤ all_of t) got (omega arith)
  rises (x ∷ xs) old new (mid, got, rest) wide (here, low) small =
      let later = rises xs mid new rest (stays old x.batch mid got wide) low small in
      let one = one_adds old x.batch mid got wide here (omega (arith, later, small)) in
      omega (arith, later, one.1)

  adding : (xs : List Passed) (old new : T) → GotAll gets old xs new → IsWide old → AreOf most xs → all_of new + 1 < 2 ^ 64 → lost_records (lost old) ≤ all_of old
      → all_of new + lost_records (lost old) ≡ all_of old + all_drops xs + lost_records (lost new)
  adding [] old new got wide low small few = subst (λ (t : T). all_of t + lost_records (lost old) ≡ all_of old + 0 + lost_records (lost t)) got (omega arith)
  adding (x ∷ xs) old new (mid, got, rest) wide (here, low) small few =
      let still = stays old x.batch mid got wide in
      let later = rises xs mid new rest still low small in
      let one = one_adds old x.batch mid got wide here (omega (arith, later, small)) in
      let told = answered (lost old) (lost mid) one.0.records one.0.loses (omega (arith, later, one.1, few, small)) in
      let all = adding xs mid new rest still low small (omega (arith, told, few, one.1)) in
      omega (arith, all, told, one.1)

  -- What the CPUs lost together is what it answers, where it began with nothing: each CPU that is there missed the drops of its batches and what it lost, and
  -- those that aren't missed nothing.
  pub all_answered : (n : ℕ) (xs : List Passed) (old new : T) (lost_on : ℕ → ℕ) → GotAll gets old xs new → IsWide old → n ≤ most → AreFrom n xs → HaveNumbers xs
      → ((c : ℕ) → missed old c ≡ 0) → lost old ≡ None → lost_of (missed new) n + 1 < 2 ^ 64
      → ((c : ℕ) → c < n → missed new c ≡ drops_carried (passed_from c xs) + lost_on c) → ((c : ℕ) → n ≤ c → c < most → missed new c ≡ 0)
      → lost_records (lost new) ≡ lost_of lost_on n
  unfolding all_of
  all_answered n xs old new lost_on got wide few from own nothing none small each absent =
      let empty : lost_of (missed old) most ≡ 0 = none_of (missed old) most (λ c lt. nothing c) in
      let unlost : lost_records (lost old) ≡ 0 = ap lost_records none in
      let there : lost_of (missed new) most ≡ lost_of (missed new) n = rest_none (missed new) n most few absent in
      let all = adding xs old new got wide (are_of most n xs few from own) (omega (arith, small, there)) (omega (arith, empty, unlost)) in
      let parts = both_of (λ c. drops_carried (passed_from c xs)) lost_on (missed new) n each in
      omega (arith, all, empty, unlost, there, parts, drops_apart n xs from)
