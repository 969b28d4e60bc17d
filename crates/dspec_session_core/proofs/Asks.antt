-- The asks that the consumer knows, after one more.
use Rattle.std.proofs.Common.{◌≡◌, ℕ, ◌==◌, ◌+◌, ◌≤◌, length, arith, Bool, true, false, if◌then◌else◌, List, refl, ap, ◌∙◌, subst}
use Rattle.std.proofs.lemmas.Bool.Decides.{nat_tests}
use Rattle.std.specs.Prelude.{slice_get, slice_index, slice_index_or, Some}
use Rattle.dspec_deeds.proofs.TestLemmas.{same_number, numbers_differ}
use Rattle.dspec_session_core.specs.Words.{View, with_ask, StoredAsk, ConsumerKnows}
use Rattle.dspec_session_core.proofs.Ends.{end_at}
use Rattle.dspec_table.proofs.AsksKept.{with_ask_same, with_ask_other}

asks_after : (xs : List ℕ) (c n a : ℕ) → slice_index (with_ask xs c n) a ≡ (if a == c then n else slice_index xs a)
asks_after xs c n a = grind (arith, nat_tests, same_number, with_ask_same, with_ask_other, numbers_differ)

pub stored_asks : (v w : View) (c n : ℕ) → StoredAsk c n v w → (a : ℕ) → slice_index w.asks a ≡ (if a == c then n else slice_index v.asks a)
stored_asks v w c n step a = ap (λ (x : View). slice_index x.asks a) step.2 ∙ asks_after v.asks c n a

-- no more is asked of any CPU than the batch after those taken
pub none_beyond : (v w : View) (c : ℕ) (es : List ConsumerKnows) (d : ConsumerKnows) → d ≡ slice_index_or es c d → StoredAsk c (length d.taken + 1) v w
    → ((a : ℕ) (e : ConsumerKnows) → slice_get es a ≡ Some e → slice_index v.asks a ≤ length e.taken + 1)
    → (a : ℕ) (e : ConsumerKnows) → slice_get es a ≡ Some e → slice_index w.asks a ≤ length e.taken + 1
none_beyond v w c es d is step was a e there = go (a == c) refl
  where
    now : slice_index w.asks a ≡ (if a == c then length d.taken + 1 else slice_index v.asks a)
    now = stored_asks v w c (length d.taken + 1) step a

    go : (b : Bool) → (a == c) ≡ b → slice_index w.asks a ≤ length e.taken + 1
    go true t =
        let at = ap (λ x. if x then length d.taken + 1 else slice_index v.asks a) t in
        let same = end_at es c d e is (subst (λ x. slice_get es x ≡ Some e) (same_number a c t) there) in
        let n = ap (λ (x : ConsumerKnows). length x.taken) same in
        let here = now in
        omega arith
    go false f = let at = ap (λ x. if x then length d.taken + 1 else slice_index v.asks a) f in let before = was a e there in let here = now in omega arith
