-- Words that are filled one after the other.
use Rattle.std.proofs.Common.{◌≡◌, ◌<◌, ◌+◌, ◌-◌, ◌++◌, ◌∷◌, ◌∙◌, ℕ, suc, List, [], length, map, take, set, ap, sym, append_assoc, arith}
use Rattle.std.proofs.lemmas.List.{take_more_set}
use Rattle.std.specs.List.{range_with_len}

range-next : (p n : ℕ) → p < n → range_with_len p (n - p) ≡ p ∷ range_with_len (p + 1) (n - (p + 1))
range-next p n below =
    let left : n - p ≡ suc (n - (p + 1)) = omega (arith, below) in
    ap (range_with_len p) left

-- one word more
pub word-on : (f : ℕ → ℕ) (words whole : List ℕ) (p n v : ℕ) → p < n → length words ≡ n
    → take p words ++ map f (range_with_len p (n - p)) ≡ whole → v ≡ f p
    → take (p + 1) (set words p v) ++ map f (range_with_len (p + 1) (n - (p + 1))) ≡ whole
word-on f words whole p n v below long so_far is =
    let rest : List ℕ = map f (range_with_len (p + 1) (n - (p + 1))) in
    ap (λ front. front ++ rest) (take_more_set words p v (omega (arith, below, long)))
    ∙ append_assoc (take p words) (v ∷ []) rest
    ∙ ap (λ w. take p words ++ w ∷ rest) is
    ∙ ap (λ ps. take p words ++ map f ps) (sym (range-next p n below))
    ∙ so_far
