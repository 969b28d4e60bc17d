-- A text that has a piece for each number of a range, while it is written.
use Rattle.std.proofs.Common.{◌≡◌, ◌<◌, Option, Some, None, false, is_some, refl, ◌+◌, ◌-◌, ◌++◌, ◌∷◌, ◌∙◌, ℕ, List, ap, sym, append_assoc, arith}
use Rattle.std.proofs.lemmas.Bool.Decides.{nat_tests}
use Rattle.std.specs.List.{flat_map, range_with_len}
use Rattle.dspec_ctf.specs.Words.{first_found}

range-next : (p n : ℕ) → p < n → range_with_len p (n - p) ≡ p ∷ range_with_len (p + 1) (n - (p + 1))
range-next p n below = grind (arith, nat_tests)

pub range-piece : (f : ℕ → List ℕ) (p n : ℕ) (text longer whole : List ℕ) → p < n
    → text ++ flat_map f (range_with_len p (n - p)) ≡ whole → longer ≡ text ++ f p
    → longer ++ flat_map f (range_with_len (p + 1) (n - (p + 1))) ≡ whole
range-piece f p n text longer whole below so_far more =
    let rest : List ℕ = flat_map f (range_with_len (p + 1) (n - (p + 1))) in
    ap (λ t. t ++ rest) more ∙ append_assoc text (f p) rest
    ∙ ap (λ ps. text ++ flat_map f ps) (sym (range-next p n below)) ∙ so_far

-- nothing at this place: the first is after it
pub first-after : {A : Type 0} (f : ℕ → Option A) (p n : ℕ) (whole : Option A) → p < n → f p ≡ None
    → first_found f (range_with_len p (n - p)) ≡ whole → first_found f (range_with_len (p + 1) (n - (p + 1))) ≡ whole
first-after f p n whole below none so_far = grind (arith, nat_tests, range-next)

pub none_of : {A : Type 0} (o : Option A) → is_some o ≡ false → o ≡ None
none_of None e = refl
none_of (Some x) e = absurd (cc)
