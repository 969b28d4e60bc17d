-- Serves proofs. An array that holds a list: the list's elements, and one value in all places after them.
use Rattle.std.proofs.Common.{◌≡◌, ◌≤◌, ◌-◌, ◌++◌, List, length, take, drop, replicate, sym, ◌∙◌, ap, arith}
use Rattle.std.proofs.lemmas.List.{length-take-le, take-append-drop}

-- a list of `cap` places is its first `n`, and what its rest is said to hold
pub padded_list : {X : Type 0} (xs : List X) (n cap : _) (x : X) → length xs ≡ cap → n ≤ cap → drop n xs ≡ replicate (cap - n) x → take n xs ++ replicate (cap - length (take n xs)) x ≡ xs
padded_list xs n cap x long few rest =
    let fits : n ≤ length xs = omega arith in
    let len : length (take n xs) ≡ n = length-take-le n xs fits in
    ap (λ k. take n xs ++ replicate (cap - k) x) len ∙ ap (λ zs. take n xs ++ zs) (sym rest) ∙ take-append-drop n xs
