-- The pieces of a text, of which the last may be no line.
use Rattle.std.proofs.Common.{◌≡◌, ℕ, ◌+◌, ◌<◌, suc, Bool, true, false, not, if◌then◌else◌, List, [], ◌∷◌, ◌++◌, length, take, drop, get_or, ap, sym, ◌∙◌, refl, arith}
use Rattle.std.proofs.Math.Seq.{drop-cons}
use Rattle.std.proofs.lemmas.List.{take-append-drop}
use Rattle.dspec_schedule.specs.Words.{without_empty_end}

length-empty_end : (ps : List (List ℕ)) → length (without_empty_end (ps ++ [] ∷ [])) ≡ length ps
length-empty_end [] = refl
length-empty_end (q ∷ []) = refl
length-empty_end (q ∷ r ∷ ps) = ap suc (length-empty_end (r ∷ ps))

length-full_end : (ps : List (List ℕ)) (b : ℕ) (bs : List ℕ) → length (without_empty_end (ps ++ (b ∷ bs) ∷ [])) ≡ suc (length ps)
length-full_end [] b bs = refl
length-full_end (q ∷ []) b bs = refl
length-full_end (q ∷ r ∷ ps) b bs = ap suc (length-full_end (r ∷ ps) b bs)

-- the number of the line after one more piece
pub after-more : (ps : List (List ℕ)) (p : List ℕ) (closed : Bool) (line : ℕ) → (closed ≡ true → length p ≡ 0) → (length p ≡ 0 → closed ≡ true)
    → line ≡ length ps + 1 → line + (if not closed then 1 else 0) ≡ length (without_empty_end (ps ++ p ∷ [])) + 1
after-more ps [] true line to from number = omega (arith, length-empty_end ps)
after-more ps [] false line to from number = let e = from refl in absurd (cc)
after-more ps (b ∷ bs) true line to from number = absurd (omega (arith, to refl))
after-more ps (b ∷ bs) false line to from number = omega (arith, length-full_end ps b bs)

-- a list is what was taken of it, the next element, and the rest
pub cut_at : (all ps : List (List ℕ)) (p : List ℕ) (n : ℕ) → ps ≡ take n all → n < length all → p ≡ get_or all n p → all ≡ ps ++ (p ∷ drop (suc n) all)
cut_at all ps p n front within here =
    sym (take-append-drop n all) ∙ ap (λ l. take n all ++ l) (drop-cons all n p within)
    ∙ ap (λ x. take n all ++ (x ∷ drop (suc n) all)) (sym here) ∙ ap (λ l. l ++ (p ∷ drop (suc n) all)) (sym front)
