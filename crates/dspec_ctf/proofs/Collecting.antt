-- Records of one text more.
use Rattle.std.proofs.Common.{◌≡◌, ◌<◌, ◌+◌, ◌++◌, List, ℕ, zero, suc, [], ◌∷◌, length, map, take, slice_index_or, refl, ap, sym, subst, ◌∙◌, append_assoc, arith}
use Rattle.std.proofs.lemmas.List.{append-nil}
use Rattle.dspec_ctf.specs.Words.{Record, EnabledRows, IsText, AreTexts, IsAdded}

more-texts : (e : EnabledRows) (texts : List (List ℕ)) (text : List ℕ) (rs added all : List Record) → AreTexts e texts rs → IsText e text added → all ≡ rs ++ added
    → AreTexts e (texts ++ text ∷ []) all
more-texts e [] text rs added all none is grown =
    (added, ([], (is, (refl, grown ∙ ap (λ front. front ++ added) none ∙ sym (append-nil added)))))
more-texts e (t ∷ texts) text rs added all (first, (rest, (is_first, (are_rest, whole)))) is grown = (
  first,
  (
    rest ++ added,
    (
      is_first,
      (
        more-texts e texts text rest added (rest ++ added) are_rest is refl,
        grown ∙ ap (λ front. front ++ added) whole ∙ append_assoc first rest added,
      ),
    ),
  ),
)

pub AreTexts-push : (e : EnabledRows) (texts : List (List ℕ)) (text : List ℕ) (before after : List Record) → AreTexts e texts before → IsAdded e text before after
    → AreTexts e (texts ++ text ∷ []) after
AreTexts-push e texts text before after are one = more-texts e texts text before one.added after are one.is_text one.grown

one-later : {A : Type 0} (e : EnabledRows) (name : A → List ℕ) (xs : List A) (place : ℕ) (d : A) (before after : List Record) → place < length xs
    → AreTexts e (take place (map name xs)) before → IsAdded e (name (slice_index_or xs place d)) before after → AreTexts e (take (suc place) (map name xs)) after
one-later e name [] place d before after below are one = elim below [ ]
one-later e name (x ∷ xs) zero d before after below are one = AreTexts-push e [] (name x) before after are one
one-later e name (x ∷ xs) (suc place) d before after below (first, (rest, (is_first, (are_rest, whole)))) one = (
  first,
  (
    rest ++ one.added,
    (
      is_first,
      (
        one-later e name xs place d rest (rest ++ one.added) (omega (arith, below)) are_rest (record { added = one.added; is_text = one.is_text; grown = refl }),
        one.grown ∙ ap (λ front. front ++ one.added) whole ∙ append_assoc first rest one.added,
      ),
    ),
  ),
)

-- the text at this place is read
pub one-more : {A : Type 0} (e : EnabledRows) (name : A → List ℕ) (xs : List A) (place : ℕ) (d : A) (before after : List Record) → place < length xs
    → AreTexts e (take place (map name xs)) before → IsAdded e (name (slice_index_or xs place d)) before after → AreTexts e (take (place + 1) (map name xs)) after
one-more e name xs place d before after below are one =
    let next : suc place ≡ place + 1 = omega arith in
    subst (λ n. AreTexts e (take n (map name xs)) after) next (one-later e name xs place d before after below are one)
