-- The lines of fields are read as their layouts.
use Rattle.std.proofs.Common.{◌≡◌, ◌≤◌, ◌<◌, ◌+◌, ◌*◌, ◌++◌, ℕ, zero, suc, true, replicate, inl, inr, List, [], ◌∷◌, length, map, Some, None, option_map, refl, ap, sym, ◌∙◌, arith, append_assoc}
use Rattle.std.proofs.Common.{length-append}
use Rattle.std.specs.{List.flat_map, List.list_all, List.enumerate_from, Prelude.◌⊎◌, Prelude.codes, Prelude.decimal}
use Rattle.dspec_ctf_reading.specs.Words.{width, text_type, text_line, typed_line, FieldLayout, PartRead, then_read, rest_past, past, past_or, is_digit, read_decimal, is_word, read_word, read_type}
use Rattle.dspec_ctf_reading.specs.Words.{read_number_field, text_front, text_layouts, read_text_field, read_field, read_fields, Field}
use Rattle.dspec_ctf_reading.proofs.{FieldTypes.five, Scanning.read-run-back, Scanning.decimal-back, TextWords.flat}

-- a word
unfoldable pub IsWordy : List ℕ → Type 0
IsWordy text = (list_all is_word text ≡ true) × (0 < length text)

number-field-back : (type name rest : List ℕ) (w : ℕ) → ((more : List ℕ) → read_type (type ++ more) ≡ Some (w, more)) → IsWordy name
    → read_number_field (type ++ (codes " " ++ (name ++ (codes ";\n" ++ rest)))) ≡ Some (record { name = name; width = w }, rest)
unfolding IsWordy is_word is_digit
number-field-back type name rest w known fit =
    let c : ℕ → List ℕ → List ℕ → PartRead FieldLayout = λ size word more. past (codes ";\n") more (λ more. Some (record { name = word; width = size }, more)) in
    let b : ℕ → List ℕ → PartRead FieldLayout = λ size more. past (codes " ") more (λ more. then_read (read_word more) (λ word more. c size word more)) in
    ap (λ part. then_read part b) (known (codes " " ++ (name ++ (codes ";\n" ++ rest))))
    ∙ ap (λ part. then_read part (λ word more. c w word more)) (read-run-back is_word name (codes ";\n" ++ rest) fit.0 fit.1 refl)

field-back : (type name rest : List ℕ) (w : ℕ) → ((more : List ℕ) → read_type (type ++ more) ≡ Some (w, more)) → ((more : List ℕ) → rest_past text_front (type ++ more) ≡ None) → IsWordy name
    → read_field (typed_line type name ++ rest) ≡ Some (record { name = name; width = w } ∷ [], rest)
field-back type name rest w known other fit =
    let tail : List ℕ = type ++ (codes " " ++ (name ++ (codes ";\n" ++ rest))) in
    let one : FieldLayout × List ℕ → List FieldLayout × List ℕ = λ p. (p.0 ∷ [], p.1) in
    ap read_field (five (codes "\t\t") type (codes " ") name (codes ";\n") rest)
    ∙ ap (λ o. past_or o read_text_field (option_map one (read_number_field tail))) (other (codes " " ++ (name ++ (codes ";\n" ++ rest))))
    ∙ ap (option_map one) (number-field-back type name rest w known fit)

-- a text of one to eight words
text-sized : (name : List ℕ) (words : ℕ) → 1 ≤ words → words ≤ 8 → text_layouts name (8 * words) ≡ Some (replicate words (record { name = name; width = 8 }))
text-sized name zero some few = absurd (omega (arith, some))
text-sized name (suc zero) some few = refl
text-sized name (suc (suc zero)) some few = refl
text-sized name (suc (suc (suc zero))) some few = refl
text-sized name (suc (suc (suc (suc zero)))) some few = refl
text-sized name (suc (suc (suc (suc (suc zero))))) some few = refl
text-sized name (suc (suc (suc (suc (suc (suc zero)))))) some few = refl
text-sized name (suc (suc (suc (suc (suc (suc (suc zero))))))) some few = refl
text-sized name (suc (suc (suc (suc (suc (suc (suc (suc zero)))))))) some few = refl
text-sized name (suc (suc (suc (suc (suc (suc (suc (suc (suc more))))))))) some few = absurd (omega (arith, few))

text-back : (name rest : List ℕ) (words : ℕ) → IsWordy name → 1 ≤ words → words ≤ 8
    → read_field (text_line (8 * words) name ++ rest) ≡ Some (replicate words (record { name = name; width = 8 }), rest)
unfolding text_type IsWordy is_word is_digit
text-back name rest words fit some few =
    let size : ℕ = 8 * words in
    let c : List ℕ → ℕ → List ℕ → PartRead (List FieldLayout) = λ word bytes more. past (codes "];\n") more (λ more. option_map (λ fields. (fields, more)) (text_layouts word bytes)) in
    let b : List ℕ → List ℕ → PartRead (List FieldLayout) = λ word more. past (codes "[") more (λ more. then_read (read_decimal more) (λ bytes more. c word bytes more)) in
    ap read_field (five (codes "\t\tinteger { size = 8; align = 8; signed = false; encoding = UTF8; } ") name (codes "[") (decimal size) (codes "];\n") rest)
    ∙ ap (λ part. then_read part b) (read-run-back is_word name (codes "[" ++ (decimal size ++ (codes "];\n" ++ rest))) fit.0 fit.1 refl)
    ∙ ap (λ part. then_read part (λ bytes more. c name bytes more)) (decimal-back size (codes "];\n" ++ rest) (omega (arith, few)) refl)
    ∙ ap (option_map (λ fields. (fields, rest))) (text-sized name words some few)

-- what a line has to be
pub record IsLine (line : List ℕ) (shapes : List FieldLayout) : Type 0 where
  pub known : (rest : List ℕ) → read_field (line ++ rest) ≡ Some (shapes, rest)
  pub goes_on : (rest : List ℕ) → rest_past (codes "\t};\n};\n") (line ++ rest) ≡ None
  pub some : 1 ≤ length line

-- a line, or none, which tells nothing
abbrev pub IsPiece : List ℕ → List FieldLayout → Type 0
IsPiece line shapes = ((line ≡ []) × (shapes ≡ [])) ⊎ IsLine line shapes

pub typed-line : (type name : List ℕ) (w : ℕ) → ((more : List ℕ) → read_type (type ++ more) ≡ Some (w, more)) → ((more : List ℕ) → rest_past text_front (type ++ more) ≡ None) → IsWordy name
    → IsPiece (typed_line type name) (record { name = name; width = w } ∷ [])
typed-line type name w known other fit = inr (record { known = λ rest. field-back type name rest w known other fit; goes_on = λ rest. refl; some = omega arith })

pub text-line : (name : List ℕ) (words : ℕ) → IsWordy name → 1 ≤ words → words ≤ 8 → IsPiece (text_line (8 * words) name) (replicate words (record { name = name; width = 8 }))
unfolding text_type
text-line name words fit some few = inr (record { known = λ rest. text-back name rest words fit some few; goes_on = λ rest. refl; some = omega arith })

-- lines, and what they tell
unfoldable pub AreLines : List (List ℕ) → List (List FieldLayout) → Type 0
AreLines [] [] = Unit
AreLines (line ∷ lines) (piece ∷ pieces) = IsPiece line piece × AreLines lines pieces
AreLines _ _ = ⊥

abbrev pub joined : List (List ℕ) → List ℕ
joined lines = flat_map (λ line. line) lines

pub AreLines-append : (lines others : List (List ℕ)) (pieces more : List (List FieldLayout)) → AreLines lines pieces → AreLines others more → AreLines (lines ++ others) (pieces ++ more)
unfolding AreLines
AreLines-append [] others [] more are then = then
AreLines-append [] others (piece ∷ pieces) more are then = absurd are
AreLines-append (line ∷ lines) others [] more are then = absurd are
AreLines-append (line ∷ lines) others (piece ∷ pieces) more are then = (are.0, AreLines-append lines others pieces more are.1 then)

pub AreLines-map : (line : ℕ × Field → List ℕ) (piece : ℕ × Field → List FieldLayout) (bound : ℕ) → ((k : ℕ) (f : Field) → k < bound → IsPiece (line (k, f)) (piece (k, f)))
    → (n : ℕ) (fs : List Field) → n + length fs ≤ bound → AreLines (map line (enumerate_from n fs)) (map piece (enumerate_from n fs))
unfolding AreLines
AreLines-map line piece bound each n [] low = tt
AreLines-map line piece bound each n (f ∷ fs) low = (each n f (omega (arith, low)), AreLines-map line piece bound each (n + 1) fs (omega (arith, low)))

-- lines up to their event's end
lines-within : (most : ℕ) (lines : List (List ℕ)) (pieces : List (List FieldLayout)) (rest : List ℕ) → AreLines lines pieces → length (joined lines) < most
    → read_fields most (joined lines ++ (codes "\t};\n};\n" ++ rest)) ≡ Some (flat pieces, rest)
unfolding AreLines
lines-within zero lines pieces rest are few = absurd (omega (arith, few))
lines-within (suc most) [] [] rest are few = refl
lines-within (suc most) [] (piece ∷ pieces) rest are few = absurd are
lines-within (suc most) (line ∷ lines) [] rest are few = absurd are
lines-within (suc most) (line ∷ lines) (piece ∷ pieces) rest (inl none, are) few =
    ap (λ l. read_fields (suc most) ((l ++ joined lines) ++ (codes "\t};\n};\n" ++ rest))) none.0
    ∙ lines-within (suc most) lines pieces rest are (omega (arith, few, length-append line (joined lines)))
    ∙ ap (λ p. Some (p ++ flat pieces, rest)) (sym none.1)
lines-within (suc most) (line ∷ lines) (piece ∷ pieces) rest (inr is, are) few =
    let tail : List ℕ = joined lines ++ (codes "\t};\n};\n" ++ rest) in
    let next : List FieldLayout → List ℕ → PartRead (List FieldLayout) = λ some more. option_map (λ p. (some ++ p.0, p.1)) (read_fields most more) in
    let end : List ℕ → PartRead (List FieldLayout) = λ more. Some ([], more) in
    ap (read_fields (suc most)) (append_assoc line (joined lines) (codes "\t};\n};\n" ++ rest))
    ∙ ap (λ o. past_or o end (then_read (read_field (line ++ tail)) next)) (is.goes_on tail)
    ∙ ap (λ part. then_read part next) (is.known tail)
    ∙ ap (option_map (λ p. (piece ++ p.0, p.1))) (lines-within most lines pieces rest are (omega (arith, few, is.some, length-append line (joined lines))))

pub lines-back : (lines : List (List ℕ)) (pieces : List (List FieldLayout)) (rest : List ℕ) → AreLines lines pieces
    → read_fields (length (joined lines ++ (codes "\t};\n};\n" ++ rest))) (joined lines ++ (codes "\t};\n};\n" ++ rest)) ≡ Some (flat pieces, rest)
lines-back lines pieces rest are =
    lines-within (length (joined lines ++ (codes "\t};\n};\n" ++ rest))) lines pieces rest are
    (omega (arith, length-append (joined lines) (codes "\t};\n};\n" ++ rest)))
