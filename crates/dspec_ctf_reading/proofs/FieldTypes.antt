-- The types of fields are read as their widths.
use Rattle.std.proofs.Common.{◌≡◌, ◌≤◌, ◌<◌, ◌+◌, ◌^◌, ◌++◌, ℕ, zero, suc, true, List, [], ◌∷◌, length, map, Some, None, option_map, refl, ap, ◌∙◌, arith, append_assoc, length-append, All}
use Rattle.std.proofs.lemmas.{Bool.Decides.nat_tests, List.Elements.All-head, List.Elements.All-tail}
use Rattle.std.specs.{List.flat_map, List.list_all, List.enumerate_from, Prelude.codes, Prelude.decimal}
use Rattle.dspec_ctf_reading.specs.Words.{width, type_name, kind_type, label_item, label_items, labelled_type, PartRead, then_read, rest_past, past, is_digit, read_decimal, is_quoted, whole_types}
use Rattle.dspec_ctf_reading.specs.Words.{float_types, read_type_of, read_label, read_labels, read_type, text_front, Field, One, Two, Four, Eight, Kind, Unsigned, Signed, Float, Text, TextNext}
use Rattle.dspec_ctf_reading.proofs.Scanning.{read-run-back, decimal-back}

-- whole numbers
IsWhole : Kind → Type 0
IsWhole Unsigned = Unit
IsWhole Signed = Unit
IsWhole Float = ⊥
IsWhole Text = Unit
IsWhole TextNext = Unit

-- a number's type is no enumeration's, nor a text's; it is read as its width, a whole number's among these alone
abbrev IsBack : Kind → Field → List ℕ → List ℕ → Type 0
IsBack kind f rest bytes =
    (rest_past (codes "enum : ") bytes ≡ None) × (rest_past text_front bytes ≡ None)
    × (read_type_of (whole_types ++ float_types) bytes ≡ Some (width f, rest)) × (IsWhole kind → read_type_of whole_types bytes ≡ Some (width f, rest))

name-back : (kind : Kind) (f : Field) (rest : List ℕ) → IsBack kind f rest (type_name f ++ rest)
name-back kind One rest = (refl, refl, refl, λ _. refl)
name-back kind Two rest = (refl, refl, refl, λ _. refl)
name-back kind Four rest = (refl, refl, refl, λ _. refl)
name-back kind Eight rest = (refl, refl, refl, λ _. refl)

plain-back : (kind : Kind) (f : Field) (rest : List ℕ) → IsBack kind f rest (kind_type kind f ++ rest)
unfolding IsWhole
plain-back Unsigned f rest = name-back Unsigned f rest
plain-back Text f rest = name-back Text f rest
plain-back TextNext f rest = name-back TextNext f rest
plain-back Signed One rest = (refl, refl, refl, λ _. refl)
plain-back Signed Two rest = (refl, refl, refl, λ _. refl)
plain-back Signed Four rest = (refl, refl, refl, λ _. refl)
plain-back Signed Eight rest = (refl, refl, refl, λ _. refl)
plain-back Float One rest = name-back Float One rest
plain-back Float Two rest = name-back Float Two rest
plain-back Float Four rest = (refl, refl, refl, λ no. absurd no)
plain-back Float Eight rest = (refl, refl, refl, λ no. absurd no)

no-text : (kind : Kind) (f : Field) (rest : List ℕ) → rest_past text_front (kind_type kind f ++ rest) ≡ None
no-text kind f rest = (plain-back kind f rest).1

-- a type is a number's, or an enumeration of labels over a whole number's
by-labels : (P : List ℕ → Type 0) (kind : Kind) (labels : List (List ℕ)) (f : Field) → P (kind_type kind f)
    → (IsWhole kind → P (codes "enum : " ++ kind_type kind f ++ codes " { " ++ flat_map label_item (enumerate_from 0 labels) ++ codes "}")) → P (labelled_type kind labels f)
unfolding labelled_type label_items IsWhole
by-labels P Float labels f plain whole = plain
by-labels P Unsigned [] f plain whole = plain
by-labels P Signed [] f plain whole = plain
by-labels P Text [] f plain whole = plain
by-labels P TextNext [] f plain whole = plain
by-labels P Unsigned (label ∷ labels) f plain whole = whole tt
by-labels P Signed (label ∷ labels) f plain whole = whole tt
by-labels P Text (label ∷ labels) f plain whole = whole tt
by-labels P TextNext (label ∷ labels) f plain whole = whole tt

pub no-text-type : (kind : Kind) (labels : List (List ℕ)) (f : Field) (rest : List ℕ) → rest_past text_front (labelled_type kind labels f ++ rest) ≡ None
no-text-type kind labels f rest = by-labels (λ type. rest_past text_front (type ++ rest) ≡ None) kind labels f (no-text kind f rest) (λ _. refl)

pub no-text-name : (f : Field) (rest : List ℕ) → rest_past text_front (type_name f ++ rest) ≡ None
no-text-name f rest = no-text Unsigned f rest

pub kind-back : (kind : Kind) (f : Field) (rest : List ℕ) → read_type (kind_type kind f ++ rest) ≡ Some (width f, rest)
kind-back kind f rest = grind (arith, nat_tests, (plain-back kind f rest).0, (plain-back kind f rest).2)

-- a text that can stand in quotes
unfoldable pub IsQuotable : List ℕ → Type 0
IsQuotable text = (list_all is_quoted text ≡ true) × (0 < length text)

pub five : (a b c d e x : List ℕ) → (a ++ b ++ c ++ d ++ e) ++ x ≡ a ++ (b ++ (c ++ (d ++ (e ++ x))))
five a b c d e x = simp append_assoc

label-back : (n : ℕ) (label rest : List ℕ) → n < 2 ^ 64 → IsQuotable label → read_label (label_item (n, label) ++ rest) ≡ Some ((label, n), rest)
unfolding IsQuotable is_quoted is_digit
label-back n label rest low fit =
    let c : List ℕ → ℕ → List ℕ → PartRead (List ℕ × ℕ) = λ name number more. past (codes ", ") more (λ more. Some ((name, number), more)) in
    let b : List ℕ → List ℕ → PartRead (List ℕ × ℕ) = λ name more. past (codes "\" = ") more (λ more. then_read (read_decimal more) (λ number more. c name number more)) in
    ap read_label (five (codes "\"") label (codes "\" = ") (decimal n) (codes ", ") rest)
    ∙ ap (λ part. then_read part b) (read-run-back is_quoted label (codes "\" = " ++ (decimal n ++ (codes ", " ++ rest))) fit.0 fit.1 refl)
    ∙ ap (λ part. then_read part (λ number more. c label number more)) (decimal-back n (codes ", " ++ rest) low refl)

labels-back : (most n : ℕ) (labels : List (List ℕ)) (rest : List ℕ) → length labels < most → n + length labels ≤ 2 ^ 64 → All IsQuotable labels
    → read_labels most (flat_map label_item (enumerate_from n labels) ++ (codes "}" ++ rest)) ≡ Some (map (λ p. (p.1, p.0)) (enumerate_from n labels), rest)
labels-back zero n labels rest few low fit = absurd (omega (arith, few))
labels-back (suc most) n [] rest few low fit = refl
labels-back (suc most) n (label ∷ labels) rest few low fit =
    let others : List ℕ = flat_map label_item (enumerate_from (n + 1) labels) in
    let next : List ℕ × ℕ → List ℕ → PartRead (List (List ℕ × ℕ)) = λ one more. option_map (λ p. (one ∷ p.0, p.1)) (read_labels most more) in
    ap (read_labels (suc most)) (append_assoc (label_item (n, label)) others (codes "}" ++ rest))
    ∙ ap (λ part. then_read part next) (label-back n label (others ++ (codes "}" ++ rest)) (omega (arith, low)) (All-head IsQuotable label labels fit))
    ∙ ap (option_map (λ p. ((label, n) ∷ p.0, p.1))) (labels-back most (n + 1) labels rest (omega (arith, few)) (omega (arith, low)) (All-tail IsQuotable label labels fit))

-- each label has some bytes
labels-long : (n : ℕ) (labels : List (List ℕ)) → length labels ≤ length (flat_map label_item (enumerate_from n labels))
labels-long n [] = omega arith
labels-long n (label ∷ labels) =
    let others : List ℕ = flat_map label_item (enumerate_from (n + 1) labels) in
    let some : 1 ≤ length (label_item (n, label)) = omega arith in
    omega (arith, some, length-append (label_item (n, label)) others, labels-long (n + 1) labels)

enum-back : (kind : Kind) (labels : List (List ℕ)) (f : Field) (rest : List ℕ) → IsWhole kind → length labels ≤ 2 ^ 64 → All IsQuotable labels
    → read_type ((codes "enum : " ++ kind_type kind f ++ codes " { " ++ flat_map label_item (enumerate_from 0 labels) ++ codes "}") ++ rest) ≡ Some (width f, rest)
enum-back kind labels f rest whole low fit =
    let items : List ℕ = flat_map label_item (enumerate_from 0 labels) in
    let tail : List ℕ = items ++ (codes "}" ++ rest) in
    let next : ℕ → List ℕ → PartRead ℕ = λ w more. past (codes " { ") more (λ more. option_map (λ p. (w, p.1)) (read_labels (length more) more)) in
    ap read_type (five (codes "enum : ") (kind_type kind f) (codes " { ") items (codes "}") rest)
    ∙ ap (λ part. then_read part next) ((plain-back kind f (codes " { " ++ tail)).3 whole)
    ∙ ap (option_map (λ p. (width f, p.1)))
    (labels-back (length tail) 0 labels rest (omega (arith, labels-long 0 labels, length-append items (codes "}" ++ rest))) (omega (arith, low)) fit)

-- any type
pub type-back : (kind : Kind) (labels : List (List ℕ)) (f : Field) (rest : List ℕ) → length labels ≤ 2 ^ 64 → All IsQuotable labels
    → read_type (labelled_type kind labels f ++ rest) ≡ Some (width f, rest)
type-back kind labels f rest low fit =
    by-labels (λ type. read_type (type ++ rest) ≡ Some (width f, rest)) kind labels f (kind-back kind f rest) (λ whole. enum-back kind labels f rest whole low fit)
