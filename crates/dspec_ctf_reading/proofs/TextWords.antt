-- The words of texts among an event's fields: their names, and the fields that a text's line tells.
use Rattle.std.proofs.Common.{◌≡◌, ◌≤◌, ◌<◌, ◌+◌, ◌-◌, ◌==◌, ◌++◌, ℕ, suc, Bool, true, false, List, [], ◌∷◌, length, map, take, drop, replicate, refl, ap, sym, ◌∙◌, arith}
use Rattle.std.proofs.lemmas.{Bool.eqb-true, Bool.and_parts, Bool.false_from_ne_true, Bool.Decides.nat_tests, List.length-drop, List.take-append-drop, List.get_or-drop, List.get_or_past}
use Rattle.std.specs.{List.flat_map, List.enumerate_from, Prelude.slice_index_or, Prelude.if◌then◌else◌}
use Rattle.dspec_ctf_reading.specs.Words.{width, is_next, next_in_front, words_at, is_text, is_text_before, can_mean, FieldLayout, Field, One, Kind, Unsigned, Signed, Float, Text, TextNext}
use Rattle.dspec_ctf_reading.specs.Words.{ProbeNames}
use Rattle.dspec_ctf_reading.proofs.NextWords.{kind_of, one-more, one-before, next-front}

-- ---- what the check says of each field

means : (k : Kind) (e b : Bool) → can_mean k e b ≡ true → (is_text k ≡ true → e ≡ true) × (is_next k ≡ true → b ≡ true)
means Unsigned e b can = (λ is. absurd (cc), λ is. absurd (cc))
means Signed e b can = (λ is. absurd (cc), λ is. absurd (cc))
means Float e b can = (λ is. absurd (cc), λ is. absurd (cc))
means Text e b can = (λ _. can, λ is. absurd (cc))
means TextNext e b can = (λ _. (and_parts e b can).0, λ _. (and_parts e b can).1)

pub next-text : (k : Kind) → is_next k ≡ true → is_text k ≡ true
next-text Unsigned is = absurd (cc)
next-text Signed is = absurd (cc)
next-text Float is = absurd (cc)
next-text Text is = absurd (cc)
next-text TextNext is = refl

no : false ≡ true → ⊥
no is = absurd (cc)

-- each field can mean what it means
abbrev pub CanMean : List Kind → List Field → Type 0
CanMean ks fs = (p : ℕ) → p < length ks → can_mean (kind_of ks p) (width (slice_index_or fs p One) == 8) (is_text_before ks p) ≡ true

module _ (ks : List Kind) (fs : List Field) (can : CanMean ks fs) where
  can-all : (p : ℕ) → can_mean (kind_of ks p) (width (slice_index_or fs p One) == 8) (is_text_before ks p) ≡ true
  can-all p = grind (arith, nat_tests, kind_of, get_or_past)

  pub text-eight : (p : ℕ) → is_text (kind_of ks p) ≡ true → width (slice_index_or fs p One) ≡ 8
  text-eight p is = eqb-true (width (slice_index_or fs p One)) 8 ((means (kind_of ks p) (width (slice_index_or fs p One) == 8) (is_text_before ks p) (can-all p)).0 is)

  pub text-within : (p : ℕ) → is_text (kind_of ks p) ≡ true → p < length fs
  text-within p is = grind (arith, nat_tests, get_or_past, text-eight)

  pub next-before : (q : ℕ) → is_next (kind_of ks (q + 1)) ≡ true → is_text (kind_of ks q) ≡ true
  next-before q is = ap (is_text_before ks) (one-more q) ∙ (means (kind_of ks (q + 1)) (width (slice_index_or fs (q + 1) One) == 8) (is_text_before ks (q + 1)) (can-all (q + 1))).1 is

  pub first-none : is_next (kind_of ks 0) ≡ false
  first-none = false_from_ne_true (is_next (kind_of ks 0)) (λ is. no ((means (kind_of ks 0) (width (slice_index_or fs 0 One) == 8) (is_text_before ks 0) (can-all 0)).1 is))

-- ---- the fields of lines

abbrev pub flat : List (List FieldLayout) → List FieldLayout
flat pieces = flat_map (λ piece. piece) pieces

module _ (ks : List Kind) (name : ℕ → List ℕ) where
  abbrev pub run : ℕ → ℕ
  run k = next_in_front (drop k ks)

  abbrev pub shape_at : ℕ × Field → FieldLayout
  shape_at p = record { name = name p.0; width = width p.1 }

  abbrev pub word_at : ℕ → FieldLayout
  word_at k = record { name = name k; width = 8 }

  -- what the line of a field tells: a text's first word all of its words, the next words nothing
  abbrev pub piece_by : Kind → ℕ × Field → List FieldLayout
  piece_by TextNext p = []
  piece_by Text p = replicate (1 + run (p.0 + 1)) (word_at p.0)
  piece_by kind p = shape_at p ∷ []

  abbrev pub piece_at : ℕ × Field → List FieldLayout
  piece_at p = piece_by (kind_of ks p.0) p

  -- a field that can mean what it means, and what stands after it
  unfoldable pub AreFit : ℕ → List Field → Type 0
  AreFit k [] = is_next (kind_of ks k) ≡ false
  AreFit k (f ∷ fs) = ((is_text (kind_of ks k) ≡ true → width f ≡ 8) × (is_next (kind_of ks (k + 1)) ≡ true → is_text (kind_of ks k) ≡ true)) × AreFit (k + 1) fs

  pub run-none : (k : ℕ) → is_next (kind_of ks k) ≡ false → run k ≡ 0
  run-none k is = next-front ks k ∙ ap (λ b. if b then 1 + run (k + 1) else 0) is

  run-more : (k : ℕ) → is_next (kind_of ks k) ≡ true → run k ≡ suc (run (k + 1))
  run-more k is = next-front ks k ∙ ap (λ b. if b then 1 + run (k + 1) else 0) is ∙ one-before (run (k + 1))

  module _ (same : (q : ℕ) → is_next (kind_of ks (q + 1)) ≡ true → name (q + 1) ≡ name q) where
    run-names : (k : ℕ) (fs : List Field) (w : List ℕ) → AreFit k fs → (is_next (kind_of ks k) ≡ true → name k ≡ w)
        → take (run k) (map shape_at (enumerate_from k fs)) ≡ replicate (run k) (record { name = w; width = 8 })
    unfolding AreFit
    run-names k [] w fit named =
        ap (λ r. take r (map shape_at (enumerate_from k []))) (run-none k fit) ∙ sym (ap (λ r. replicate r (record { name = w; width = 8 })) (run-none k fit))
    run-names k (f ∷ fs) w fit named = go (λ is. run-names (k + 1) fs w fit.1 (λ next. same k next ∙ named is)) (is_next (kind_of ks k)) refl
      where
        ss : List FieldLayout
        ss = map shape_at (enumerate_from (k + 1) fs)

        go : (is_next (kind_of ks k) ≡ true → take (run (k + 1)) ss ≡ replicate (run (k + 1)) (record { name = w; width = 8 })) → (b : Bool) → is_next (kind_of ks k) ≡ b
            → take (run k) (shape_at (k, f) ∷ ss) ≡ replicate (run k) (record { name = w; width = 8 })
        go others false is = ap (λ r. take r (shape_at (k, f) ∷ ss)) (run-none k is) ∙ sym (ap (λ r. replicate r (record { name = w; width = 8 })) (run-none k is))
        go others true is =
            let a : name k ≡ w = named is in
            let b : width f ≡ 8 = fit.0.0 (next-text (kind_of ks k) is) in
            let more = others is in
            ap (λ r. take r (shape_at (k, f) ∷ ss)) (run-more k is) ∙ (λ i. record { name = a i; width = b i } ∷ more i)
            ∙ sym (ap (λ r. replicate r (record { name = w; width = 8 })) (run-more k is))

    -- the lines of fields tell the fields
    pub flat-pieces : (k : ℕ) (fs : List Field) → AreFit k fs → flat (map piece_at (enumerate_from k fs)) ≡ drop (run k) (map shape_at (enumerate_from k fs))
    unfolding AreFit
    flat-pieces k [] fit = sym (ap (λ r. drop r (map shape_at (enumerate_from k []))) (run-none k fit))
    flat-pieces k (f ∷ fs) fit = go (flat-pieces (k + 1) fs fit.1) (kind_of ks k) refl
      where
        ss : List FieldLayout
        ss = map shape_at (enumerate_from (k + 1) fs)

        plain : flat (map piece_at (enumerate_from (k + 1) fs)) ≡ drop (run (k + 1)) ss → is_text (kind_of ks k) ≡ false → is_next (kind_of ks k) ≡ false
            → (shape_at (k, f) ∷ []) ++ flat (map piece_at (enumerate_from (k + 1) fs)) ≡ drop (run k) (shape_at (k, f) ∷ ss)
        plain others other none =
            let last : is_next (kind_of ks (k + 1)) ≡ false = false_from_ne_true (is_next (kind_of ks (k + 1))) (λ is. no (sym other ∙ fit.0.1 is)) in
            ap (λ more. shape_at (k, f) ∷ more) (others ∙ ap (λ r. drop r ss) (run-none (k + 1) last)) ∙ sym (ap (λ r. drop r (shape_at (k, f) ∷ ss)) (run-none k none))

        go : flat (map piece_at (enumerate_from (k + 1) fs)) ≡ drop (run (k + 1)) ss → (kind : Kind) → kind_of ks k ≡ kind
            → piece_by kind (k, f) ++ flat (map piece_at (enumerate_from (k + 1) fs)) ≡ drop (run k) (shape_at (k, f) ∷ ss)
        go others TextNext is = others ∙ sym (ap (λ r. drop r (shape_at (k, f) ∷ ss)) (run-more k (ap is_next is)))
        go others Text is =
            let wide : width f ≡ 8 = fit.0.0 (ap is_text is) in
            ap (λ n. replicate n (word_at k) ++ flat (map piece_at (enumerate_from (k + 1) fs))) (one-before (run (k + 1)))
            ∙ ap (λ more. (word_at k ∷ replicate (run (k + 1)) (word_at k)) ++ more) others
            ∙ ap (λ front. word_at k ∷ (front ++ drop (run (k + 1)) ss)) (sym (run-names (k + 1) fs (name k) fit.1 (λ next. same k next)))
            ∙ ap (λ more. word_at k ∷ more) (take-append-drop (run (k + 1)) ss)
            ∙ (λ i. record { name = name k; width = sym wide i } ∷ ss)
            ∙ sym (ap (λ r. drop r (shape_at (k, f) ∷ ss)) (run-none k (ap is_next is)))
        go others Unsigned is = plain others (ap is_text is) (ap is_next is)
        go others Signed is = plain others (ap is_text is) (ap is_next is)
        go others Float is = plain others (ap is_text is) (ap is_next is)

-- fields of which the check found nothing
pub are-fit : (ks : List Kind) (fs : List Field) (name : ℕ → List ℕ) → CanMean ks fs → (k : ℕ) (gs : List Field) → k + length gs ≡ length fs
    → ((i : ℕ) → slice_index_or fs (k + i) One ≡ slice_index_or gs i One) → AreFit ks name k gs
unfolding AreFit
are-fit ks fs name can k [] all each =
    false_from_ne_true (is_next (kind_of ks k)) (λ is. absurd (omega (arith, all, text-within ks fs can k (next-text (kind_of ks k) is))))
are-fit ks fs name can k (g ∷ gs) all each =
    let here : slice_index_or fs k One ≡ g = ap (λ n. slice_index_or fs n One) (omega arith) ∙ each 0 in (
      (λ is. ap width (sym here) ∙ text-eight ks fs can k is, next-before ks fs can k),
      are-fit ks fs name can (k + 1) gs (omega (arith, all)) (λ i. ap (λ n. slice_index_or fs n One) (omega arith) ∙ each (suc i)),
    )

-- a text has no more words than there are fields
pub run-few : (ks : List Kind) (fs : List Field) (name : ℕ → List ℕ) → (k : ℕ) (gs : List Field) → AreFit ks name k gs → next_in_front (drop k ks) ≤ length gs
unfolding AreFit
run-few ks fs name k [] fit = omega (arith, run-none ks name k fit)
run-few ks fs name k (g ∷ gs) fit = go (run-few ks fs name (k + 1) gs fit.1) (is_next (kind_of ks k)) refl
  where
    go : next_in_front (drop (k + 1) ks) ≤ length gs → (b : Bool) → is_next (kind_of ks k) ≡ b → next_in_front (drop k ks) ≤ length (g ∷ gs)
    go others true is = omega (arith, run-more ks name k is, others)
    go others false is = omega (arith, run-none ks name k is)

-- so a text has eight words at the most
pub words-few : (n : ProbeNames) (fs : List Field) → CanMean n.kinds fs → length fs ≤ 8 → (k : ℕ) → k < length fs → words_at n k ≤ 8
words-few n fs can most k low =
    let ks : List Kind = n.kinds in
    let gs : List Field = drop (k + 1) fs in
    let long : length gs ≡ length fs - (k + 1) = length-drop (k + 1) fs in
    let fit : AreFit ks (λ _. []) (k + 1) gs = are-fit ks fs (λ _. []) can (k + 1) gs (omega (arith, long, low)) (λ i. sym (get_or-drop (k + 1) fs i One)) in
    omega (arith, run-few ks fs (λ _. []) (k + 1) gs fit, long, low, most)
