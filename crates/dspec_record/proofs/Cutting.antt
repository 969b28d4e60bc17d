-- A number whose bytes are the values of fields at their places: its bytes, and the fields that are cut out of it.
use Rattle.std.proofs.Common.{◌≡◌, ◌<◌, ◌+◌, ◌-◌, ◌*◌, ◌/◌, ◌%◌, ◌^◌, ◌&&◌, ◌++◌, ℕ, ltb, IsTrue, List, [], ◌∷◌, replicate, refl, sym, ◌∙◌, ap, subst, arith}
use Rattle.std.proofs.Math.Nat.{mod-lt, mul-lt-mul_of_pos_right}
use Rattle.std.proofs.lemmas.{Bool.lt-ltb, Bool.ltb-true, Nat.div-mul-add, Nat.mod-mul-add, Nat.mul-add-lt}
use Rattle.dspec_record.specs.Words.{width, rounded_up, after, fields_end, little_endian, gap, fields_text, fits, cuts, rounded_up-ge, fields_end-ge, both}
use Rattle.dspec_record.specs.declared.field.Field.{Field, TheVariants.One, TheVariants.Two, TheVariants.Four, TheVariants.Eight}
use Rattle.dspec_record.proofs.LittleEndian.{pow_pos256, pow-add256, div-more, shifted-back, little_endian-zero, little_endian-parts}

-- what is cut fits
pub cuts_fit : (start : ℕ) (fs : List Field) (n : ℕ) → IsTrue (fits fs (cuts start fs n))
cuts_fit start [] n = refl
cuts_fit start (f ∷ fs) n =
    let next : ℕ = after start (width f) (width f) in
    let v : ℕ = n / 256 ^ rounded_up start (width f) % 256 ^ width f in
    let below : v < 256 ^ width f = mod-lt (n / 256 ^ rounded_up start (width f)) (pow_pos256 (width f)) in
    ap (λ b. b && fits fs (cuts next fs n)) (lt-ltb v (256 ^ width f) below) ∙ cuts_fit next fs n

gap-moved : (f : Field) (o : ℕ) → gap (8 + o) (width f) ≡ gap o (width f)
gap-moved One o = ap (λ n. replicate n 0) (omega arith)
gap-moved Two o = ap (λ n. replicate n 0) (omega arith)
gap-moved Four o = ap (λ n. replicate n 0) (omega arith)
gap-moved Eight o = ap (λ n. replicate n 0) (omega arith)

after-moved : (f : Field) (o : ℕ) → after (8 + o) (width f) (width f) ≡ 8 + after o (width f) (width f)
after-moved One o = omega arith
after-moved Two o = omega arith
after-moved Four o = omega arith
after-moved Eight o = omega arith

fields_text-moved : (o : ℕ) (fs : List Field) (vs : List ℕ) → fields_text (8 + o) fs vs ≡ fields_text o fs vs
fields_text-moved o [] vs = gap-moved Four o
fields_text-moved o (f ∷ fs) [] = gap-moved Four o
fields_text-moved o (f ∷ fs) (v ∷ vs) =
    let next : ℕ = after o (width f) (width f) in
    ap (λ hole. hole ++ (little_endian (width f) v ++ fields_text (after (8 + o) (width f) (width f)) fs vs)) (gap-moved f o)
    ∙ ap (λ n. gap o (width f) ++ (little_endian (width f) v ++ fields_text n fs vs)) (after-moved f o)
    ∙ ap (λ t. gap o (width f) ++ (little_endian (width f) v ++ t)) (fields_text-moved next fs vs)

-- the bytes of the fields are the same after a stamp
pub moved : (fs : List Field) (vs : List ℕ) → fields_text 12 fs vs ≡ fields_text 4 fs vs
moved fs vs = fields_text-moved 4 fs vs

-- the number whose bytes are those from `start` on: each value at its place
abbrev pub packed : ℕ → List Field → List ℕ → ℕ
packed start (f ∷ fs) (v ∷ vs) =
    (packed (after start (width f) (width f)) fs vs * 256 ^ width f + v) * 256 ^ (rounded_up start (width f) - start)
packed start _ _ = 0

-- a value that is cut out of a number that holds it
pub cuts-packed : (start : ℕ) (fs : List Field) (vs : List ℕ) (n : ℕ) → IsTrue (fits fs vs) → n / 256 ^ start ≡ packed start fs vs → cuts start fs n ≡ vs
cuts-packed start [] [] n fit is = refl
cuts-packed start [] (v ∷ vs) n fit is = absurd (cc)
cuts-packed start (f ∷ fs) [] n fit is = absurd (cc)
cuts-packed start (f ∷ fs) (v ∷ vs) n fit is =
    let w : ℕ = width f in
    let place : ℕ = rounded_up start w in
    let next : ℕ = after start w w in
    let hole : ℕ = place - start in
    let rest : ℕ = packed next fs vs in
    let parts = both (ltb v (256 ^ w)) (fits fs vs) fit in
    let holds : v < 256 ^ w = ltb-true v (256 ^ w) parts.0 in
    let to_place : start + hole ≡ place = omega (arith, rounded_up-ge f start) in
    let here : n / 256 ^ place ≡ rest * 256 ^ w + v =
    sym (div-more start hole place n to_place) ∙ ap (λ m. m / 256 ^ hole) is ∙ shifted-back hole (rest * 256 ^ w + v) in
    let later : n / 256 ^ next ≡ rest =
    sym (div-more place w next n refl) ∙ ap (λ m. m / 256 ^ w) here ∙ div-mul-add rest (256 ^ w) v holds in
    let value : n / 256 ^ place % 256 ^ w ≡ v = ap (λ m. m % 256 ^ w) here ∙ mod-mul-add rest (256 ^ w) v holds in
    let values : cuts next fs n ≡ vs = cuts-packed next fs vs n parts.1 later in
    λ i. value i ∷ values i

-- its bytes are the text of the fields
pub packed-text : (start : ℕ) (fs : List Field) (vs : List ℕ) → IsTrue (fits fs vs)
    → little_endian (rounded_up (fields_end start fs) 4 - start) (packed start fs vs) ≡ fields_text start fs vs
packed-text start [] [] fit = little_endian-zero (rounded_up start 4 - start)
packed-text start [] (v ∷ vs) fit = absurd (cc)
packed-text start (f ∷ fs) [] fit = absurd (cc)
packed-text start (f ∷ fs) (v ∷ vs) fit =
    let w : ℕ = width f in
    let place : ℕ = rounded_up start w in
    let next : ℕ = after start w w in
    let hole : ℕ = place - start in
    let left : ℕ = rounded_up (fields_end next fs) 4 - next in
    let rest : ℕ = packed next fs vs in
    let parts = both (ltb v (256 ^ w)) (fits fs vs) fit in
    let holds : v < 256 ^ w = ltb-true v (256 ^ w) parts.0 in
    let here : ℕ = rest * 256 ^ w + v in
    let count : rounded_up (fields_end next fs) 4 - start ≡ hole + (w + left) =
    omega (arith, rounded_up-ge f start, fields_end-ge next fs, rounded_up-ge Four (fields_end next fs)) in
    let none : here * 256 ^ hole ≡ here * 256 ^ hole + 0 = omega arith in
    ap (λ k. little_endian k (here * 256 ^ hole)) count
    ∙ ap (little_endian (hole + (w + left))) none
    ∙ little_endian-parts hole (w + left) here 0 (pow_pos256 hole)
    ∙ ap (λ bs. bs ++ little_endian (w + left) here) (little_endian-zero hole)
    ∙ ap (λ bs. replicate hole 0 ++ bs) (little_endian-parts w left rest v holds)
    ∙ ap (λ bs. replicate hole 0 ++ (little_endian w v ++ bs)) (packed-text next fs vs parts.1)

-- and it has no more bytes than the fields
pub packed-below : (start : ℕ) (fs : List Field) (vs : List ℕ) → IsTrue (fits fs vs) → packed start fs vs < 256 ^ (fields_end start fs - start)
packed-below start [] [] fit = pow_pos256 (start - start)
packed-below start [] (v ∷ vs) fit = absurd (cc)
packed-below start (f ∷ fs) [] fit = absurd (cc)
packed-below start (f ∷ fs) (v ∷ vs) fit =
    let w : ℕ = width f in
    let place : ℕ = rounded_up start w in
    let next : ℕ = after start w w in
    let hole : ℕ = place - start in
    let left : ℕ = fields_end next fs - next in
    let rest : ℕ = packed next fs vs in
    let parts = both (ltb v (256 ^ w)) (fits fs vs) fit in
    let here : ℕ = rest * 256 ^ w + v in
    let small : here < 256 ^ w * 256 ^ left =
    mul-add-lt rest (256 ^ w) v (256 ^ left) (packed-below next fs vs parts.1) (ltb-true v (256 ^ w) parts.0) in
    let all : 256 ^ w * 256 ^ left * 256 ^ hole ≡ 256 ^ (fields_end next fs - start) =
    ap (λ p. p * 256 ^ hole) (pow-add256 w left (w + left) refl)
    ∙ pow-add256 (w + left) hole (fields_end next fs - start) (omega (arith, rounded_up-ge f start, fields_end-ge next fs)) in
    let Below : ℕ → Type 0 = λ p. here * 256 ^ hole < p in
    subst Below all (mul-lt-mul_of_pos_right small (pow_pos256 hole))
