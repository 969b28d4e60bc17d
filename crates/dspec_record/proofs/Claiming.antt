-- A claim: of which EPID and which fields it is true, and where these stand.
use Rattle.std.proofs.Common.{◌≡◌, ◌≤◌, ◌<◌, ◌+◌, ◌-◌, ◌%◌, ◌^◌, ◌++◌, ℕ, zero, suc, Bool, true, false, cond, IsTrue, List, [], ◌∷◌, length, take, drop, set, replicate, get_or, slice_get, inl, inr}
use Rattle.std.proofs.Common.{Option, Some, None, option_and_then, refl, sym, ◌∙◌, ap, arith}
use Rattle.std.proofs.Math.Nat.{pow-suc, pow-le-pow_right}
use Rattle.std.proofs.lemmas.Bool.{eqb-true, eq-eqb, ltb-true, lt-ltb, cases_lt, Decides.nat_tests}
use Rattle.std.proofs.lemmas.List.{append_assoc, length-append, length-take-le, get_or_append_left, get_or-take, get_or-drop, set_at}
use Rattle.dspec_record.specs.Words.{width, words_in, signature_of, claim_of, claimed_by, claimed, claims_from, padded_claims, enabling_of}
use Rattle.dspec_record.specs.declared.field.Field.{Field, TheVariants.One, TheVariants.Two, TheVariants.Four, TheVariants.Eight}

width-below : (f : Field) → width f < 16
width-below One = omega arith
width-below Two = omega arith
width-below Four = omega arith
width-below Eight = omega arith

signature-below : (fs : List Field) → signature_of fs < 16 ^ length fs
signature-below [] = omega arith
signature-below (f ∷ fs) = grind (arith, nat_tests, signature-below fs, pow-suc, width-below)

-- the widths of eight fields have 32 bits
pub signature_of-fits : (fs : List Field) → length fs ≤ 8 → signature_of fs < 2 ^ 32
signature_of-fits fs few = grind (arith, nat_tests, pow-le-pow_right, signature-below)

-- a claim tells its EPID
pub claim_of-epid : (epid : ℕ) (fs : List Field) → epid < 2 ^ 32 → claim_of epid fs % 2 ^ 32 ≡ epid
claim_of-epid epid fs small = omega arith

-- what a claim says, and of so many words
pub record IsClaimed (rows : List (List Field)) (claim n : ℕ) (fs : List Field) : Type 0 where
  pub place : ℕ
  pub epid : claim % 2 ^ 32 ≡ place + 1
  pub row : slice_get rows place ≡ Some fs
  pub whole : claim_of (place + 1) fs ≡ claim
  pub words : words_in fs ≡ n
  pub some : 0 < n

-- such a claim is true
pub claimed-so : (rows : List (List Field)) (claim n : ℕ) (fs : List Field) → IsClaimed rows claim n fs → claimed rows claim n ≡ Some fs
claimed-so rows claim n fs is = grind (arith, nat_tests, eq-eqb, lt-ltb)

tested : (b : Bool) (gs fs : List Field) → cond b (Some gs) None ≡ Some fs → IsTrue b × (gs ≡ fs)
tested true gs fs is = let same : gs ≡ fs = cc in (refl, same)
tested false gs fs is = absurd (cc)

of_row : (rows : List (List Field)) (claim n e : ℕ) (o : Option (List Field)) (fs : List Field) → claim % 2 ^ 32 ≡ e → enabling_of rows e ≡ o
    → option_and_then (claimed_by claim n) o ≡ Some fs → IsClaimed rows claim n fs
of_row rows claim n e None fs epid row is = absurd (cc)
of_row rows claim n zero (Some gs) fs epid row is = absurd (cc)
of_row rows claim n (suc place) (Some gs) fs epid row is = grind (arith, nat_tests, tested, eqb-true, ltb-true)

-- and a true claim is such a one
pub claimed-is : (rows : List (List Field)) (claim n : ℕ) (fs : List Field) → claimed rows claim n ≡ Some fs → IsClaimed rows claim n fs
claimed-is rows claim n fs is = of_row rows claim n (claim % 2 ^ 32) (enabling_of rows (claim % 2 ^ 32)) fs refl refl is

-- ---- the claims of enablings, in their order

length-claims_from : (epid : ℕ) (rows : List (List Field)) → length (claims_from epid rows) ≡ length rows
length-claims_from epid [] = refl
length-claims_from epid (fs ∷ rows) = ap suc (length-claims_from (epid + 1) rows)

claims_from-append : (epid : ℕ) (rows : List (List Field)) (fs : List Field) → claims_from epid (rows ++ fs ∷ []) ≡ claims_from epid rows ++ claim_of (epid + length rows) fs ∷ []
claims_from-append epid [] fs = let same : epid ≡ epid + 0 = omega arith in ap (λ e. claim_of e fs ∷ []) same
claims_from-append epid (gs ∷ rows) fs = grind (arith, nat_tests, claims_from-append (epid + 1) rows fs)

get_or-claims_from : (epid : ℕ) (rows : List (List Field)) (place : ℕ) → place < length rows → get_or (claims_from epid rows) place 0 ≡ claim_of (epid + place) (get_or rows place [])
get_or-claims_from epid [] place within = absurd (omega arith)
get_or-claims_from epid (fs ∷ rows) zero within = let same : epid ≡ epid + 0 = omega arith in ap (λ e. claim_of e fs) same
get_or-claims_from epid (fs ∷ rows) (suc place) within =
    let same : epid + 1 + place ≡ epid + suc place = omega arith in
    get_or-claims_from (epid + 1) rows place (omega arith) ∙ ap (λ e. claim_of e (get_or rows place [])) same

get_or-padded_claims : (rows : List (List Field)) (place : ℕ) → place < length rows → get_or (padded_claims rows) place 0 ≡ claim_of (place + 1) (get_or rows place [])
get_or-padded_claims rows place within = grind (arith, nat_tests, length-claims_from, get_or_append_left, get_or-claims_from)

-- one enabling more
pub claims-push : (rows : List (List Field)) (fs : List Field) → length rows < 64 → set (padded_claims rows) (length rows) (claim_of (length rows + 1) fs) ≡ padded_claims (rows ++ fs ∷ [])
claims-push rows fs room = grind (arith, nat_tests, length-append, set_at, length-claims_from, append_assoc, claims_from-append)

slice_get-within : (rows : List (List Field)) (place : ℕ) → place < length rows → slice_get rows place ≡ Some (get_or rows place [])
slice_get-within [] place within = absurd (omega arith)
slice_get-within (fs ∷ rows) zero within = refl
slice_get-within (fs ∷ rows) (suc place) within = slice_get-within rows place (omega arith)

slice_get-some : (rows : List (List Field)) (place : ℕ) (fs : List Field) → slice_get rows place ≡ Some fs → (place < length rows) × (get_or rows place [] ≡ fs)
slice_get-some [] place fs is = absurd (cc)
slice_get-some (gs ∷ rows) zero fs is = let same : gs ≡ fs = cc in (omega arith, same)
slice_get-some (gs ∷ rows) (suc place) fs is = grind (arith, nat_tests, slice_get-some rows place fs is)

-- a row that isn't enabled has no words
row-enabled : (all : List (List Field)) (count n place : ℕ) → drop count all ≡ replicate (64 - count) [] → words_in (get_or all place []) ≡ n → 0 < n → place < count
row-enabled all count n place rest words some = elim (cases_lt place count) [
  | inl within ↦ within
  | inr past ↦
      let none : List Field = [] in
      let at : count + (place - count) ≡ place = omega arith in
      let empty : get_or all place none ≡ [] =
      ap (λ k. get_or all k none) (sym at) ∙ sym (get_or-drop count all (place - count) none)
      ∙ ap (λ rows. get_or rows (place - count) none) rest ∙ of_none (64 - count) (place - count) in
      let no_words : words_in (get_or all place none) ≡ 0 = ap words_in empty in
      absurd (omega (arith, no_words, words, some))
]
  where
    of_none : (k i : ℕ) → let none : List Field = [] in get_or (replicate k none) i none ≡ []
    of_none zero i = refl
    of_none (suc k) zero = refl
    of_none (suc k) (suc i) = of_none k i

-- a claim that a place holds, and whose words are those of the row there, is true of that row
pub claimed-some : (all : List (List Field)) (claims : List ℕ) (count claim n place : ℕ) → length all ≡ 64 → count ≤ 64 → drop count all ≡ replicate (64 - count) []
    → claims ≡ padded_claims (take count all) → place < 64 → get_or claims place 0 ≡ claim → words_in (get_or all place []) ≡ n → 0 < n
    → claimed (take count all) claim n ≡ Some (get_or all place [])
claimed-some all claims count claim n place long few rest held inside is words some =
    grind (arith, nat_tests, row-enabled, length-take-le, get_or-take, get_or-padded_claims, claimed-so, claim_of-epid, slice_get-within)

-- and a claim that is true of a row is held at the row's place
pub claimed-place : (all : List (List Field)) (claims : List ℕ) (count claim n place : ℕ) → length all ≡ 64 → count ≤ 64 → drop count all ≡ replicate (64 - count) []
    → claims ≡ padded_claims (take count all) → claim < 2 ^ 64 → (fs : List Field) → claimed (take count all) claim n ≡ Some fs → place ≡ (claim + (2 ^ 64 - 1)) % 2 ^ 64 % 64
    → (get_or claims place 0 ≡ claim) × (words_in (get_or all place []) ≡ n) × (0 < n)
claimed-place all claims count claim n place long few rest held small fs is at = grind (arith, nat_tests, claimed-is, length-take-le, slice_get-some, get_or-padded_claims, get_or-take)
