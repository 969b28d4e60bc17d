-- The greatest value of each field.
use Rattle.std.proofs.Common.{[], ◌≡◌, ◌≤◌, ◌<◌, ◌+◌, ◌-◌, ◌^◌, ◌++◌, ℕ, ◌&&◌, false, leb, ltb, List, ◌∷◌, length, map, get_or, take, drop, set, replicate, refl, sym, ◌∙◌, ap, arith}
use Rattle.std.proofs.Math.Dec.{leb-suc-suc}
use Rattle.std.proofs.lemmas.Bool.{le-leb, lt-leb, Decides.nat_tests}
use Rattle.std.proofs.lemmas.List.{take_at, take_more_set, append_assoc, drop_more, drop-drop, drop-replicate, drop-set-lt, length-set, length-map, get_or-map}
use Rattle.dspec_record.specs.Words.{width, limit, fits, padded_limits}
use Rattle.dspec_record.specs.declared.field.Field.{Field, TheVariants.One, TheVariants.Two, TheVariants.Four, TheVariants.Eight}

-- the limits of a list of fields, out of those of all eight
pub take-padded : (fs : List Field) (n : ℕ) → n ≡ length fs → take n (padded_limits fs) ≡ map limit fs
take-padded fs n is = take_at (map limit fs) (replicate (8 - length fs) 0) n (length-map fs limit ∙ sym is)

-- the first `i` limits of these fields are written, and those after them hold zero
pub record AreKnown (i : ℕ) (limits : List ℕ) (fs : List Field) : Type 0 where
  pub eight : length limits ≡ 8
  pub known : take i limits ++ map limit (drop i fs) ≡ map limit fs
  pub rest : drop i limits ≡ replicate (8 - i) 0

pub AreKnown-start : (fs : List Field) → AreKnown 0 (replicate 8 0) fs
AreKnown-start fs = record { eight = refl; known = refl; rest = refl }

pub AreKnown-next : (i : ℕ) (limits : List ℕ) (fs : List Field) → i < length fs → length fs ≤ 8 → AreKnown i limits fs → AreKnown (i + 1) (set limits i (limit (get_or fs i One))) fs
AreKnown-next i limits fs within few is =
    let n : ℕ = limit (get_or fs i One) in
    let past : i < i + 1 = omega arith in
    let room : i < length limits = omega (arith, is.eight) in
    let left : 8 - i - 1 ≡ 8 - (i + 1) = omega arith in
    let more : map limit (drop i fs) ≡ n ∷ map limit (drop (i + 1) fs) = ap (map limit) (drop_more fs i One within) in
    record {
      eight = length-set limits i n ∙ is.eight;
      known = ap (λ t. t ++ map limit (drop (i + 1) fs)) (take_more_set limits i n room)
          ∙ append_assoc (take i limits) (n ∷ []) (map limit (drop (i + 1) fs))
          ∙ ap (λ t. take i limits ++ t) (sym more) ∙ is.known;
      rest = drop-set-lt (i + 1) limits i n past ∙ sym (drop-drop 1 i limits) ∙ ap (drop 1) is.rest
          ∙ drop-replicate 1 (8 - i) 0 ∙ ap (λ n. replicate n 0) left;
    }

-- the limit of the field with this number
limit-at : (fs : List Field) (limits : List ℕ) (i : ℕ) → i < length fs → limits ≡ map limit fs → get_or limits i 0 ≡ limit (get_or fs i One)
limit-at fs limits i within is = ap (λ ns. get_or ns i 0) is ∙ get_or-map limit fs i One 0 within

-- a value fits the field's width if it is no greater than the limit
ltb-limit : (f : Field) (v : ℕ) → ltb v (256 ^ width f) ≡ leb v (limit f)
ltb-limit One v = leb-suc-suc v 255
ltb-limit Two v = leb-suc-suc v 65535
ltb-limit Four v = leb-suc-suc v 4294967295
ltb-limit Eight v = leb-suc-suc v 18446744073709551615

-- what is left fits if its first value does, and those after it
fits-more : (i : ℕ) (fs : List Field) (vs : List ℕ) → i < length fs → i < length vs
    → fits (drop i fs) (drop i vs) ≡ (leb (get_or vs i 0) (limit (get_or fs i One)) && fits (drop (i + 1) fs) (drop (i + 1) vs))
fits-more i fs vs field value = grind (arith, nat_tests, drop_more, ltb-limit)

pub fits-above : (i : ℕ) (fs : List Field) (limits vs : List ℕ) → i < length fs → i < length vs → limits ≡ map limit fs → get_or limits i 0 < get_or vs i 0
    → fits (drop i fs) (drop i vs) ≡ false
fits-above i fs limits vs field value is above = grind (arith, nat_tests, limit-at, fits-more, lt-leb)

pub fits-within : (i : ℕ) (fs : List Field) (limits vs : List ℕ) → i < length fs → i < length vs → limits ≡ map limit fs → get_or vs i 0 ≤ get_or limits i 0
    → fits (drop i fs) (drop i vs) ≡ fits (drop (i + 1) fs) (drop (i + 1) vs)
fits-within i fs limits vs field value is below = grind (arith, nat_tests, limit-at, fits-more, le-leb)
