-- The places of fields, also where a stamp moves them all.
use Rattle.std.proofs.Common.{[], ◌≡◌, ◌≤◌, ◌<◌, ◌+◌, ◌-◌, ◌*◌, ◌%◌, ◌++◌, ℕ, suc, List, ◌∷◌, length, get_or, take, drop, set, replicate, refl, sym, ◌∙◌, ap, arith}
use Rattle.std.proofs.lemmas.{Bool.Decides.nat_tests, List.take_at, List.take_more_set, List.append_assoc, List.drop_more, List.drop-drop, List.drop-replicate, List.drop-set-lt, List.length-set}
use Rattle.dspec_record.specs.Words.{width, rounded_up, after, field_places, fields_start, padded_places}
use Rattle.dspec_record.specs.declared.field.Field.{Field, TheVariants.One, TheVariants.Two, TheVariants.Four, TheVariants.Eight}
use Rattle.dspec_record.specs.declared.header.Header.{Header}
use Rattle.dspec_record.specs.declared.header.Header.TheVariants as header

pub length-field_places : (start : ℕ) (fs : List Field) → length (field_places start fs) ≡ length fs
length-field_places start [] = refl
length-field_places start (f ∷ fs) = ap suc (length-field_places (after start (width f) (width f)) fs)

-- the places of a list of fields, out of those of all eight
pub take-padded : (fs : List Field) (n : ℕ) → n ≡ length fs → take n (padded_places fs) ≡ field_places 4 fs
take-padded fs n is = take_at (field_places 4 fs) (replicate (8 - length fs) 0) n (length-field_places 4 fs ∙ sym is)

pub after-le : (f : Field) (o : ℕ) → after o (width f) (width f) ≤ o + 15
after-le One o = omega arith
after-le Two o = omega arith
after-le Four o = omega arith
after-le Eight o = omega arith

pub place-le : (f : Field) (o : ℕ) → rounded_up o (width f) ≤ o + 7
place-le One o = omega arith
place-le Two o = omega arith
place-le Four o = omega arith
place-le Eight o = omega arith

-- the first `i` places of these fields are written, and those after them hold zero
pub record ArePlaced (i end : ℕ) (places : List ℕ) (fs : List Field) : Type 0 where
  pub eight : length places ≡ 8
  pub laid : take i places ++ field_places end (drop i fs) ≡ field_places 4 fs
  pub rest : drop i places ≡ replicate (8 - i) 0
  pub near : end ≤ 4 + 15 * i

pub ArePlaced-start : (fs : List Field) → ArePlaced 0 4 (replicate 8 0) fs
ArePlaced-start fs = record { eight = refl; laid = refl; rest = refl; near = omega arith }

regroup : (a : List ℕ) (p : ℕ) (b : List ℕ) → (a ++ p ∷ []) ++ b ≡ a ++ p ∷ b
regroup a p b = append_assoc a (p ∷ []) b

pub ArePlaced-next : (i end : ℕ) (places : List ℕ) (fs : List Field) → i < length fs → length fs ≤ 8 → ArePlaced i end places fs
    → ArePlaced (i + 1) (after end (width (get_or fs i One)) (width (get_or fs i One))) (set places i (rounded_up end (width (get_or fs i One)))) fs
ArePlaced-next i end places fs within few is =
    let f : Field = get_or fs i One in
    let p : ℕ = rounded_up end (width f) in
    let next : ℕ = after end (width f) (width f) in
    let past : i < i + 1 = omega arith in
    let room : i < length places = omega (arith, is.eight) in
    let left : 8 - i - 1 ≡ 8 - (i + 1) = omega arith in
    let more : field_places end (drop i fs) ≡ p ∷ field_places next (drop (i + 1) fs) = ap (field_places end) (drop_more fs i One within) in
    record {
      eight = length-set places i p ∙ is.eight;
      laid = ap (λ t. t ++ field_places next (drop (i + 1) fs)) (take_more_set places i p room)
          ∙ regroup (take i places) p (field_places next (drop (i + 1) fs))
          ∙ ap (λ t. take i places ++ t) (sym more) ∙ is.laid;
      rest = drop-set-lt (i + 1) places i p past ∙ sym (drop-drop 1 i places) ∙ ap (drop 1) is.rest
          ∙ drop-replicate 1 (8 - i) 0 ∙ ap (λ n. replicate n 0) left;
      near = omega (arith, is.near, after-le f end);
    }

-- fields that begin `moved` bytes after where these places are counted from
pub record IsPlaced (moved end : ℕ) (fs : List Field) (places : List ℕ) : Type 0 where
  pub from : ℕ
  pub words : moved % 8 ≡ 0
  pub moved_by : end ≡ moved + from
  pub places_are : places ≡ field_places from fs

rounded-moved : (f : Field) (moved from : ℕ) → moved % 8 ≡ 0 → rounded_up (moved + from) (width f) ≡ moved + rounded_up from (width f)
rounded-moved One moved from words = omega arith
rounded-moved Two moved from words = omega arith
rounded-moved Four moved from words = omega arith
rounded-moved Eight moved from words = omega arith

place-moved : (moved end : ℕ) (f : Field) (fs : List Field) (p : ℕ) (ps : List ℕ) (is : IsPlaced moved end (f ∷ fs) (p ∷ ps)) → rounded_up end (width f) ≡ moved + rounded_up is.from (width f)
place-moved moved end f fs p ps is = ap (λ e. rounded_up e (width f)) is.moved_by ∙ rounded-moved f moved is.from is.words

together : (p r moved at : ℕ) → p ≡ r → at ≡ moved + r → p + moved ≡ at
together p r moved at same is = omega arith

place-is : (moved end : ℕ) (f : Field) (fs : List Field) (p : ℕ) (ps : List ℕ) → IsPlaced moved end (f ∷ fs) (p ∷ ps) → p + moved ≡ rounded_up end (width f)
place-is moved end f fs p ps is = grind (arith, nat_tests, together, place-moved)

further : (at r moved w : ℕ) → at ≡ moved + r → at + w ≡ moved + (r + w)
further at r moved w is = omega arith

IsPlaced-more : (moved end : ℕ) (f : Field) (fs : List Field) (p : ℕ) (ps : List ℕ) → IsPlaced moved end (f ∷ fs) (p ∷ ps) → IsPlaced moved (after end (width f) (width f)) fs ps
IsPlaced-more moved end f fs p ps is = grind (arith, nat_tests, further, place-moved)

pub IsPlaced-start : (h : Header) (moved end : ℕ) (fs : List Field) (ps : List ℕ) → 4 + moved ≡ fields_start h → end ≡ fields_start h → ps ≡ field_places 4 fs → IsPlaced moved end fs ps
IsPlaced-start header.One moved end fs ps is at same = record { from = 4; words = omega arith; moved_by = omega arith; places_are = same }
IsPlaced-start header.Two moved end fs ps is at same = record { from = 4; words = omega arith; moved_by = omega arith; places_are = same }

-- the same of the field with this number
at_number : (moved end i : ℕ) (fs : List Field) (ps : List ℕ) → i < length fs → length ps ≡ length fs → IsPlaced moved end (drop i fs) (drop i ps)
    → IsPlaced moved end (get_or fs i One ∷ drop (i + 1) fs) (get_or ps i 0 ∷ drop (i + 1) ps)
at_number moved end i fs ps within same is = grind (arith, nat_tests, drop_more)

pub IsPlaced-place : (moved end i : ℕ) (fs : List Field) (ps : List ℕ) → i < length fs → length ps ≡ length fs → IsPlaced moved end (drop i fs) (drop i ps)
    → get_or ps i 0 + moved ≡ rounded_up end (width (get_or fs i One))
IsPlaced-place moved end i fs ps within same is =
    place-is moved end (get_or fs i One) (drop (i + 1) fs) (get_or ps i 0) (drop (i + 1) ps) (at_number moved end i fs ps within same is)

pub IsPlaced-next : (moved end i : ℕ) (fs : List Field) (ps : List ℕ) → i < length fs → length ps ≡ length fs → IsPlaced moved end (drop i fs) (drop i ps)
    → IsPlaced moved (after end (width (get_or fs i One)) (width (get_or fs i One))) (drop (i + 1) fs) (drop (i + 1) ps)
IsPlaced-next moved end i fs ps within same is =
    IsPlaced-more moved end (get_or fs i One) (drop (i + 1) fs) (get_or ps i 0) (drop (i + 1) ps) (at_number moved end i fs ps within same is)
