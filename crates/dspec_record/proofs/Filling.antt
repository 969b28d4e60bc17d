-- An `Enabling` that is made of a list of fields, and `Enablings` with one row more.
use Rattle.std.proofs.Common.{◌≡◌, ◌≤◌, ◌<◌, ◌-◌, ◌+◌, ◌++◌, ℕ, List, [], ◌∷◌, length, take, drop, set, replicate, refl, sym, ◌∙◌, ap, subst, arith}
use Rattle.std.proofs.lemmas.List.{length-append, length-drop, length-set, length-take-le, take_more_set, take_at, drop_at, drop-replicate, length-replicate, drop-drop, drop-set-lt}
use Rattle.dspec_record.specs.Words.{layout, IsLaidOut, padded_places, padded_limits, words_in, claim_of, padded_claims, masks_for, IsFilled}
use Rattle.dspec_record.specs.declared.{field.Field.Field, field.Field.TheVariants.One, header.Header.Header}
use Rattle.dspec_record.proofs.Claiming.{claims-push}
use Rattle.dspec_record.specs.declared.header.Header.TheVariants as header

-- fields copied over the first of eight places
pub IsLaidOut-copied : (fs : List Field) → length fs ≤ 8 → IsLaidOut (record {
  fields = fs ++ drop (length fs) (replicate 8 One);
  len = length fs;
  shape = layout header.One fs;
  places = padded_places fs;
  limits = padded_limits fs;
  words = words_in fs;
  masks = masks_for fs;
})
IsLaidOut-copied fs few =
    let held : List Field = fs ++ drop (length fs) (replicate 8 One) in
    let back : take (length fs) held ≡ fs = take_at fs (drop (length fs) (replicate 8 One)) (length fs) refl in
    record {
      eight = omega (arith, length-append fs (drop (length fs) (replicate 8 One)), length-drop (length fs) (replicate 8 One), length-replicate 8 One);
      few = few;
      rest = drop_at fs (drop (length fs) (replicate 8 One)) (length fs) refl ∙ drop-replicate (length fs) 8 One;
      shape = ap (layout header.One) (sym back);
      places = ap padded_places (sym back);
      limits = ap padded_limits (sym back);
      words = ap words_in (sym back);
      masks = ap masks_for (sym back);
    }

pub IsFilled-push : (h : Header) (stamp : ℕ) (rows : List (List Field)) (claims : List ℕ) (count : ℕ) (fs : List Field)
    → IsFilled (record { header = h; stamp = stamp; rows = rows; claims = claims; count = count }) → count < 64
    → IsFilled (record { header = h; stamp = stamp; rows = set rows count fs; claims = set claims count (claim_of (count + 1) fs); count = count + 1 })
IsFilled-push h stamp rows claims count fs is room =
    let none : List Field = [] in
    let past : count < count + 1 = omega arith in
    let left : 64 - count - 1 ≡ 64 - (count + 1) = omega arith in
    let within : count < length rows = omega (arith, is.places) in
    let before : List (List Field) = take count rows in
    let many : length before ≡ count = length-take-le count rows (omega (arith, is.places)) in
    let Pushed : ℕ → Type 0 = λ n. set (padded_claims before) n (claim_of (n + 1) fs) ≡ padded_claims (before ++ fs ∷ []) in
    let pushed : set (padded_claims before) count (claim_of (count + 1) fs) ≡ padded_claims (before ++ fs ∷ []) =
    subst Pushed many (claims-push before fs (omega (arith, many))) in
    record {
      stamp = is.stamp;
      places = length-set rows count fs ∙ is.places;
      few = omega arith;
      rest = drop-set-lt (count + 1) rows count fs past ∙ sym (drop-drop 1 count rows) ∙ ap (drop 1) is.rest
          ∙ drop-replicate 1 (64 - count) none ∙ ap (λ n. replicate n none) left;
      claims = ap (λ cs. set cs count (claim_of (count + 1) fs)) is.claims ∙ pushed ∙ ap padded_claims (sym (take_more_set rows count fs within));
    }
