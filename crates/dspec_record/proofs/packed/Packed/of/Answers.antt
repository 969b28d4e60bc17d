-- The masked words are clean, and stand for the record of all words.
use Rattle.std.proofs.Common.{◌≡◌, ◌≤◌, ◌<◌, ◌^◌, All, ℕ, List, length, take, subst, sym, ◌∙◌, ap, arith}
use Rattle.std.proofs.lemmas.List.Elements.{All-from_get_or}
use Rattle.dspec_record.specs.{Words.layout, Words.words_in, Words.masked_words, Words.masks_for, Words.packed_record, Words.IsClean, declared.field.Field.Field}
use Rattle.dspec_record.specs.declared.header.Header.TheVariants as header
use Rattle.dspec_record.proofs.Masking.{words_in-most, masked-record, masked-clean}
use Rattle.dspec_record.proofs.packed.Packed.of.Goals as goal

-- the row's fields, out of the eight places
held : (n : ℕ) (fields row : List Field) → n ≡ length row → take (length row) fields ≡ row → take n fields ≡ row
held n fields row many is = ap (λ k. take k fields) many ∙ is

masked-is : (words masks kept : List ℕ) (row : List Field) → masks ≡ masks_for row → take (length words) kept ≡ masked_words words masks → take (length words) kept ≡ masked_words words (masks_for row)
masked-is words masks kept row is masked = masked ∙ ap (masked_words words) is

pub masked-requires : goal.masked-requires
masked-requires g c = omega (arith, c.requires.many, words_in-most c.args.row.now (omega (arith, c.len.ensures.many, c.len.ensures.few)))

pub invariant_of-result : goal.invariant_of-result
invariant_of-result g c =
    let row : List Field = c.args.row.now in
    let words : List ℕ = c.args.words.now in
    let few : length row ≤ 8 = omega (arith, c.len.ensures.many, c.len.ensures.few) in
    let fields : take c.len.result c.held.result ≡ row = held c.len.result c.held.result row c.len.ensures.many c.held.ensures.fields in
    let kept : take (length words) c.masked.result ≡ masked_words words (masks_for row) =
    masked-is words c.masks.result.now c.masked.result row c.masks.ensures c.masked.ensures.masked in
    let small : All (λ w. w < 2 ^ 64) words = All-from_get_or (λ w. w < 2 ^ 64) words 0 (λ i within. (c.type_inv.words i).fits) in
    let Words : List ℕ → Type 0 = λ ws. IsClean row ws in
    let Fields : List Field → Type 0 = λ fs. IsClean fs (take (length words) c.masked.result) in
    record {
      few = c.len.ensures.few;
      laid = c.shape_of_words.ensures ∙ ap (layout header.One) (sym fields);
      some = c.requires.some;
      many = c.requires.many ∙ ap words_in (sym fields);
      eight = c.held.ensures.eight;
      nine = c.masked.ensures.nine;
      clean = subst Fields (sym fields) (subst Words (sym kept) (masked-clean row words few small c.requires.many c.requires.some));
    }

pub returns-clause-fields : goal.returns-clause-fields
returns-clause-fields g c = held c.len.result c.held.result c.args.row.now c.len.ensures.many c.held.ensures.fields

pub returns-clause-holds : goal.returns-clause-holds
returns-clause-holds g c =
    let row : List Field = c.args.row.now in
    let words : List ℕ = c.args.words.now in
    let few : length row ≤ 8 = omega (arith, c.len.ensures.many, c.len.ensures.few) in
    let fields : take c.len.result c.held.result ≡ row = held c.len.result c.held.result row c.len.ensures.many c.held.ensures.fields in
    let kept : take (length words) c.masked.result ≡ masked_words words (masks_for row) =
    masked-is words c.masks.result.now c.masked.result row c.masks.ensures c.masked.ensures.masked in
    let small : All (λ w. w < 2 ^ 64) words = All-from_get_or (λ w. w < 2 ^ 64) words 0 (λ i within. (c.type_inv.words i).fits) in
    ap (λ fs. packed_record c.args.epid c.args.stamp fs (take (length words) c.masked.result)) fields
    ∙ ap (packed_record c.args.epid c.args.stamp row) kept
    ∙ masked-record c.args.epid c.args.stamp row words few small c.requires.many
