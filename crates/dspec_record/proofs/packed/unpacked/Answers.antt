-- Each value is cut out where the layout has its field.
use Rattle.std.proofs.Common.{◌≡◌, ◌≤◌, ◌<◌, ◌+◌, ◌*◌, ◌/◌, ◌%◌, ◌^◌, ◌++◌, ◌∷◌, [], All, ℕ, List, length, get_or, sym, ◌∙◌, ap, subst, arith}
use Rattle.std.proofs.lemmas.List.Elements.{All-from_get_or}
use Rattle.std.specs.Int.RustNames.{bit_and}
use Rattle.dspec_record.specs.Words.{width, limit, rounded_up, number_of_words, words_in}
use Rattle.dspec_record.specs.declared.field.Field.{Field, TheVariants.One, TheVariants.Two, TheVariants.Four, TheVariants.Eight}
use Rattle.dspec_record.proofs.{CutWords.AreCut, CutWords.AreCut-place, CutWords.AreCut-near, CutWords.AreCut-value, CutWords.AreCut-next, Places.place-le}
use Rattle.dspec_record.proofs.packed.unpacked.Goals as goal

pub place-place-requires : goal.place-place-requires
place-place-requires c =
    omega (arith, AreCut-near c.loop-i.i c.loop-i.end c.loop-i.rec.values c.args.fields.now (number_of_words c.args.words.now) c.requires.few c.loop-i.invariant.cut)

pub bounds-words-place : goal.bounds-words-place
bounds-words-place c =
    let inside = AreCut-place c.loop-i.i c.loop-i.end c.loop-i.rec.values c.args.fields.now (number_of_words c.args.words.now) c.loop-i-test.true c.loop-i.invariant.cut in
    omega (arith, c.requires.many, c.place-place.ensures, inside)

pub overflow_add-end : goal.overflow_add-end
overflow_add-end c =
    let f : Field = get_or c.args.fields.now c.loop-i.i One in
    record {
      fits = omega (
        arith,
        c.place-place.ensures,
        c.width.ensures,
        width-le f,
        place-le f c.loop-i.end,
        AreCut-near c.loop-i.i c.loop-i.end c.loop-i.rec.values c.args.fields.now (number_of_words c.args.words.now) c.requires.few c.loop-i.invariant.cut,
      );
    }
  where
    width-le : (f : Field) → width f ≤ 8
    width-le One = omega arith
    width-le Two = omega arith
    width-le Four = omega arith
    width-le Eight = omega arith

-- the value that is cut, by the place and the limit that the calls answered
value : (i end place most : ℕ) (vs ws : List ℕ) (fs : List Field) → i < length fs → All (λ w. w < 2 ^ 64) ws → length ws ≡ words_in fs → AreCut i end vs fs (number_of_words ws)
    → place ≡ rounded_up end (width (get_or fs i One)) → most ≡ limit (get_or fs i One)
    → bit_and (get_or ws (place / 8) 0 / 2 ^ (place % 8 * 8)) most ≡ number_of_words ws / 256 ^ rounded_up end (width (get_or fs i One)) % 256 ^ width (get_or fs i One)
value i end place most vs ws fs within small count is at limited =
    ap (λ p. bit_and (get_or ws (p / 8) 0 / 2 ^ (p % 8 * 8)) most) at
    ∙ ap (λ m. bit_and (get_or ws (rounded_up end (width (get_or fs i One)) / 8) 0 / 2 ^ (rounded_up end (width (get_or fs i One)) % 8 * 8)) m) limited
    ∙ AreCut-value i end vs ws fs within small count is

pub loop-i-preserved : goal.loop-i-preserved
loop-i-preserved c =
    let fs : List Field = c.args.fields.now in
    let ws : List ℕ = c.args.words.now in
    let i : ℕ = c.loop-i.i in
    let end : ℕ = c.loop-i.end in
    let vs : List ℕ = c.loop-i.rec.values in
    let small : All (λ w. w < 2 ^ 64) ws = All-from_get_or (λ w. w < 2 ^ 64) ws 0 (λ k within. (c.type_inv.words k).fits) in
    let added = value i end c.place-place.result c.limit.result vs ws fs c.loop-i-test.true small c.requires.many c.loop-i.invariant.cut c.place-place.ensures c.limit.ensures in
    let next = AreCut-next i end vs fs (number_of_words ws) _ c.loop-i-test.true c.loop-i.invariant.cut added in
    let ends : c.place-place.result + c.width.result ≡ rounded_up end (width (get_or fs i One)) + width (get_or fs i One) =
    ap (λ p. p + c.width.result) c.place-place.ensures ∙ ap (λ w. rounded_up end (width (get_or fs i One)) + w) c.width.ensures in
    let End : ℕ → Type 0 = λ e. AreCut (i + 1) e (vs ++ bit_and (get_or ws (c.place-place.result / 8) 0 / 2 ^ (c.place-place.result % 8 * 8)) c.limit.result ∷ []) fs (number_of_words ws) in
    let Values : List ℕ → Type 0 = λ us. AreCut (i + 1) (c.place-place.result + c.width.result) us fs (number_of_words ws) in
    record {
      epid_is = ap (λ r. r.epid) c.add.ensures ∙ c.loop-i.invariant.epid_is;
      stamp_is = ap (λ r. r.stamp) c.add.ensures ∙ c.loop-i.invariant.stamp_is;
      cut = subst Values (sym (ap (λ r. r.values) c.add.ensures)) (subst End (sym ends) next);
    }
