-- The value is added to the word in which its field stands: the shift loses no bit of it, and the sum holds.
use Rattle.std.proofs.{Common.◌≡◌, Common.◌<◌, Common.◌+◌, Common.◌*◌, Common.◌/◌, Common.◌%◌, Common.◌^◌, Common.All, Common.ℕ, Common.List, Common.get_or, Common.set, Common.sym, Common.◌∙◌}
use Rattle.std.proofs.{Common.ap, Common.subst, Common.arith, Math.Nat.mod-eq_of_lt, lemmas.List.Elements.All-from_get_or}
use Rattle.dspec_record.specs.{Words.width, Words.rounded_up, Words.number_of_words, declared.field.Field.Field}
use Rattle.dspec_record.proofs.AddingValues.{word-within, value-room, value-shifted, value-added, sum-below}
use Rattle.dspec_record.proofs.laid_out.pack_after.Goals as goal

pub bounds-words-place : goal.bounds-words-place
bounds-words-place c = omega (arith, word-within c.args.field c.args.end c.place-place.result c.requires.near c.place-place.ensures)

shifted : (f : Field) (v end place : ℕ) → v < 256 ^ width f → place ≡ rounded_up end (width f) → v * 2 ^ (place % 8 * 8) % 2 ^ 64 ≡ v * 2 ^ (place % 8 * 8)
shifted f v end place holds at = mod-eq_of_lt (value-shifted f v end place holds at)

pub overflow_add-words : goal.overflow_add-words
overflow_add-words c =
    let small : All (λ w. w < 2 ^ 64) c.args.words.now = All-from_get_or (λ w. w < 2 ^ 64) c.args.words.now 0 (λ i within. c.fits-words i) in
    let room = value-room c.args.field c.args.value c.args.end c.place-place.result c.args.words.now c.requires.holds c.requires.below c.place-place.ensures small in
    record { fits = omega (arith, room, shifted c.args.field c.args.value c.args.end c.place-place.result c.requires.holds c.place-place.ensures) }

pub returns-clause-added : goal.returns-clause-added
returns-clause-added c =
    let ws : List ℕ = c.args.words.now in
    let place : ℕ = c.place-place.result in
    ap (λ x. number_of_words (set ws (place / 8) (get_or ws (place / 8) 0 + x))) (shifted c.args.field c.args.value c.args.end place c.requires.holds c.place-place.ensures)
    ∙ value-added c.args.field c.args.value c.args.end place ws c.told-words c.requires.near c.place-place.ensures

pub returns-clause-below : goal.returns-clause-below
returns-clause-below c =
    let ws : List ℕ = c.args.words.now in
    let place : ℕ = c.place-place.result in
    let sum = ap (λ x. number_of_words (set ws (place / 8) (get_or ws (place / 8) 0 + x))) (shifted c.args.field c.args.value c.args.end place c.requires.holds c.place-place.ensures)
    ∙ value-added c.args.field c.args.value c.args.end place ws c.told-words c.requires.near c.place-place.ensures in
    let below = sum-below c.args.field c.args.value c.args.end (number_of_words ws) place c.requires.holds c.requires.below c.place-place.ensures in
    let Below : ℕ → Type 0 = λ n. n < 256 ^ (place + c.width.result) in
    let Wide : ℕ → Type 0 = λ w. number_of_words ws + c.args.value * 256 ^ place < 256 ^ (place + w) in
    let At : ℕ → Type 0 = λ p. number_of_words ws + c.args.value * 256 ^ p < 256 ^ (place + c.width.result) in
    subst Below (sym sum) (subst At c.place-place.ensures (subst Wide (sym c.width.ensures) below))
