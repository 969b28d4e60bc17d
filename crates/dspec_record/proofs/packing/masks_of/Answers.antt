-- The mask of each field is added to its word.
use Rattle.std.proofs.Common.{◌≡◌, ◌+◌, ◌*◌, ◌/◌, ◌%◌, ◌^◌, ℕ, List, get_or, set, sym, ◌∙◌, ap, subst, arith}
use Rattle.std.proofs.Math.Nat.{mod-eq_of_lt}
use Rattle.dspec_record.specs.{Words.width, Words.limit, Words.rounded_up, declared.field.Field.Field, declared.field.Field.TheVariants.One}
use Rattle.dspec_record.proofs.{MakingMasks.AreMasked, MakingMasks.AreMasked-shifted, MakingMasks.AreMasked-room, MakingMasks.AreMasked-next, MakingMasks.AreMasked-end, Masking.masks_for-is}
use Rattle.dspec_record.proofs.packing.masks_of.Goals as goal

-- what is added: the shift loses no bit
shifted : (f : Field) (end place held : ℕ) → held ≡ limit f → place ≡ rounded_up end (width f) → held * 2 ^ (place % 8 * 8) % 2 ^ 64 ≡ limit f * 2 ^ (place % 8 * 8)
shifted f end place held is at =
    ap (λ n. n * 2 ^ (place % 8 * 8) % 2 ^ 64) is ∙ mod-eq_of_lt (AreMasked-shifted f end place at)

pub overflow_add-masks : goal.overflow_add-masks
overflow_add-masks c =
    let f : Field = get_or c.args.fields.now c.loop-field.field-index One in
    let room = AreMasked-room c.loop-field.field-index c.loop-field.end c.place-place.result c.loop-field.masks c.args.fields.now c.loop-field.invariant c.place-place.ensures in
    record { fits = omega (arith, room, shifted f c.loop-field.end c.place-place.result c.limit.result c.limit.ensures c.place-place.ensures) }

pub loop-field-preserved : goal.loop-field-preserved
loop-field-preserved c =
    let fs : List Field = c.args.fields.now in
    let i : ℕ = c.loop-field.field-index in
    let f : Field = get_or fs i One in
    let place : ℕ = c.place-place.result in
    let masks : List ℕ = c.loop-field.masks in
    let next = AreMasked-next i c.loop-field.end place masks fs c.loop-field-test.true c.requires c.loop-field.invariant c.place-place.ensures in
    let Wide : ℕ → Type 0 = λ w. AreMasked (i + 1) (place + w) (set masks (place / 8) (get_or masks (place / 8) 0 + limit f * 2 ^ (place % 8 * 8))) fs in
    let Added : ℕ → Type 0 = λ n. AreMasked (i + 1) (place + c.width.result) (set masks (place / 8) (get_or masks (place / 8) 0 + n)) fs in
    subst Added (sym (shifted f c.loop-field.end place c.limit.result c.limit.ensures c.place-place.ensures)) (subst Wide (sym c.width.ensures) next)

pub returns : goal.returns
returns c =
    AreMasked-end c.loop-field.field-index c.loop-field.end c.loop-field.masks c.args.fields.now (omega arith) c.loop-field.invariant ∙ sym (masks_for-is c.args.fields.now)
