-- The place of each field is written after those before it.
use Rattle.std.proofs.Common.{◌<◌, ◌+◌, ℕ, List, length, get_or, set, arith, sym, subst, replicate}
use Rattle.dspec_record.specs.{Words.width, Words.rounded_up, declared.field.Field.Field, declared.field.Field.TheVariants.One}
use Rattle.dspec_record.proofs.Places.{ArePlaced, ArePlaced-start, ArePlaced-next}
use Rattle.dspec_record.proofs.layout.places_of.Goals as goal

pub loop-i-init : goal.loop-i-init
loop-i-init c =
    let Start : ℕ → Type 0 = λ e. ArePlaced 0 e (replicate 8 0) c.args.fields.now in
    subst Start (sym c.fields_start-end.ensures) (ArePlaced-start c.args.fields.now)

pub loop-i-preserved : goal.loop-i-preserved
loop-i-preserved c =
    let fs : List Field = c.args.fields.now in
    let i : ℕ = c.loop-i.i in
    let f : Field = get_or fs i One in
    let end : ℕ = c.loop-i.end in
    let within : i < length fs = omega arith in
    let next = ArePlaced-next i end c.loop-i.places fs within c.requires c.loop-i.invariant in
    let Placed : ℕ → Type 0 = λ p. ArePlaced (i + 1) (p + c.width.result) (set c.loop-i.places i p) fs in
    let Wide : ℕ → Type 0 = λ w. ArePlaced (i + 1) (rounded_up end (width f) + w) (set c.loop-i.places i (rounded_up end (width f))) fs in
    subst Placed (sym c.place-place.ensures) (subst Wide (sym c.width.ensures) next)
