-- The limit of each field is written after those before it.
use Rattle.std.proofs.Common.{◌<◌, ◌+◌, ℕ, List, length, set, arith, sym, subst}
use Rattle.dspec_record.specs.declared.field.Field.{Field}
use Rattle.dspec_record.proofs.Limits.{AreKnown, AreKnown-start, AreKnown-next}
use Rattle.dspec_record.proofs.layout.limits_of.Goals as goal

pub loop-i-init : goal.loop-i-init
loop-i-init c = AreKnown-start c.args.fields.now

pub loop-i-preserved : goal.loop-i-preserved
loop-i-preserved c =
    let fs : List Field = c.args.fields.now in
    let i : ℕ = c.loop-i.i in
    let within : i < length fs = omega arith in
    let Known : ℕ → Type 0 = λ n. AreKnown (i + 1) (set c.loop-i.limits i n) fs in
    subst Known (sym c.limit.ensures) (AreKnown-next i c.loop-i.limits fs within c.requires c.loop-i.invariant)
