-- A value is compared with the limit of its field.
use Rattle.std.proofs.{Common.◌≡◌, Common.◌≤◌, Common.◌<◌, Common.List, Common.ℕ, Common.length, Common.get_or, Common.sym, Common.◌∙◌, Common.ap, Common.arith, lemmas.List.length-map}
use Rattle.dspec_record.specs.{Words.limit, declared.field.Field.Field}
use Rattle.dspec_record.proofs.{Fitting.fits-apart, Limits.fits-above, Limits.fits-within}
use Rattle.dspec_record.proofs.codec.fits_fields.Goals as goal

pub returns-then-fields-values : goal.returns-then-fields-values
returns-then-fields-values c = sym (fits-apart c.args.fields.now c.args.values.now c.if-fields-values.true)

pub returns-then-values-i : goal.returns-then-values-i
returns-then-values-i c =
    let fs : List Field = c.args.fields.now in
    let i : ℕ = c.loop-i.i in
    let many : length c.args.limits.now ≡ length fs = ap length c.requires.limits ∙ length-map fs limit in
    let field : i < length fs = omega arith in
    let value : i < length c.args.values.now = omega arith in
    sym (fits-above i fs c.args.limits.now c.args.values.now field value c.requires.limits c.if-values-i.true) ∙ c.loop-i.invariant

pub loop-i-preserved : goal.loop-i-preserved
loop-i-preserved c =
    let fs : List Field = c.args.fields.now in
    let i : ℕ = c.loop-i.i in
    let many : length c.args.limits.now ≡ length fs = ap length c.requires.limits ∙ length-map fs limit in
    let field : i < length fs = omega arith in
    let value : i < length c.args.values.now = omega arith in
    let below : get_or c.args.values.now i 0 ≤ get_or c.args.limits.now i 0 = omega arith in
    sym (fits-within i fs c.args.limits.now c.args.values.now field value c.requires.limits below) ∙ c.loop-i.invariant
