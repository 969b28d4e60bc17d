-- As many values as fields, of which there are eight at most.
use Rattle.std.proofs.Common.{sym, ◌∙◌, arith}
use Rattle.dspec_record.proofs.Fitting.{fits-length}
use Rattle.dspec_record.proofs.enabled.EnablingsSchema.borrowed.Goals as goal

pub few-requires : goal.few-requires
few-requires c =
    let same = fits-length c.fields.result.now c.args.values.now (sym c.fits_fields.ensures ∙ c.if-not-fits_fields.false) in
    record { few = omega (arith, same, c.fields.ensures.few) }
