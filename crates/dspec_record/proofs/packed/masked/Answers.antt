-- A word is masked after those before it.
use Rattle.std.proofs.{Common.length, Common.get_or, Common.refl, Common.◌∙◌, Common.arith, lemmas.List.length-set}
use Rattle.std.specs.Int.RustNames.{bit_and}
use Rattle.dspec_record.proofs.PackedRecords.{kept-masked, masked-more}
use Rattle.dspec_record.proofs.packed.masked.Goals as goal

pub loop-i-preserved : goal.loop-i-preserved
loop-i-preserved c = (
  length-set c.loop-i.kept c.loop-i.i (bit_and (get_or c.args.words.now c.loop-i.i 0) (get_or c.args.masks.now c.loop-i.i 0)) ∙ c.loop-i.invariant.0,
  masked-more c.args.words.now c.args.masks.now c.loop-i.kept c.loop-i.i (omega (arith, c.loop-i.invariant.0)) c.loop-i.invariant.1,
)

pub returns-clause-masked : goal.returns-clause-masked
returns-clause-masked c =
    kept-masked c.args.words.now c.args.masks.now c.loop-i.kept (length c.args.words.now) refl (omega (arith, c.told-masks)) (omega (arith, c.loop-i.invariant.0))
    (λ k within. c.loop-i.invariant.1 k (omega arith))
