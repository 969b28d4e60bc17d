-- Each field is compared with the one at its place.
use Rattle.std.proofs.{Common.rules, lemmas.Slice.Eq.slice_eq-Decides}
use denote.Enum.Bare.{same_true, true_same}
use Rattle.dspec_record.specs.contracts.field.Field.{the_type}
use Rattle.dspec_probe.proofs.probe.same_fields.Goals as goal

pub returns : goal.returns
returns c = slice_eq-Decides (λ a b. (same_true the_type (search rules) a b, true_same the_type a b)) c.args.fields.now c.args.others.now c.eq.result c.eq.ensures
