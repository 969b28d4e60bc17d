use Rattle.std.proofs.Common.{[], ap, arith}
use Rattle.dspec_buffer.specs.Words.{Progress}
use Rattle.dspec_buffer.proofs.{SchemaLaws.laws_from, Taken.none_given, Taken.given_are}
use Rattle.dspec_buffer.proofs.reading.Reading.new.Goals as goal

pub invariant_of-result : goal.invariant_of-result
invariant_of-result g c =
    let s = c.args.schema.now in
    let laws = laws_from (g.met.S.Schema.zero_has_none s) (g.met.S.Schema.shapes_fit s) (g.met.S.Schema.texts_fit s) (g.met.S.Schema.texts_differ s) in (
      omega arith,
      (([], none_given _ _ _ laws c.args.text.now), tt),
    )

pub returns : goal.returns
returns g c =
    let s = c.args.schema.now in
    let laws = laws_from (g.met.S.Schema.zero_has_none s) (g.met.S.Schema.shapes_fit s) (g.met.S.Schema.texts_fit s) (g.met.S.Schema.texts_differ s) in
    let given = given_are _ _ _ laws [] [] c.result-1.given.1.0 (none_given _ _ _ laws c.args.text.now) in
    let Now : _ → Progress _ = λ rs. record { schema = s; text = c.args.text.now; place = 0; read = rs } in
    ap Now given
