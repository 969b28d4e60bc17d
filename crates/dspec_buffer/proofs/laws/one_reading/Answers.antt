use Rattle.dspec_buffer.proofs.SchemaLaws.{laws_from}
use Rattle.dspec_buffer.proofs.OneReading as lemma
use Rattle.dspec_buffer.proofs.laws.one_reading.Goals as goal

pub returns : goal.returns
returns g c =
    let s = c.args._schema.now in
    let laws = laws_from (g.met.S.Schema.zero_has_none s) (g.met.S.Schema.shapes_fit s) (g.met.S.Schema.texts_fit s) (g.met.S.Schema.texts_differ s) in
    λ o b rs qs h k. lemma.one_reading _ _ _ laws o b rs qs h k
