use Rattle.dspec_buffer.proofs.{SchemaLaws.laws_from, Walks.reads_back}
use Rattle.dspec_buffer.proofs.laws.has_what_bytes_say.Goals as goal

pub returns-clause-text : goal.returns-clause-text
returns-clause-text g c =
    let s = c.args._schema.now in
    let laws = laws_from (g.met.S.Schema.zero_has_none s) (g.met.S.Schema.shapes_fit s) (g.met.S.Schema.texts_fit s) (g.met.S.Schema.texts_differ s) in
    λ ps h. reads_back _ _ _ laws c.args._buffer.now ps h
