use Rattle.std.proofs.Common.{length, ap, ◌∙◌}
use Rattle.dspec_buffer.proofs.{Keeping.extent_of_pieces, SchemaLaws.laws_from}
use Rattle.dspec_buffer.proofs.byte_buffer.ByteBufferTraceBuffer.offset.Goals as goal

pub returns-clause-extent : goal.returns-clause-extent
returns-clause-extent g c = λ s ps h.
    let laws = laws_from (g.met.S.Schema.zero_has_none s) (g.met.S.Schema.shapes_fit s) (g.met.S.Schema.texts_fit s) (g.met.S.Schema.texts_differ s) in
    c.offset.ensures.text ∙ ap length h.text_is ∙ (extent_of_pieces _ _ _ laws c.args.self.now ps h).long
