use Rattle.std.proofs.Common.{subst}
use Rattle.dspec_buffer.specs.Words.{HasAhead, StepsAhead}
use Rattle.dspec_buffer.proofs.{SchemaLaws.laws_from, Walks.walk_from}
use Rattle.dspec_buffer.proofs.byte_buffer.ByteBufferTraceBuffer.next.Goals as goal

pub returns : goal.returns
returns g c = λ rs h.
    let s = c.args.schema.now in
    let laws = laws_from (g.met.S.Schema.zero_has_none s) (g.met.S.Schema.shapes_fit s) (g.met.S.Schema.texts_fit s) (g.met.S.Schema.texts_differ s) in
    walk_from _ _ _ laws c.args.self.now c.args.place rs c.next_of_text.result
    (subst (λ z. (qs : _) → HasAhead (g.S.Schema.shape_of s) (g.S.Schema.accepted s) (g.S.Schema.text s) z c.args.place qs
    → StepsAhead (HasAhead (g.S.Schema.shape_of s) (g.S.Schema.accepted s) (g.S.Schema.text s) z) qs c.next_of_text.result) c.bytes.ensures c.next_of_text.ensures) h
