use Rattle.std.proofs.Common.{subst, sym, reverse, IfErr}
use Rattle.dspec_buffer.specs.Words.{records, BufferText, StopsAt}
use Rattle.dspec_buffer.proofs.{SchemaLaws.laws_from, Walks.reads_back, Walks.read_all_reads}
use Rattle.dspec_buffer.proofs.laws.read_back.Goals as goal

pub returns-clause-pushed : goal.returns-clause-pushed
returns-clause-pushed g c =
    let s = c.args.schema.now in
    let laws = laws_from (g.met.S.Schema.zero_has_none s) (g.met.S.Schema.shapes_fit s) (g.met.S.Schema.texts_fit s) (g.met.S.Schema.texts_differ s) in
    λ ps h. read_all_reads _ _ _ laws c.bytes.result.now (reverse (records ps)) c.read_all.result
    (subst (λ z. BufferText (g.S.Schema.shape_of s) (g.S.Schema.accepted s) (g.S.Schema.text s) 0 z (reverse (records ps))) (sym c.bytes.ensures) (reads_back _ _ _ laws c.args.buffer.now ps h))
    c.read_all.ensures.records c.read_all.ensures.unreadable

pub returns-clause-fault : goal.returns-clause-fault
returns-clause-fault g c =
    let s = c.args.schema.now in
    subst (λ z. IfErr c.read_all.result (λ fault. StopsAt (g.S.Schema.shape_of s) (g.S.Schema.accepted s) (g.S.Schema.text s) z fault)) c.bytes.ensures c.read_all.ensures.fault
