use Rattle.std.proofs.Common.{arith}
use Rattle.dspec_buffer.proofs.{Ended.remaining_before, Ended.ended_whole, Ended.ended_at_fault, SchemaLaws.laws_from}
use Rattle.dspec_buffer.proofs.prefix.read_prefix.Goals as goal

pub invariant_of-records-inside : goal.invariant_of-records-inside
invariant_of-records-inside g c =
    let s = c.args.schema.now in
    let laws = laws_from (g.met.S.Schema.zero_has_none s) (g.met.S.Schema.shapes_fit s) (g.met.S.Schema.texts_fit s) (g.met.S.Schema.texts_differ s) in (
      omega arith,
      (
        remaining_before _ _ _ laws c.args.text.now c.read_up_to-end.result.0 c.read_up_to-end.result.1 c.read_up_to-end.ensures.ends,
        tt,
      ),
    )

pub returns-clause-whole : goal.returns-clause-whole
returns-clause-whole g c =
    let s = c.args.schema.now in
    let laws = laws_from (g.met.S.Schema.zero_has_none s) (g.met.S.Schema.shapes_fit s) (g.met.S.Schema.texts_fit s) (g.met.S.Schema.texts_differ s) in
    ended_whole _ _ _ laws c.args.text.now c.read_up_to-end.result.0 c.read_up_to-end.result.1 c.records-1.given.1.0 c.read_up_to-end.ensures.ends

pub returns-clause-fault : goal.returns-clause-fault
returns-clause-fault g c =
    let s = c.args.schema.now in
    let laws = laws_from (g.met.S.Schema.zero_has_none s) (g.met.S.Schema.shapes_fit s) (g.met.S.Schema.texts_fit s) (g.met.S.Schema.texts_differ s) in
    ended_at_fault _ _ _ laws c.args.text.now c.read_up_to-end.result.0 c.read_up_to-end.result.1 c.records-1.given.1.0 c.read_up_to-end.ensures.ends
