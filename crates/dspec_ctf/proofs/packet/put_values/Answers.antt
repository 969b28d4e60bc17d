use Rattle.std.proofs.Common.{◌++◌, ◌∙◌, ap, sym}
use Rattle.std.proofs.lemmas.{Iterator.YieldsList-from_slice, Iterator.YieldsList-from_zip, Iterator.Consumers.YieldsList-at, Iterator.Consumers.YieldsList-end, List.Folds.flat_map-map}
use Rattle.std.specs.List.{flat_map}
use Rattle.dspec_ctf.specs.Words.{width, little_endian}
use Rattle.dspec_ctf.proofs.packet.put_values.Goals as goal

pub returns-clause-bytes : goal.returns-clause-bytes
returns-clause-bytes c =
    let road = YieldsList-at c.into_iter-field-iterator.ensures.into_iter_gives
    (YieldsList-from_zip
    (YieldsList-at c.zip-field-items.ensures.first (YieldsList-from_slice c.args.fields.now c.iter.ensures.rest))
    (YieldsList-from_slice c.args.values.now c.zip-field-items.ensures.second.0)) in
    let whole = YieldsList-end road c.loop-field.yielded c.loop-field.field-iterator c.loop-field.yielded_by c.next.result c.next.new.self c.in-None.is c.next.ensures.steps in
    let bytes = sym (flat_map-map (λ p. little_endian (width p.0) p.1) _ c.loop-field.yielded) ∙ ap (flat_map (λ p. little_endian (width p.0) p.1)) whole.0 in
    c.loop-field.invariant.bytes ∙ ap (λ more. c.args.out.now.items ++ more) bytes
