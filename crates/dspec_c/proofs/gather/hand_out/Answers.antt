use Rattle.std.proofs.{Common.refl, Common.arith, lemmas.Option.slice_get_read}
use Rattle.std.specs.{Arc.arc_value, Prelude.length}
use Rattle.dspec_c.proofs.Looking.{inside_within, is_here, one_leaves, one_stays}
use Rattle.dspec_c.proofs.gather.hand_out.Goals as goal

pub index_mut-requires : goal.index_mut-requires
index_mut-requires c = omega (arith, inside_within c.args.places.now.items c.args.cpu c.requires.inside)

pub hand_out-requires-clause-place : goal.hand_out-requires-clause-place
hand_out-requires-clause-place c = c.requires.place c.index_mut.result.now
    (slice_get_read c.args.places.now.items (length c.args.places.now.items) c.args.cpu c.index_mut.result.now refl (inside_within c.args.places.now.items c.args.cpu c.requires.inside)
    c.index_mut.ensures.value)

pub hand_out-requires-clause-inside : goal.hand_out-requires-clause-inside
hand_out-requires-clause-inside c = is_here c.args.places.now.items c.args.cpu c.requires.inside c.index_mut.result.now
    (slice_get_read c.args.places.now.items (length c.args.places.now.items) c.args.cpu c.index_mut.result.now refl (inside_within c.args.places.now.items c.args.cpu c.requires.inside)
    c.index_mut.ensures.value)

pub returns-clause-leaves : goal.returns-clause-leaves
returns-clause-leaves c = one_leaves (arc_value c.args.shared) c.args.cpu c.args.places.now.items c.index_mut.result.now c.hand_out.new.self c.hand_out.result
    (inside_within c.args.places.now.items c.args.cpu c.requires.inside) c.index_mut.ensures.value c.hand_out.ensures.leaves

pub returns-clause-stays : goal.returns-clause-stays
returns-clause-stays c = one_stays c.args.cpu c.args.places.now.items c.index_mut.result.now c.hand_out.new.self c.hand_out.result c.index_mut.ensures.value c.hand_out.ensures.stays
