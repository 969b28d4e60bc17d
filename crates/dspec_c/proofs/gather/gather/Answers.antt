use Rattle.std.proofs.Common.{ap, length, arith}
use Rattle.dspec_c.specs.Words.{refused_inside}
use Rattle.dspec_c.proofs.Each.{first_inside, one_inside, one_mapped, one_more, rest_inside}
use Rattle.dspec_c.proofs.gather.gather.Goals as goal

pub cpu_of-requires : goal.cpu_of-requires
cpu_of-requires c = first_inside _ _ _ c.take_first-place.ensures.cons c.loop-places.invariant.inside

pub push_reserved-requires : goal.push_reserved-requires
push_reserved-requires c = omega (arith, ap length c.take_first-place.ensures.cons, c.loop-places.invariant.counts)

pub push_reserved-requires-in-loop-places : goal.push_reserved-requires-in-loop-places
push_reserved-requires-in-loop-places c = omega (arith, ap length c.take_first-place.ensures.cons, c.loop-places.invariant.room)

pub loop-places-preserved : goal.loop-places-preserved
loop-places-preserved c = record {
  home = λ shared schema pairs all. one_more shared schema pairs _ _ _ _ c.cpu_of.result _ c.take_first-place.ensures.cons c.push_reserved-in-loop-places.ensures.items
      (c.cpu_of.ensures.of shared schema pairs) (c.loop-places.invariant.home shared schema pairs all);
  all = one_inside _ _ _ _ c.cpu_of.result _ _ c.take_first-place.ensures.cons c.push_reserved-in-loop-places.ensures.items c.cpu_of.ensures.is c.loop-places.invariant.all;
  inside = rest_inside _ _ _ c.take_first-place.ensures.cons c.loop-places.invariant.inside;
  room = omega (
    arith,
    ap length c.take_first-place.ensures.cons,
    c.loop-places.invariant.room,
    c.push_reserved-in-loop-places.ensures.len,
    c.push_reserved-in-loop-places.ensures.capacity,
  );
  counted = one_mapped refused_inside _ _ _ _ _ _ _ c.take_first-place.ensures.cons c.push_reserved.ensures.items c.refused.ensures c.loop-places.invariant.counted;
  counts = omega (arith, ap length c.take_first-place.ensures.cons, c.loop-places.invariant.counts, c.push_reserved.ensures.len, c.push_reserved.ensures.capacity);
}
