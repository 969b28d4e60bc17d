use Rattle.std.proofs.Common.{ap, length, arith}
use Rattle.dspec_threads.specs.Words.{all_whereabouts}
use Rattle.dspec_threads.proofs.Whereabouts.{first_in, one_more_out, rest_in}
use Rattle.dspec_threads.proofs.places.cpus_of.Goals as goal

pub into_cpu-requires : goal.into_cpu-requires
into_cpu-requires g c = first_in _ _ _ (ap all_whereabouts c.first-place.ensures) c.loop-places.invariant.inside

pub loop-places-preserved : goal.loop-places-preserved
loop-places-preserved g c = record {
  all = one_more_out _ _ c.into_cpu.result _ _ _ _ (ap all_whereabouts c.first-place.ensures) c.into_cpu.ensures c.push_reserved.ensures.items c.loop-places.invariant.all;
  inside = rest_in _ _ _ (ap all_whereabouts c.first-place.ensures) c.loop-places.invariant.inside;
  room = omega (arith, ap length c.first-place.ensures, c.loop-places.invariant.room, c.push_reserved.ensures.len, c.push_reserved.ensures.capacity);
}
