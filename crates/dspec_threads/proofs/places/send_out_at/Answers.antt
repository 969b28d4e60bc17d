use Rattle.std.proofs.{Common.arith, lemmas.Bool.Decides.nat_tests}
use Rattle.std.specs.Arc.{arc_value}
use Rattle.dspec_threads.specs.Words.{all_whereabouts, whereabouts}
use Rattle.dspec_threads.proofs.Whereabouts.{at_one, callable_after, there_read}
use Rattle.dspec_threads.proofs.places.send_out_at.Goals as goal

pub send_out-requires : goal.send_out-requires
send_out-requires g c =
    callable_after g.D.Duty.done (arc_value c.args.common.now.shared) (all_whereabouts c.args.places.now.items) c.args.index (whereabouts c.index_mut-place.result.now) _ c.requires.callable
    (there_read c.args.places.now.items c.args.index c.index_mut-place.result.now c.requires.some c.index_mut-place.ensures.value) c.look.ensures.looked

pub returns : goal.returns
returns g c = grind (arith, nat_tests, at_one, c.requires.some, c.index_mut-place.ensures.value, c.look.ensures.looked, c.send_out.ensures)
