use Rattle.std.proofs.{Common.ap, Common.◌∙◌, lemmas.List.map_push}
use Rattle.dspec_threads.specs.Words.{all_whereabouts, whereabouts}
use Rattle.dspec_threads.proofs.Whereabouts.{one_more_at_home}
use Rattle.dspec_threads.proofs.places.places_of.Goals as goal

pub loop-places-preserved : goal.loop-places-preserved
loop-places-preserved g c = record {
  made = one_more_at_home _ _ _ _ c.first.result _ _ c.first.ensures c.of.ensures (ap all_whereabouts c.in_ok-push.ensures.items ∙ map_push whereabouts c.loop-places.places.items c.of.result)
      c.loop-places.invariant.made;
}
