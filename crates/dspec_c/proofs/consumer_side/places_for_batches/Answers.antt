use Rattle.std.proofs.{Common.◌∷◌, Common.◌++◌, Common.[], Common.None, Common.ap, Common.◌∙◌, lemmas.List.replicate-append-replicate}
use Rattle.dspec_c.proofs.consumer_side.places_for_batches.Goals as goal

pub loop-place-preserved : goal.loop-place-preserved
loop-place-preserved c = c.in_ok-push.ensures.items ∙ ap (λ xs. xs ++ None ∷ []) c.loop-place.invariant ∙ replicate-append-replicate c.loop-place.place 1 None
