use Rattle.std.proofs.Common.{◌∷◌, ◌++◌, [], ap, ◌∙◌, subst}
use Rattle.std.specs.Arc.{arc_value}
use Rattle.rtrb.specs.Ring.{sent}
use Rattle.dspec_c.specs.Words.{HasGone, Theirs, theirs_of}
use Rattle.dspec_c.proofs.out_consumer.OutConsumer.go_home.Goals as goal

pub returns : goal.returns
returns c = subst (λ (t : Theirs). HasGone t (sent c.push_reserved.new.self)) c.self.view_is (record {
  first = c.self.invariant.1.first;
  went = c.push_reserved.ensures.sent.0 ∙ ap (λ xs. xs ++ theirs_of (arc_value c.self.inside.shared) c.self.inside.consumer ∷ []) c.self.invariant.1.was;
})
