use Rattle.std.proofs.Common.{ap, ◌∙◌, subst}
use Rattle.dspec_c.specs.Words.{words_of, IsConsumerOf, IsSameConsumer, TheirStay, Theirs}
use Rattle.dspec_c.proofs.{ConsumerHomes.same_there, Homes.one_first}
use Rattle.dspec_c.proofs.consumer_place.ConsumerPlace.into_home.Goals as goal

pub returns-clause-same : goal.returns-clause-same
returns-clause-same c = λ first at. subst (λ (t : Theirs). IsSameConsumer t.consumer c.unwrap.result × IsConsumerOf (words_of t.shared) c.unwrap.result)
    (one_first _ c.self.invariant.0 first c.self.invariant.1 (ap (λ (s : TheirStay). s.first) c.self.view_is ∙ at))
    (same_there c.self.invariant.0 _ _ c.unwrap.result c.self.invariant.2 c.unwrap.ensures)
