use Rattle.std.proofs.Common.{ap, ◌∙◌, subst}
use Rattle.dspec_c.specs.Words.{words_of, IsConsumerOf, Theirs, AreHomeOf, IsSameTheirs}
use Rattle.dspec_c.proofs.{ConsumerHomes.are_home, Homes.opened}
use Rattle.dspec_c.proofs.consumer_place.ConsumerPlace.make.Goals as goal

pub invariant_of-result : goal.invariant_of-result
invariant_of-result c = opened IsSameTheirs AreHomeOf _ c.in_ok-way.way c.args.consumer _ c.in_ok-way.ensures.same.1 c.in_ok-way.ensures.same.0 c.in_ok-way.ensures.room
    (are_home c.args.consumer _ (c.into_consumer.ensures.consumer ∙ ap (λ (t : Theirs). t.consumer) c.in_ok-way.ensures.same.2) (subst (λ (t : Theirs).
    IsConsumerOf (words_of t.shared) c.into_consumer.result) c.in_ok-way.ensures.same.2 c.into_consumer.ensures.theirs))
