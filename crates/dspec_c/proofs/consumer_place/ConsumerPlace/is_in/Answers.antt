use Rattle.dspec_c.proofs.{ConsumerHomes.came_so, Homes.came, Homes.stayed}
use Rattle.dspec_c.specs.Words.{AreHomeOf, IsSameTheirs}
use Rattle.dspec_c.proofs.consumer_place.ConsumerPlace.is_in.Goals as goal

pub invariant_of-self : goal.invariant_of-self
invariant_of-self c = came IsSameTheirs AreHomeOf c.in-Ok.consumer c.into_consumer.result _ _ c.self.inside.way c.self.inside.back c.self.invariant c.if-is_some.ensures
    c.in-Ok.ensures.ok.0
    c.in-Ok.ensures.ok.2 (came_so c.in-Ok.consumer c.into_consumer.result c.into_consumer.ensures.consumer c.into_consumer.ensures.theirs)

pub invariant_of-self-in-Err : goal.invariant_of-self-in-Err
invariant_of-self-in-Err c = stayed IsSameTheirs AreHomeOf _ _ c.self.inside.way c.self.inside.back c.self.invariant c.in-Err.ensures.empty.0
