use Rattle.std.proofs.Common.{◌≤◌, length, refl, sym}
use Rattle.dspec_parking.proofs.Rings.{oldest_fits, pass_shows}
use Rattle.dspec_parking.proofs.block_ring.BlockRing.pass_oldest.Goals as goal

pub drop_front-requires : goal.drop_front-requires
drop_front-requires c = oldest_fits c.self.inside c.self.invariant c.in-Some.entry (sym c.in-Some.ensures.value)

pub invariant_of-self : goal.invariant_of-self
invariant_of-self c = (pass_shows c.self.inside c.self.invariant c.in-Some.entry _ _ _ (sym c.in-Some.ensures.value) c.drop_front.ensures c.pop_front.ensures.items refl).0
