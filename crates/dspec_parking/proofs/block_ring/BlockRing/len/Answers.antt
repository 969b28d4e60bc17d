use Rattle.std.proofs.Common.{◌≡◌, length, sym, subst, ◌∙◌}
use Rattle.dspec_parking.specs.Words.{IsInBounds, ParkingRing}
use Rattle.dspec_parking.proofs.Rings.{shown_length, shown_within}
use Rattle.dspec_parking.proofs.block_ring.BlockRing.len.Goals as goal

pub returns-clause-count : goal.returns-clause-count
returns-clause-count c =
    subst (λ (v : ParkingRing). c.len.result ≡ length v.places) c.self.view_is (c.len.ensures.len ∙ sym (shown_length c.self.inside c.self.invariant))

pub returns-clause-within : goal.returns-clause-within
returns-clause-within c = subst IsInBounds c.self.view_is (shown_within c.self.inside c.self.invariant)
