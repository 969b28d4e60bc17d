use Rattle.std.proofs.Common.{◌≡◌, subst, sym, ap}
use Rattle.std.specs.Prelude.{None, Some, slice_get}
use Rattle.dspec_parking.specs.Words.{ParkingRing, told_at}
use Rattle.dspec_parking.proofs.Finding.{kept_is_untold, none_there, standing_is_told}
use Rattle.dspec_parking.proofs.block_ring.BlockRing.at.Goals as goal

pub returns-then-entry : goal.returns-then-entry
returns-then-entry c =
    subst (λ (v : ParkingRing). None ≡ told_at (slice_get v.places c.args.place)) c.self.view_is
    (sym (kept_is_untold c.self.inside c.self.invariant c.args.place c.in-Some.entry.now (sym c.in-Some.ensures) c.if-entry.true))

pub returns-else-entry : goal.returns-else-entry
returns-else-entry c =
    let e = c.in-Some.entry.now in
    subst (λ (v : ParkingRing). Some (record { key = e.key; stamp = e.stamp; length = e.length }) ≡ told_at (slice_get v.places c.args.place)) c.self.view_is
    (sym (standing_is_told c.self.inside c.self.invariant c.args.place e (sym c.in-Some.ensures) c.if-entry.false))

pub returns-in-None : goal.returns-in-None
returns-in-None c =
    subst (λ (v : ParkingRing). None ≡ told_at (slice_get v.places c.args.place)) c.self.view_is
    (sym (ap told_at (none_there c.self.inside c.self.invariant c.args.place (sym c.in-None.ensures))))
