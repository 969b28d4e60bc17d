use Rattle.std.proofs.Common.{◌≡◌, ◌+◌, ◌-◌, ℕ, subst, ap, arith}
use Rattle.dspec_parking.specs.{Words.StoredBlock, Words.standing_in, Words.ParkingState, Words.ParksBlock, declared.parking_counts.ParkingCounts.ParkingCounts}
use Rattle.dspec_parking.specs.declared.parked.Parked.TheVariants as answer
use Rattle.dspec_parking.proofs.Counting.{parked_standing, passed_standing}
use Rattle.dspec_parking.proofs.parking.Parking.park.Goals as goal

pub invariant_of-self : goal.invariant_of-self
invariant_of-self c =
    let s = c.self.inside in
    let gone = c.make_room-gone.result in
    let mid = c.make_room-gone.new.self in
    let sums = c.self.invariant in
    omega (arith, sums, passed_standing gone s.ring mid c.make_room-gone.ensures.oldest, parked_standing _ mid c.push.new.self c.push.ensures)

pub returns : goal.returns
returns c =
    let s = c.self.inside in
    let gone = c.make_room-gone.result in
    let mid = c.make_room-gone.new.self in
    let next = c.push.new.self in
    let b : StoredBlock = record { key = c.args.key; stamp = c.args.stamp; bytes = c.args.bytes.now } in
    let stand : standing_in next.places ≡ standing_in s.ring.places - gone.blocks + 1 =
    omega (arith, passed_standing gone s.ring mid c.make_room-gone.ensures.oldest, parked_standing b mid next c.push.ensures) in
    let shown : ℕ → ParkingCounts = λ n. record { parked = s.parked + 1; kept = s.kept; evicted = s.evicted + gone.blocks; expired = s.expired; standing = n } in
    subst (λ (v : ParkingState). ParksBlock b (answer.Stands gone) v (record { ring = next; counts = shown (standing_in next.places) })) c.self.view_is
    (mid, c.make_room-gone.ensures, c.push.ensures, ap shown stand)
