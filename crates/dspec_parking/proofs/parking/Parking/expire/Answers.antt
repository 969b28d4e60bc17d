use Rattle.std.proofs.Common.{◌≡◌, ◌+◌, ◌-◌, ℕ, subst, ap, arith}
use Rattle.dspec_parking.specs.{Words.standing_in, Words.ExpiresBlocks, Words.ParkingState, declared.parking_counts.ParkingCounts.ParkingCounts}
use Rattle.dspec_parking.proofs.Counting.{passed_standing}
use Rattle.dspec_parking.proofs.parking.Parking.expire.Goals as goal

pub invariant_of-self : goal.invariant_of-self
invariant_of-self c =
    let sums = c.self.invariant in
    omega (arith, sums, passed_standing c.pass_old-gone.result c.self.inside.ring c.pass_old-gone.new.self c.pass_old-gone.ensures.oldest)

pub returns : goal.returns
returns c =
    let s = c.self.inside in
    let gone = c.pass_old-gone.result in
    let next = c.pass_old-gone.new.self in
    let rest : standing_in next.places ≡ standing_in s.ring.places - gone.blocks = omega (arith, passed_standing gone s.ring next c.pass_old-gone.ensures.oldest) in
    let shown : ℕ → ParkingCounts = λ n. record { parked = s.parked; kept = s.kept; evicted = s.evicted; expired = s.expired + gone.blocks; standing = n } in
    subst (λ (v : ParkingState). ExpiresBlocks c.args.before c.args.most gone v (record { ring = next; counts = shown (standing_in next.places) })) c.self.view_is
    (record { ring = c.pass_old-gone.ensures; counts = ap shown rest })
