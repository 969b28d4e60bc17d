use Rattle.std.proofs.{Common.ℕ, Common.◌-◌, Common.◌≤◌, Common.length, Common.subst, Common.arith, Common.leb, lemmas.Bool.le-leb, lemmas.Bool.leb-true, lemmas.Bool.lt-ltb, lemmas.Bool.ltb-true}
use Rattle.std.specs.Prelude.{IsTrue, nat_lt, ◌↔◌}
use Rattle.dspec_parking.specs.Words.{FitsBeside, ParkingRing}
use Rattle.dspec_parking.proofs.Rings.{has_room_from, room_left}
use Rattle.dspec_parking.proofs.block_ring.BlockRing.has_room.Goals as goal

pub returns-then-length-capacity : goal.returns-then-length-capacity
returns-then-length-capacity c =
    let r = c.self.inside in
    let n : ℕ = c.args.length in
    let len : ℕ = c.len-then-length-capacity.result in
    let most : ℕ = c.capacity-then-length-capacity.result in
    let fits : n ≤ r.bytes.capacity - length r.bytes.items = omega (arith, c.if-length-capacity.true, c.capacity.ensures.capacity, c.len.ensures.len) in
    subst (λ (v : ParkingRing). IsTrue (nat_lt len most) ↔ FitsBeside v n) c.self.view_is (
      (λ yes. has_room_from r c.self.invariant n fits (omega (arith, ltb-true len most yes, c.len-then-length-capacity.ensures.len, c.capacity-then-length-capacity.ensures.capacity))),
      (λ room. lt-ltb len most (omega (arith, (room_left r c.self.invariant n room).1, c.len-then-length-capacity.ensures.len, c.capacity-then-length-capacity.ensures.capacity))),
    )

pub returns-else-length-capacity : goal.returns-else-length-capacity
returns-else-length-capacity c =
    let r = c.self.inside in
    let n : ℕ = c.args.length in
    let free : ℕ = c.capacity.result - c.len.result in
    subst (λ (v : ParkingRing). IsTrue (leb n free) ↔ FitsBeside v n) c.self.view_is (
      (λ yes. absurd (omega (arith, leb-true n free yes, c.if-length-capacity.false))),
      (λ room. le-leb n free (omega (arith, (room_left r c.self.invariant n room).0, c.capacity.ensures.capacity, c.len.ensures.len))),
    )
