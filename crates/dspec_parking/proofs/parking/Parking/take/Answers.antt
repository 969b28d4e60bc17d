use Rattle.std.proofs.Common.{◌≡◌, ◌+◌, ◌-◌, ◌++◌, List, ℕ, Some, drop, length, sym, subst, ap, ◌∙◌, arith}
use Rattle.std.specs.Prelude.{slice_get}
use Rattle.dspec_parking.specs.{Words.standing_in, Words.ParkingState, Words.TakesInto, declared.parking_counts.ParkingCounts.ParkingCounts}
use Rattle.dspec_parking.proofs.Counting.{IsTold, filled_first, filled_length, filled_rest, is_told, kept_standing}
use Rattle.dspec_parking.proofs.parking.Parking.take.Goals as goal

pub overflow_add-self : goal.overflow_add-self
overflow_add-self c =
    let s = c.self.inside in
    let at : IsTold (slice_get s.ring.places c.args.place) c.in_ok-block.block = is_told _ c.in_ok-block.block (sym c.at.ensures ∙ c.in_ok-block.was) in
    let sums = c.self.invariant in
    record { fits = omega (arith, sums, kept_standing c.args.place at.place s.ring c.mark_kept.new.self (at.there, at.stands) (c.mark_kept.ensures at.place (at.there, at.stands))) }

pub invariant_of-self : goal.invariant_of-self
invariant_of-self c =
    let s = c.self.inside in
    let at : IsTold (slice_get s.ring.places c.args.place) c.in_ok-block.block = is_told _ c.in_ok-block.block (sym c.at.ensures ∙ c.in_ok-block.was) in
    let sums = c.self.invariant in
    omega (arith, sums, kept_standing c.args.place at.place s.ring c.mark_kept.new.self (at.there, at.stands) (c.mark_kept.ensures at.place (at.there, at.stands)))

pub returns : goal.returns
returns c =
    let s = c.self.inside in
    let i = c.args.place in
    let b = c.in_ok-block.block in
    let next = c.mark_kept.new.self in
    let buffer : List ℕ = c.args.out.now in
    let bytes : List ℕ = c.copy_to.new.out in
    let at : IsTold (slice_get s.ring.places i) b = is_told _ b (sym c.at.ensures ∙ c.in_ok-block.was) in
    let came : bytes ≡ at.place.block.bytes = c.copy_to.ensures at.place at.there in
    let long = ap length came ∙ at.long in
    let marked = c.mark_kept.ensures at.place (at.there, at.stands) in
    let stand : standing_in next.places ≡ standing_in s.ring.places - 1 = omega (arith, kept_standing i at.place s.ring next (at.there, at.stands) marked) in
    let shown : ℕ → ParkingCounts = λ n. record { parked = s.parked; kept = s.kept + 1; evicted = s.evicted; expired = s.expired; standing = n } in
    subst (λ (v : ParkingState). TakesInto i (Some b) buffer (bytes ++ drop b.length buffer) v (record { ring = next; counts = shown (standing_in next.places) })) c.self.view_is (
      at.place,
      at.told,
      record { stands = (at.there, at.stands); whole = filled_first bytes buffer b.length long ∙ came; ring = marked; counts = ap shown stand },
      filled_rest bytes buffer b.length long,
      filled_length bytes buffer b.length long c.if-out-block.false,
    )
