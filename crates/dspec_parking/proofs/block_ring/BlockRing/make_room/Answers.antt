use Rattle.std.proofs.Common.{ℕ, ◌<◌, length, sym, subst, ◌∙◌, true≢false}
use Rattle.dspec_parking.specs.{Words.FitsBeside, Words.ParkingRing, Words.CanHold, Words.PassesOldest, declared.passed_places.PassedPlaces.PassedPlaces}
use Rattle.dspec_parking.proofs.Passes.{no_room_before, not_empty, one_gone}
use Rattle.dspec_parking.proofs.block_ring.BlockRing.make_room.Goals as goal

pub passing-preserved : goal.passing-preserved
passing-preserved c =
    let first : ParkingRing = c.args.self.now in
    let ring : ParkingRing = c.passing.self in
    let n : ℕ = c.args.length in
    let was = c.passing.invariant in
    let lacks : FitsBeside ring n → ⊥ = λ fits. true≢false (sym (c.has_room.ensures.1 fits) ∙ c.passing-test.true) in
    let some : 0 < length ring.places = not_empty ring n (subst (λ (r : ParkingRing). CanHold r n) (sym was.passes.ring) c.requires) lacks in
    record {
      passes = subst (λ (g : PassedPlaces). PassesOldest g first c.pass_oldest-stood.new.self) (sym c.one_more-gone.ensures)
          (one_gone c.passing.gone first ring c.pass_oldest-stood.new.self c.pass_oldest-stood.result was.passes some c.pass_oldest-stood.ensures.ring c.pass_oldest-stood.ensures.stood);
      fewest = λ j before. no_room_before first ring n c.passing.gone.places was.passes.ring was.fewest lacks j (subst (λ (g : PassedPlaces). j < g.places) c.one_more-gone.ensures before);
    }
