use Rattle.std.proofs.{Common.◌<◌, Common.length, Common.take, Common.sym, Common.subst, Common.ap, Common.arith, lemmas.Option.slice_get_within}
use Rattle.std.specs.List.{AllByRecursion}
use Rattle.dspec_parking.specs.{Words.ParkingRing, Words.IsOld, Words.OldestIsOld, Words.PassesOldest, declared.passed_places.PassedPlaces.PassedPlaces}
use Rattle.dspec_parking.proofs.Passes.{old_more, one_gone}
use Rattle.dspec_parking.proofs.block_ring.BlockRing.pass_old.Goals as goal

pub passing-preserved : goal.passing-preserved
passing-preserved c =
    let first : ParkingRing = c.args.self.now in
    let ring : ParkingRing = c.passing.self in
    let was = c.passing.invariant in
    let stood = c.pass_oldest-stood.result in
    let oldest : OldestIsOld c.args.before ring = c.if-oldest_is_old.ensures.old in
    let some : 0 < length ring.places = slice_get_within ring.places 0 oldest.0 oldest.1 in
    record {
      passes = subst (λ (g : PassedPlaces). PassesOldest g first c.pass_oldest-stood.new.self) (sym c.one_more-gone.ensures)
          (one_gone c.passing.gone first ring c.pass_oldest-stood.new.self stood was.passes some c.pass_oldest-stood.ensures.ring c.pass_oldest-stood.ensures.stood);
      bound = omega (arith, ap (λ (g : PassedPlaces). g.places) c.one_more-gone.ensures, c.passing-test.true);
      old_ones = subst (λ (g : PassedPlaces). AllByRecursion (IsOld c.args.before) (take g.places first.places)) (sym c.one_more-gone.ensures)
          (old_more c.args.before c.passing.gone first ring stood was.passes was.old_ones oldest);
    }
