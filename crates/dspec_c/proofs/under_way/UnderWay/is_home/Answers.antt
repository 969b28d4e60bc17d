use Rattle.std.proofs.Common.{◌≤◌, ◌+◌, refl}
use Rattle.dspec_c.proofs.EndingPlaces.{looked_so, whole_kept}
use Rattle.dspec_c.proofs.under_way.UnderWay.is_home.Goals as goal

pub invariant_of-self : goal.invariant_of-self
invariant_of-self c = (whole_kept _ _ _ _ _ _ c.self.invariant.0 c.all_home-ours.ensures.came c.is_in-theirs.ensures.came, c.self.invariant.1)

pub returns-clause-looked : goal.returns-clause-looked
returns-clause-looked c = looked_so _ _ _ c.self.view_is refl refl c.all_home-ours.ensures.came c.is_in-theirs.ensures.came
