use Rattle.std.proofs.Common.{◌≤◌, ◌+◌, refl}
use Rattle.std.specs.Arc.{arc_value}
use Rattle.dspec_c.proofs.{EndingPlaces.place_first, Tends.places_counted, Tends.tended_firsts, Tends.tended_so, Tends.whole_on}
use Rattle.dspec_c.proofs.under_way.UnderWay.tend.Goals as goal

pub tend_all-requires-clause-count : goal.tend_all-requires-clause-count
tend_all-requires-clause-count c = places_counted _ _ _ _ c.self.invariant.0

pub tend_all-requires-clause-place : goal.tend_all-requires-clause-place
tend_all-requires-clause-place c = λ k first at. place_first (arc_value c.self.inside.common) c.deref.result.now _ _ _ k first c.self.invariant.0 c.deref.ensures at

pub invariant_of-self : goal.invariant_of-self
invariant_of-self c = (whole_on _ _ _ _ _ c.self.invariant.0 (tended_firsts _ _ _ _ c.tend_all.ensures), c.self.invariant.1)

pub returns : goal.returns
returns c = tended_so _ _ _ _ _ c.self.view_is refl refl refl (places_counted _ _ _ _ c.self.invariant.0) c.tend_all.ensures
