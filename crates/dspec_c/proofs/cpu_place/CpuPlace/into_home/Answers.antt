use Rattle.std.proofs.Common.{ap, ◌∙◌}
use Rattle.dspec_c.specs.Words.{CpuStay, CpuSide, identity}
use Rattle.dspec_c.proofs.Homes.{one_first, same_there}
use Rattle.dspec_c.proofs.cpu_place.CpuPlace.into_home.Goals as goal

pub returns-clause-same : goal.returns-clause-same
returns-clause-same c = λ first at. same_there c.self.invariant.0 _ _ c.unwrap.result c.self.invariant.2 c.unwrap.ensures
    ∙ ap (λ (s : CpuSide). identity s.cpu) (one_first _ c.self.invariant.0 first c.self.invariant.1 (ap (λ (s : CpuStay). s.first) c.self.view_is ∙ at))
