use Rattle.std.proofs.Common.{ap, ◌∙◌}
use Rattle.dspec_c.specs.Words.{AtHome, identity, IsAtHomeOf, IsSameSide}
use Rattle.dspec_c.proofs.Homes.{came, stayed}
use Rattle.dspec_c.proofs.cpu_place.CpuPlace.is_in.Goals as goal

pub invariant_of-self : goal.invariant_of-self
invariant_of-self c = came IsSameSide IsAtHomeOf c.in-Ok.cpu c.into_home.result _ _ c.self.inside.way c.self.inside.inside c.self.invariant
    c.if-is_some.ensures c.in-Ok.ensures.ok.0 c.in-Ok.ensures.ok.2 (λ first same. ap (λ (x : AtHome). identity x.cpu) c.into_home.ensures ∙ same.cpu)

pub invariant_of-self-in-Err : goal.invariant_of-self-in-Err
invariant_of-self-in-Err c = stayed IsSameSide IsAtHomeOf _ _ c.self.inside.way c.self.inside.inside c.self.invariant c.in-Err.ensures.empty.0
