use Rattle.std.proofs.Common.{ap, ◌∙◌}
use Rattle.dspec_c.specs.Words.{AtHome, CpuSide, identity, IsAtHomeOf, IsSameSide}
use Rattle.dspec_c.proofs.Homes.{opened}
use Rattle.dspec_c.proofs.cpu_place.CpuPlace.make.Goals as goal

pub invariant_of-result : goal.invariant_of-result
invariant_of-result c = opened IsSameSide IsAtHomeOf _ c.in_ok-way.way c.args.cpu _ c.in_ok-way.ensures.same.1 c.in_ok-way.ensures.same.0 c.in_ok-way.ensures.room
    (ap (λ (x : AtHome). identity x.cpu) c.into_home.ensures ∙ ap (λ (s : CpuSide). identity s.cpu) c.in_ok-way.ensures.same.2)
