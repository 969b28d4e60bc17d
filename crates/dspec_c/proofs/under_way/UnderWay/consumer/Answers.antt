use Rattle.std.proofs.Common.{refl, sym, ap, ◌∙◌}
use Rattle.std.specs.Arc.{arc_value}
use Rattle.dspec_c.specs.Words.{Going}
use Rattle.dspec_c.proofs.Ending.{they_go_from, they_share, they_stay}
use Rattle.dspec_c.proofs.under_way.UnderWay.consumer.Goals as goal

pub hand_out-requires : goal.hand_out-requires
hand_out-requires c = they_share (arc_value c.self.inside.common) (arc_value c.args.shared) _ _ _ c.self.invariant.0 (c.requires ∙ ap (λ (g : Going). g.shared) (sym c.self.view_is))

pub invariant_of-self : goal.invariant_of-self
invariant_of-self c = (
  they_stay (arc_value c.self.inside.common) (arc_value c.args.shared) _ _ _ _ c.hand_out.result c.self.invariant.0 c.hand_out.ensures.leave c.hand_out.ensures.none,
  c.self.invariant.1,
)

pub returns-clause-go : goal.returns-clause-go
returns-clause-go c =
    they_go_from (arc_value c.self.inside.common) (arc_value c.args.shared) _ _ _ c.hand_out.result _ c.self.view_is refl refl (c.requires ∙ ap (λ (g : Going). g.shared) (sym c.self.view_is))
    c.self.invariant.0 c.hand_out.ensures.leave
