use Rattle.std.proofs.Common.{◌≤◌, ◌+◌, sym, ap, ◌∙◌}
use Rattle.std.specs.Arc.{arc_value}
use Rattle.dspec_c.specs.Words.{Going, inside_at}
use Rattle.dspec_c.proofs.{Ending.asked_for_one, Ending.goes_from, Ending.stays_from, EndingPlaces.place_with}
use Rattle.dspec_c.proofs.under_way.UnderWay.cpu.Goals as goal

pub hand_out-requires-clause-place : goal.hand_out-requires-clause-place
hand_out-requires-clause-place c = λ s there. place_with (arc_value c.self.inside.common) (arc_value c.args.shared) _ _ _ c.args.cpu s c.self.invariant.0
    (c.requires.shares ∙ ap (λ (g : Going). g.shared) (sym c.self.view_is)) there

pub hand_out-requires-clause-inside : goal.hand_out-requires-clause-inside
hand_out-requires-clause-inside c = ap (λ (g : Going). inside_at c.args.cpu g.places) c.self.view_is ∙ c.requires.inside

pub invariant_of-self : goal.invariant_of-self
invariant_of-self c = (
  asked_for_one (arc_value c.self.inside.common) (arc_value c.args.shared) _ c.args.cpu _ _ _ c.hand_out.result (c.requires.shares ∙ ap (λ (g : Going). g.shared) (sym c.self.view_is))
      c.self.invariant.0 c.hand_out.ensures.leaves c.hand_out.ensures.stays,
  c.self.invariant.1,
)

pub returns-clause-goes : goal.returns-clause-goes
returns-clause-goes c =
    goes_from (arc_value c.self.inside.common) (arc_value c.args.shared) _ c.args.cpu _ _ _ c.hand_out.result _ c.self.view_is
    (c.requires.shares ∙ ap (λ (g : Going). g.shared) (sym c.self.view_is)) c.self.invariant.0
    c.hand_out.ensures.leaves

pub returns-clause-stays : goal.returns-clause-stays
returns-clause-stays c = stays_from _ _ c.hand_out.result _ c.self.view_is c.hand_out.ensures.stays
