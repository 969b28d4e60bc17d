use Rattle.std.proofs.Common.{Option, sym, ap, ◌∙◌, subst}
use Rattle.std.specs.{Arc.arc_value, Prelude.IsSome, Prelude.is_some}
use Rattle.dspec_c.specs.Words.{identity, AtHome, CpuStay, CpuSide, IsAtHomeOf, IsSameSide}
use Rattle.dspec_c.proofs.Homes.{callable_so, goes_out, is_unused, leaves_so, left_so, same_there}
use Rattle.dspec_c.proofs.cpu_place.CpuPlace.hand_out_first.Goals as goal

pub unwrap-way-requires : goal.unwrap-way-requires
unwrap-way-requires c = ap (λ o. is_some o) c.take.ensures.value ∙ ap (λ (s : CpuStay). s.waits) c.self.view_is ∙ c.requires.waits

pub unwrap-home-requires : goal.unwrap-home-requires
unwrap-home-requires c = subst (λ (o : Option AtHome). IsSome o) (sym c.take-2.ensures.value)
    (is_unused IsSameSide IsAtHomeOf _ _ c.unwrap-way.result _ c.self.invariant (sym c.take.ensures.value ∙ c.unwrap-way.ensures)).is

pub of-requires : goal.of-requires
of-requires c =
    let first = ap (λ (s : CpuStay). s.first) (sym c.self.view_is) ∙ c.self.invariant.1 in
    callable_so (arc_value c.args.shared) c.self.invariant.0 c.unwrap-home.result.cpu (c.requires.place c.self.invariant.0 first).1
    (same_there c.self.invariant.0 _ _ c.unwrap-home.result c.self.invariant.2 (sym c.take-2.ensures.value ∙ c.unwrap-home.ensures))

pub of-requires-2-clause-out : goal.of-requires-2-clause-out
of-requires-2-clause-out c =
    let first = ap (λ (s : CpuStay). s.first) (sym c.self.view_is) ∙ c.self.invariant.1 in
    let used = is_unused IsSameSide IsAtHomeOf _ _ c.unwrap-way.result _ c.self.invariant (sym c.take.ensures.value ∙ c.unwrap-way.ensures) in
    let at = sym c.take-2.ensures.value ∙ c.unwrap-home.ensures in
    goes_out _ c.self.invariant.0 _ used.went (ap (λ (s : CpuSide). s.shared) c.of.ensures ∙ (c.requires.place c.self.invariant.0 first).0)
    (ap (λ (s : CpuSide). identity s.cpu) c.of.ensures ∙ same_there c.self.invariant.0 _ _ c.unwrap-home.result c.self.invariant.2 at)

pub of-requires-2-clause-room : goal.of-requires-2-clause-room
of-requires-2-clause-room c = (is_unused IsSameSide IsAtHomeOf _ _ c.unwrap-way.result _ c.self.invariant (sym c.take.ensures.value ∙ c.unwrap-way.ensures)).room

pub invariant_of-self : goal.invariant_of-self
invariant_of-self c = left_so IsSameSide IsAtHomeOf _ c.self.inside.way c.take.new.self c.unwrap-way.result c.self.inside.inside c.take-2.new.self c.self.invariant
    (sym c.take.ensures.value ∙ c.unwrap-way.ensures) c.take.ensures.after c.take-2.ensures.after

pub returns : goal.returns
returns c =
    let first = ap (λ (s : CpuStay). s.first) (sym c.self.view_is) ∙ c.self.invariant.1 in
    let at = sym c.take-2.ensures.value ∙ c.unwrap-home.ensures in
    let same = same_there c.self.invariant.0 _ _ c.unwrap-home.result c.self.invariant.2 at in
    let is = c.of-2.ensures ∙ c.of.ensures in
    leaves_so (arc_value c.args.shared) _ _ c.self.invariant.0 c.self.invariant.0 c.of-2.result c.unwrap-home.result first (ap (λ (s : CpuStay). s.inside) (sym c.self.view_is) ∙ at) same is
    c.self.invariant.1 (record { shared = ap (λ (s : CpuSide). s.shared) is ∙ (c.requires.place c.self.invariant.0 first).0; cpu = ap (λ (s : CpuSide). identity s.cpu) is ∙ same })
    c.take-2.ensures.after (ap (λ o. is_some o) c.take.ensures.after)
