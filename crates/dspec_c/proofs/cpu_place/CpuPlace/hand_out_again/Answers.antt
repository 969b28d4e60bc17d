use Rattle.std.proofs.Common.{Option, sym, ap, ◌∙◌, subst}
use Rattle.std.specs.{Arc.arc_value, Prelude.IsSome, Prelude.slice_get}
use Rattle.dspec_c.specs.Words.{identity, AtHome, CpuStay, CpuSide, IsAtHomeOf, IsSameSide}
use Rattle.dspec_c.proofs.Homes.{callable_so, goes_out, leaves_so, left_again, same_there}
use Rattle.dspec_c.proofs.cpu_place.CpuPlace.hand_out_again.Goals as goal

pub unwrap-home-requires : goal.unwrap-home-requires
unwrap-home-requires c = subst (λ (o : Option AtHome). IsSome o) (sym (c.take.ensures.value ∙ ap (λ (s : CpuStay). s.inside) c.self.view_is)) c.requires.inside

pub of-requires : goal.of-requires
of-requires c =
    let first = ap (λ (s : CpuStay). s.first) (sym c.self.view_is) ∙ c.self.invariant.1 in
    callable_so (arc_value c.args.shared) c.self.invariant.0 c.unwrap-home.result.cpu (c.requires.place c.self.invariant.0 first).1
    (same_there c.self.invariant.0 _ _ c.unwrap-home.result c.self.invariant.2 (sym c.take.ensures.value ∙ c.unwrap-home.ensures))

pub of-requires-2-clause-out : goal.of-requires-2-clause-out
of-requires-2-clause-out c = goes_out _ c.of.result _ c.pass-way.ensures.same.0 (ap (λ (s : CpuSide). s.shared) c.pass-way.ensures.same.2)
    (ap (λ (s : CpuSide). identity s.cpu) c.pass-way.ensures.same.2)

pub invariant_of-self : goal.invariant_of-self
invariant_of-self c = left_again IsSameSide IsAtHomeOf _ c.self.inside.way c.take.new.self c.of.result c.pass-way.ensures.same.1
    (ap (λ (s : CpuStay). s.waits) c.self.view_is ∙ c.requires.again)
    c.take.ensures.after

pub returns-clause-leaves : goal.returns-clause-leaves
returns-clause-leaves c =
    let first = ap (λ (s : CpuStay). s.first) (sym c.self.view_is) ∙ c.self.invariant.1 in
    let at = sym c.take.ensures.value ∙ c.unwrap-home.ensures in
    let same = same_there c.self.invariant.0 _ _ c.unwrap-home.result c.self.invariant.2 at in
    let out = c.of-2.ensures ∙ c.pass-way.ensures.same.2 in
    leaves_so (arc_value c.args.shared) _ _ c.self.invariant.0 c.of.result c.of-2.result c.unwrap-home.result first (ap (λ (s : CpuStay). s.inside) (sym c.self.view_is) ∙ at) same
    (out ∙ c.of.ensures) (ap (λ xs. slice_get xs 0) c.pass-way.ensures.same.1)
    (record { shared = ap (λ (s : CpuSide). s.shared) out; cpu = ap (λ (s : CpuSide). identity s.cpu) out })
    c.take.ensures.after (ap (λ (s : CpuStay). s.waits) c.self.view_is ∙ c.requires.again)
