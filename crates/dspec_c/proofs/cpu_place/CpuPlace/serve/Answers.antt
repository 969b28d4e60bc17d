use Rattle.std.proofs.Common.{Option, refl, sym, ap, ◌∙◌, subst}
use Rattle.std.specs.Prelude.{IsSome}
use Rattle.dspec_c.specs.Words.{AtHome, CpuStay}
use Rattle.dspec_c.proofs.{Homes.callable_so, Homes.same_there, Tends.served_in, Tends.served_there}
use Rattle.dspec_c.proofs.cpu_place.CpuPlace.serve.Goals as goal

pub unwrap-home-requires : goal.unwrap-home-requires
unwrap-home-requires c = subst (λ (o : Option AtHome). IsSome o) (sym (c.take.ensures.value ∙ ap (λ (s : CpuStay). s.inside) c.self.view_is)) c.requires.inside

pub serve-settled-requires : goal.serve-settled-requires
serve-settled-requires c =
    let first = ap (λ (s : CpuStay). s.first) (sym c.self.view_is) ∙ c.self.invariant.1 in
    callable_so c.args.shared.now c.self.invariant.0 c.unwrap-home.result.cpu (c.requires.place c.self.invariant.0 first).1
    (same_there c.self.invariant.0 _ _ c.unwrap-home.result c.self.invariant.2 (sym c.take.ensures.value ∙ c.unwrap-home.ensures))

pub invariant_of-self : goal.invariant_of-self
invariant_of-self c = served_in _ c.self.inside.way c.self.inside.inside _ c.unwrap-home.result c.serve-settled.new.self c.self.invariant
    (sym c.take.ensures.value ∙ c.unwrap-home.ensures) c.serve-settled.ensures.cpu.same refl

pub returns : goal.returns
returns c = served_there _ _ _ c.unwrap-home.result c.serve-settled.new.self (ap (λ (s : CpuStay). s.inside) (sym c.self.view_is) ∙ sym c.take.ensures.value ∙ c.unwrap-home.ensures)
    (ap (λ (s : CpuStay). s.first) c.self.view_is) (ap (λ (s : CpuStay). s.waits) c.self.view_is) refl c.serve-settled.ensures
