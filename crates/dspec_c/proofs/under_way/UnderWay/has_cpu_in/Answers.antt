use Rattle.std.proofs.{Common.◌≤◌, Common.◌+◌, Common.refl, Common.ap, Common.◌∙◌, Common.arith, lemmas.Bool.ltb-true}
use Rattle.std.specs.Prelude.{nat_lt}
use Rattle.dspec_c.specs.Words.{Going}
use Rattle.dspec_c.proofs.{Ending.looks_from, Looking.looked_came, Looking.same_firsts, Tends.places_counted, Tends.whole_on}
use Rattle.dspec_c.proofs.under_way.UnderWay.has_cpu_in.Goals as goal

pub is_in-requires : goal.is_in-requires
is_in-requires c =
    let small = ltb-true c.args.cpu c.self.inside.cpus (ap (λ (g : Going). nat_lt c.args.cpu g.cpus) c.self.view_is ∙ c.requires) in
    omega (arith, small, places_counted _ _ _ _ c.self.invariant.0)

pub invariant_of-self : goal.invariant_of-self
invariant_of-self c = (whole_on _ _ _ _ _ c.self.invariant.0 (same_firsts _ _ (looked_came _ _ _ c.is_in.ensures.looked)), c.self.invariant.1)

pub returns-clause-looked : goal.returns-clause-looked
returns-clause-looked c = looks_from c.args.cpu _ _ _ c.self.view_is refl refl refl c.is_in.ensures.looked
