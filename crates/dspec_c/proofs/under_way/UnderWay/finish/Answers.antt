use Rattle.std.proofs.Common.{sym, ap, ◌∙◌, subst}
use Rattle.std.specs.Prelude.{IsSome}
use Rattle.dspec_c.specs.Words.{Shared, AllInside, Going, HasRooms, IsEnding, firsts, insides, refusals}
use Rattle.dspec_c.proofs.{EndingPlaces.ends_so, Finishing.left_of_home, Tends.places_counted}
use Rattle.dspec_c.proofs.under_way.UnderWay.finish.Goals as goal

pub into_home-requires : goal.into_home-requires
into_home-requires c = subst (λ (g : Going). IsSome g.consumer.inside) (sym c.self.view_is) c.requires.consumer

pub close-closed-requires-clause-ending : goal.close-closed-requires-clause-ending
close-closed-requires-clause-ending c = (
  c.self.invariant.0.schema,
  subst (λ (m : Shared). IsEnding m c.self.invariant.0.schema (firsts c.self.inside.places.items) c.into_home.result) (sym c.in-Ok.ensures.ok)
      (ends_so _ _ _ _ c.into_home.result c.self.invariant.0 c.into_home.ensures.same),
)

pub close-closed-requires-clause-inside : goal.close-closed-requires-clause-inside
close-closed-requires-clause-inside c = subst (λ (g : Going). AllInside g.places) (sym c.self.view_is) c.requires.cpus

pub close-closed-requires-clause-rooms : goal.close-closed-requires-clause-rooms
close-closed-requires-clause-rooms c = subst (λ n. HasRooms n c.self.inside.room c.self.inside.counts) (places_counted _ _ _ _ c.self.invariant.0) c.self.invariant.1

pub returns-in-Ok-clause-ended : goal.returns-in-Ok-clause-ended
returns-in-Ok-clause-ended c = left_of_home _ _ _ c.into_home.result _ _ (c.in-Ok.ensures.ok ∙ ap (λ (g : Going). g.shared) c.self.view_is)
    (ap (λ (g : Going). insides g.places) c.self.view_is) (ap (λ (g : Going). g.consumer.inside) (sym c.self.view_is) ∙ c.into_home.ensures.is) c.close-closed.ensures.closed
    (c.close-closed.ensures.counted ∙ ap (λ (g : Going). refusals g.places) c.self.view_is)
