use Rattle.std.proofs.{Common.arith, lemmas.Bool.Decides.nat_tests, lemmas.List.length-map}
use Rattle.std.specs.Arc.{arc_value}
use Rattle.dspec_threads.specs.Words.{ComesIn, whereabouts}
use Rattle.dspec_threads.proofs.{Pairs.pair_count, Runs.later_so, Runs.placed_later, Whereabouts.each_stays}
use Rattle.dspec_threads.proofs.running.Running.is_home.Goals as goal

pub invariant_of-self : goal.invariant_of-self
invariant_of-self g c =
    let gets = g.K.Sink.gets c.self.inside.schema in
    let done = g.D.Duty.done in
    let looked = c.look_at_all.ensures.looked in (
      placed_later gets done (ComesIn done) (λ v w is. is.keeps) (arc_value c.self.inside.common.shared) _ _ _ _ _ _ _ looked c.self.invariant.0,
      (
        c.self.invariant.1.0,
        omega (arith, c.self.invariant.1.1, pair_count (ComesIn done) _ _ looked, length-map c.self.inside.places.items whereabouts, length-map c.look_at_all.new.places.items whereabouts),
      ),
    )

pub returns-clause-same : goal.returns-clause-same
returns-clause-same g c = grind (arith, nat_tests, later_so, each_stays, c.self.view_is, c.look_at_all.ensures.looked)
