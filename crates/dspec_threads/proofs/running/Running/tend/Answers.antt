use Rattle.std.proofs.{Common.arith, lemmas.Bool.Decides.nat_tests, lemmas.List.length-map}
use Rattle.std.specs.Arc.{arc_value}
use Rattle.dspec_threads.specs.Words.{ComesIn, TendsPlace, whereabouts}
use Rattle.dspec_threads.proofs.{Pairs.pair_count, Runs.later_so, Runs.of_run, Runs.placed_later, Whereabouts.each_serves, Whereabouts.each_stays}
use Rattle.dspec_threads.proofs.running.Running.tend.Goals as goal

pub tend_all-requires : goal.tend_all-requires
tend_all-requires g c =
    let gets = g.K.Sink.gets c.self.inside.schema in
    let done = g.D.Duty.done in
    let shared = arc_value c.self.inside.common.shared in
    let looked = placed_later gets done (ComesIn done) (λ v w is. is.keeps) shared _ _ _ _ _ _ _ c.look_at_all.ensures.looked c.self.invariant.0 in
    of_run gets done shared _ _ _ _ _ _ _ looked c.words.ensures

pub invariant_of-self : goal.invariant_of-self
invariant_of-self g c =
    let gets = g.K.Sink.gets c.self.inside.schema in
    let done = g.D.Duty.done in
    let shared = arc_value c.self.inside.common.shared in
    let looked = placed_later gets done (ComesIn done) (λ v w is. is.keeps) shared _ _ _ _ _ _ _ c.look_at_all.ensures.looked c.self.invariant.0 in (
      placed_later gets done (TendsPlace done) (λ v w is. is.keeps) shared _ _ _ _ _ _ _ c.tend_all.ensures looked,
      (
        c.self.invariant.1.0,
        omega (
          arith,
          c.self.invariant.1.1,
          pair_count (ComesIn done) _ _ c.look_at_all.ensures.looked,
          pair_count (TendsPlace done) _ _ c.tend_all.ensures,
          length-map c.self.inside.places.items whereabouts,
          length-map c.look_at_all.new.places.items whereabouts,
          length-map c.tend_all.new.places.items whereabouts,
        ),
      ),
    )

pub returns : goal.returns
returns g c = grind (arith, nat_tests, later_so, each_stays, each_serves, c.self.view_is, c.look_at_all.ensures.looked, c.tend_all.ensures)
