use Rattle.std.proofs.{Common.arith, lemmas.Bool.Decides.nat_tests, lemmas.List.length-map}
use Rattle.dspec_threads.specs.Words.{ComesIn, whereabouts}
use Rattle.dspec_threads.proofs.{Pairs.all_of_them, Pairs.count_so_far, Pairs.none_yet, Pairs.one_more_pair, Whereabouts.all_or_one, Whereabouts.none_in_yet, Whereabouts.one_more_looked}
use Rattle.dspec_threads.proofs.places.look_at_all.Goals as goal

pub loop-index-init : goal.loop-index-init
loop-index-init g c = record { looked = none_yet (ComesIn g.D.Duty.done) _; inside = none_in_yet _ }

pub loop-index-preserved : goal.loop-index-preserved
loop-index-preserved g c = record {
  looked = one_more_pair (ComesIn g.D.Duty.done) _ _ _ _ c.loop-index.invariant.looked c.look_at.ensures.looked;
  inside = one_more_looked (ComesIn g.D.Duty.done) _ _ _ c.look_at.ensures.looked _ _ _ c.loop-index.invariant.inside c.look_at.ensures.inside c.both-all.ensures;
}

pub returns-clause-looked : goal.returns-clause-looked
returns-clause-looked g c = all_of_them (ComesIn g.D.Duty.done) _ _ _ c.loop-index.invariant.looked (omega (arith, length-map c.args.places.now.items whereabouts))

pub returns-clause-inside : goal.returns-clause-inside
returns-clause-inside g c = grind (arith, nat_tests, all_or_one, length-map, count_so_far, c.loop-index.invariant.inside, c.loop-index.invariant.looked)
