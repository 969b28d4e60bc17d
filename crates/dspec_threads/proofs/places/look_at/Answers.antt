use Rattle.std.proofs.{Common.arith, lemmas.Bool.Decides.nat_tests}
use Rattle.dspec_threads.specs.Words.{ComesIn}
use Rattle.dspec_threads.proofs.Whereabouts.{at_one, in_at_one}
use Rattle.dspec_threads.proofs.places.look_at.Goals as goal

pub returns-clause-looked : goal.returns-clause-looked
returns-clause-looked g c = at_one (ComesIn g.D.Duty.done) c.args.places.now.items c.args.index c.index_mut.result.now c.look.new.self c.requires c.index_mut.ensures.value c.look.ensures.looked

pub returns-clause-inside : goal.returns-clause-inside
returns-clause-inside g c = grind (arith, nat_tests, in_at_one, c.look.ensures.inside, c.requires, c.index_mut.ensures.value)
