use Rattle.dspec_paths.specs.Words.{counted_in, key_at, places_of}
use Rattle.dspec_paths.proofs.Balances.{thrown_one}
use Rattle.dspec_paths.proofs.paths.Paths.discard_at.Goals as goal

pub returns-then-means-clause-counted : goal.returns-then-means-clause-counted
returns-then-means-clause-counted g c =
    thrown_one (key_at c.args.place c.in-Some.path) c.discard.result (g.B.SpeculationCalls.made c.args.cpu.now) (g.B.SpeculationCalls.made c.discard.new.cpu) (places_of c.args.self.now)
    (places_of c.discard.new.self) (counted_in c.args.self.now) (counted_in c.discard.new.self) c.discard.ensures.discards c.discard.ensures.counted
