use Rattle.std.proofs.Common.{◌∙◌, sym, inr}
use Rattle.std.specs.Prelude.{false}
use Rattle.dspec_paths.specs.Words.{counted_in, key_at, has_part_at, places_of}
use Rattle.dspec_paths.proofs.{AtOnce.at_once, Balances.kept_so}
use Rattle.dspec_paths.proofs.paths.Paths.keep_at.Goals as goal

pub returns-then-means-clause-keeps : goal.returns-then-means-clause-keeps
returns-then-means-clause-keeps g c =
    let p = c.in-Some.path in
    let a = c.keep.result in
    inr (
      p,
      a,
      sym c.open_at.ensures ∙ c.in-Some.is,
      sym c.means.ensures ∙ c.if-means.true,
      at_once (g.B.SpeculationCalls.lacks_room c.keep.new.cpu) (key_at c.args.place p) a (g.B.SpeculationCalls.made c.args.cpu.now) (g.B.SpeculationCalls.made c.keep.new.cpu)
          (places_of c.args.self.now) (places_of c.keep.new.self) c.keep.ensures.keeps,
    )

pub returns-then-means-clause-counted : goal.returns-then-means-clause-counted
returns-then-means-clause-counted g c =
    kept_so (g.B.SpeculationCalls.lacks_room c.keep.new.cpu) false (has_part_at c.args.place (places_of c.args.self.now)) (key_at c.args.place c.in-Some.path) c.keep.result
    (g.B.SpeculationCalls.made c.args.cpu.now) (g.B.SpeculationCalls.made c.keep.new.cpu) (places_of c.args.self.now) (places_of c.keep.new.self) (counted_in c.args.self.now)
    (counted_in c.keep.new.self) c.keep.ensures.keeps c.keep.ensures.counted
