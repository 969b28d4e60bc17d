use Rattle.std.proofs.Common.{◌∙◌}
use Rattle.dspec_paths.specs.Words.{counted_in, DiscardsIfMeant, places_of}
use Rattle.dspec_paths.proofs.{Balances.thrown_then, OneByOne.one_more_place}
use Rattle.dspec_paths.proofs.paths.Paths.discard_every.Goals as goal

pub loop-place-preserved : goal.loop-place-preserved
loop-place-preserved g c = record {
  same = c.discard_at.ensures.same ∙ c.loop-place.invariant.same;
  discards = one_more_place (DiscardsIfMeant c.args.whose) c.loop-place.place (g.B.SpeculationCalls.made c.args.cpu.now) (g.B.SpeculationCalls.made c.loop-place.cpu)
      (g.B.SpeculationCalls.made c.discard_at.new.cpu) (places_of c.args.self.now) (places_of c.loop-place.self) (places_of c.discard_at.new.self) c.loop-place.invariant.discards
      c.discard_at.ensures.discards;
  counted = thrown_then (places_of c.args.self.now) (places_of c.loop-place.self) (places_of c.discard_at.new.self) (counted_in c.args.self.now) (counted_in c.loop-place.self)
      (counted_in c.discard_at.new.self) c.loop-place.invariant.counted c.discard_at.ensures.counted;
}
