use Rattle.std.proofs.Common.{◌∙◌}
use Rattle.dspec_paths.specs.Words.{counted_in, KeepsIfMeant, places_of}
use Rattle.dspec_paths.proofs.{Balances.kept_then, OneByOne.one_more_place}
use Rattle.dspec_paths.proofs.paths.Paths.keep_every.Goals as goal

pub loop-place-preserved : goal.loop-place-preserved
loop-place-preserved g c = record {
  same = c.keep_at.ensures.same ∙ c.loop-place.invariant.same;
  keeps = one_more_place (KeepsIfMeant c.args.whose) c.loop-place.place (g.B.SpeculationCalls.made c.args.cpu.now) (g.B.SpeculationCalls.made c.loop-place.cpu)
      (g.B.SpeculationCalls.made c.keep_at.new.cpu) (places_of c.args.self.now) (places_of c.loop-place.self) (places_of c.keep_at.new.self) c.loop-place.invariant.keeps
      c.keep_at.ensures.keeps;
  counted = kept_then (places_of c.args.self.now) (places_of c.loop-place.self) (places_of c.keep_at.new.self) (counted_in c.args.self.now) (counted_in c.loop-place.self)
      (counted_in c.keep_at.new.self) c.loop-place.invariant.counted c.keep_at.ensures.counted;
}
