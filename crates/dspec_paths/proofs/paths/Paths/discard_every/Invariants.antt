-- The places up to this one.
use Rattle.std.specs.Prelude.{◌≡◌}
use Rattle.dspec_paths.specs.Words.{counted_in, places_of, DiscardsIfMeant, EachOf, ThrownCounted}
use Rattle.dspec_paths.proofs.paths.Paths.discard_every.Given as goal

abbrev pub invariant-loop-place : goal.invariant-loop-place
invariant-loop-place g l = record {
  same : g.B.SpeculationCalls.identity l.cpu ≡ g.B.SpeculationCalls.identity l.initial.cpu;
  discards : EachOf (DiscardsIfMeant l.whose) l.place (g.B.SpeculationCalls.made l.initial.cpu) (g.B.SpeculationCalls.made l.cpu) (places_of l.initial.self) (places_of l.self);
  counted : ThrownCounted (places_of l.initial.self) (places_of l.self) (counted_in l.initial.self) (counted_in l.self);
}
