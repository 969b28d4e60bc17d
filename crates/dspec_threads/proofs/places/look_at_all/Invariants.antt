-- Each place so far was looked at: all are inside, or one isn't.
use Rattle.std.specs.Prelude.{MatchBool}
use Rattle.dspec_threads.specs.Words.{ComesIn, all_whereabouts}
use Rattle.dspec_threads.proofs.{Pairs.EachTo, Whereabouts.InTo, Whereabouts.OutTo}
use Rattle.dspec_threads.proofs.places.look_at_all.Given as goal

abbrev pub invariant-loop-index : goal.invariant-loop-index
invariant-loop-index g l = record {
  looked : EachTo (ComesIn g.D.Duty.done) (all_whereabouts l.fn.places.items) (all_whereabouts l.places.items) l.index;
  inside : MatchBool l.all (InTo (all_whereabouts l.places.items) l.index) (OutTo (all_whereabouts l.places.items) l.index);
}
