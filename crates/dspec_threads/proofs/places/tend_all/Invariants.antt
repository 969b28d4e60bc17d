-- Each place so far was tended.
use Rattle.dspec_threads.specs.Words.{TendsPlace, all_whereabouts}
use Rattle.dspec_threads.proofs.Pairs.{EachTo}
use Rattle.dspec_threads.proofs.places.tend_all.Given as goal

abbrev pub invariant-loop-index : goal.invariant-loop-index
invariant-loop-index g l = EachTo (TendsPlace g.D.Duty.done) (all_whereabouts l.fn.places.items) (all_whereabouts l.places.items) l.index
