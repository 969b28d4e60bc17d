use Rattle.std.proofs.{Common.arith, lemmas.List.length-map}
use Rattle.dspec_threads.specs.Words.{TendsPlace, whereabouts}
use Rattle.dspec_threads.proofs.{Pairs.all_of_them, Pairs.none_yet, Pairs.one_more_pair, Whereabouts.placed_so_far}
use Rattle.dspec_threads.proofs.places.tend_all.Goals as goal

pub loop-index-init : goal.loop-index-init
loop-index-init g c = none_yet (TendsPlace g.D.Duty.done) _

pub tend_at-requires-clause-callable : goal.tend_at-requires-clause-callable
tend_at-requires-clause-callable g c = placed_so_far g.D.Duty.done (TendsPlace g.D.Duty.done) (λ v w is. is.keeps) c.args.shared.now _ _ _ c.loop-index.invariant c.requires

pub loop-index-preserved : goal.loop-index-preserved
loop-index-preserved g c = one_more_pair (TendsPlace g.D.Duty.done) _ _ _ _ c.loop-index.invariant c.tend_at.ensures

pub returns : goal.returns
returns g c = all_of_them (TendsPlace g.D.Duty.done) _ _ _ c.loop-index.invariant (omega (arith, length-map c.args.places.now.items whereabouts))
