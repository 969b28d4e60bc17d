use Rattle.dspec_threads.specs.Words.{TendsPlace, all_whereabouts}
use Rattle.dspec_threads.proofs.Whereabouts.{at_one, callable_there, there_read}
use Rattle.dspec_threads.proofs.places.tend_at.Goals as goal

pub tend-requires : goal.tend-requires
tend-requires g c = callable_there g.D.Duty.done c.args.shared.now (all_whereabouts c.args.places.now.items) c.args.index _ c.requires.callable
    (there_read c.args.places.now.items c.args.index c.index_mut.result.now c.requires.some c.index_mut.ensures.value)

pub returns : goal.returns
returns g c = at_one (TendsPlace g.D.Duty.done) c.args.places.now.items c.args.index c.index_mut.result.now c.tend.new.self c.requires.some c.index_mut.ensures.value c.tend.ensures
