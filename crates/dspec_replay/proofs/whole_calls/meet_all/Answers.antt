use Rattle.std.proofs.Common.{◌∙◌, length-set, refl, arith}
use Rattle.dspec_session_core.proofs.Callings.{cpu_there, met_there}
use Rattle.dspec_replay.proofs.whole_calls.meet_all.Goals as goal

pub meet-requires-clause-of : goal.meet-requires-clause-of
meet-requires-clause-of g c =
    let n = c.loop-place.invariant.1 in
    let inside = c.loop-place-test.true in
    (cpu_there _ c.loop-place.session c.loop-place.place c.index_mut.result.now c.loop-place.invariant.0 (omega arith) c.index_mut.ensures.value).belongs

pub loop-place-preserved : goal.loop-place-preserved
loop-place-preserved g c =
    let n = c.loop-place.invariant.1 in
    let inside = c.loop-place-test.true in (
      met_there _ c.loop-place.session _ c.loop-place.place c.index_mut.result.now c.meet.new.cpu c.loop-place.invariant.0 (omega arith) c.index_mut.ensures.value
          c.meet.ensures.same_cpu.0 c.meet.ensures.session c.meet.ensures.same.pairs refl refl,
      length-set c.loop-place.session.cpus.items c.loop-place.place c.meet.new.cpu ∙ n,
    )
