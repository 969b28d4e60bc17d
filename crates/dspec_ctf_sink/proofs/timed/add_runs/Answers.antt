use Rattle.dspec_ctf_sink.proofs.Following.{adds-more, stops-first, stops-more}
use Rattle.dspec_ctf_sink.proofs.timed.add_runs.Goals as goal

pub loop-place-preserved : goal.loop-place-preserved
loop-place-preserved g c =
    let s = c.args.stream.now in
    let rs = c.args.records.now in
    let old = g.F.Folder.written c.loop-place.folder in
    let at = g.F.Folder.written c.add_run.new.folder in
    let one = c.in-Ok.ensures.added in
    record {
      within = one.is_run.within;
      adds = λ after new more. c.loop-place.invariant.adds after new
          (adds-more s.uuid s.enablings.now s.missed s.cpu rs c.loop-place.place c.in-Ok.end c.loop-place.rows c.add_run.new.rows after old at new one more);
      stops = λ after new loss more. c.loop-place.invariant.stops after new loss
          (stops-more s.uuid s.enablings.now s.missed s.cpu rs c.loop-place.place c.in-Ok.end c.loop-place.rows c.add_run.new.rows after old at new loss one more);
    }

pub returns-in-Err-clause-stopped : goal.returns-in-Err-clause-stopped
returns-in-Err-clause-stopped g c =
    let s = c.args.stream.now in
    let rs = c.args.records.now in
    let old = g.F.Folder.written c.loop-place.folder in
    let new = g.F.Folder.written c.add_run.new.folder in
    c.loop-place.invariant.stops c.add_run.new.rows new c.in-Err.loss
    (stops-first s.uuid s.enablings.now s.missed s.cpu rs c.loop-place.place c.loop-place.rows c.add_run.new.rows old new c.in-Err.loss c.in-Err.ensures.stopped)
