use Rattle.std.specs.Prelude.{Some}
use Rattle.dspec_ctf_sink.proofs.Batching.{loses-batch}
use Rattle.dspec_ctf_sink.proofs.timed.TimedFolderSinkEnablings.batch.Goals as goal

pub returns : goal.returns
returns g c =
    let inside = c.self.inside in
    loses-batch c.args.schema.now inside.uuid inside.missed inside.told inside.rows.items (g.F.Folder.written inside.folder) inside.lost inside.last
    c.miss.new.missed (Some c.with_loss.result) c.args.self.now c.add.new.self c.args.batch.now c.in-Err.loss c.self.view_is c.in-Err.ensures.why
    c.in-Err.ensures.uuid c.in-Err.ensures.uncounted.0 c.in-Err.ensures.uncounted.1 c.miss.ensures c.with_loss.ensures
