use Rattle.std.proofs.{Common.◌<◌, Common.length, Common.get_or, Common.refl, Common.rules, lemmas.Option.slice_get_read, lemmas.Option.slice_get-get_or}
use Rattle.dspec_ctf_sink.proofs.Batching.{adds-batch, loses-some}
use Rattle.dspec_ctf_sink.proofs.timed.TimedFolder.add.Goals as goal

pub returns-in-Err-clause-why : goal.returns-in-Err-clause-why
returns-in-Err-clause-why g c =
    let missed = c.self.inside.missed in
    let told = c.self.inside.told in
    let lasts = c.self.inside.rows.items in
    let cpu = c.args.batch.now.cpu in
    let known = c.index_mut-rows.result.now in
    let at = c.in-Some.ensures.lookup in
    let there = slice_get_read missed (length missed) cpu c.in-Some.missed.now refl at.3.0 at.1 in
    let below : cpu < length lasts = search rules in
    let here = slice_get_read lasts (length lasts) cpu known refl below c.index_mut-rows.ensures.value in
    let within : cpu < length told = search rules in
    let is_told = slice_get-get_or told cpu 0 within in
    loses-some c.args.schema.now c.self.inside.uuid missed told lasts (g.F.Folder.written c.self.inside.folder) c.self.inside.lost c.self.inside.last
    c.args.self.now c.args.batch.now c.self.view_is c.in-Some.missed.now (get_or told cpu 0) known there is_told here
    c.add_batch.new.told c.add_batch.new.rows (g.F.Folder.written c.add_batch.new.folder) c.in-Err.loss c.in-Err.ensures.lost

pub returns-clause-added : goal.returns-clause-added
returns-clause-added g c =
    let missed = c.self.inside.missed in
    let told = c.self.inside.told in
    let lasts = c.self.inside.rows.items in
    let cpu = c.args.batch.now.cpu in
    let known = c.index_mut-rows.result.now in
    let at = c.in-Some.ensures.lookup in
    let there = slice_get_read missed (length missed) cpu c.in-Some.missed.now refl at.3.0 at.1 in
    let below : cpu < length lasts = search rules in
    let here = slice_get_read lasts (length lasts) cpu known refl below c.index_mut-rows.ensures.value in
    let within : cpu < length told = search rules in
    let is_told = slice_get-get_or told cpu 0 within in
    adds-batch c.args.schema.now c.self.inside.uuid missed told lasts (g.F.Folder.written c.self.inside.folder) c.self.inside.lost c.self.inside.last
    c.args.self.now c.args.batch.now c.self.view_is c.in-Some.missed.now (get_or told cpu 0) known there is_told here
    c.add_batch.new.told c.add_batch.new.rows (g.F.Folder.written c.add_batch.new.folder) c.in-Ok.total c.in-Ok.ensures.counted c.in-Ok.ensures.added
