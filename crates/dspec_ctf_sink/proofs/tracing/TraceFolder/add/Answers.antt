use Rattle.std.proofs.{Common.length, Common.refl, Common.rules, lemmas.Option.slice_get_read}
use Rattle.dspec_ctf_sink.proofs.Handing.{adds, refuses}
use Rattle.dspec_ctf_sink.proofs.tracing.TraceFolder.add.Goals as goal

pub returns-in-Err-add-clause-why : goal.returns-in-Err-add-clause-why
returns-in-Err-add-clause-why g c =
    let missed = c.self.inside.missed in
    let at = c.in-Some.ensures.lookup in
    let there = slice_get_read missed (length missed) c.args.batch.now.cpu c.in-Some.missed.now refl at.3.0 at.1 in
    refuses c.args.schema.now c.self.inside.uuid missed c.self.inside.told (g.F.Folder.written c.self.inside.folder) (g.F.Folder.written c.add.new.self)
    c.self.inside.lost c.self.inside.last c.args.self.now c.args.batch.now c.in-Some.missed.now c.next_packets.new.stream.missed
    c.as_str.result.now c.as_slice.result.now c.in-Ok.packets.items c.in-Err-add.fault
    c.self.view_is there c.in-Ok.ensures.counted (search rules) c.as_slice.ensures.value (search rules) c.in-Err-add.ensures.refused

pub returns-clause-added : goal.returns-clause-added
returns-clause-added g c =
    let missed = c.self.inside.missed in
    let at = c.in-Some.ensures.lookup in
    let there = slice_get_read missed (length missed) c.args.batch.now.cpu c.in-Some.missed.now refl at.3.0 at.1 in
    adds c.args.schema.now c.self.inside.uuid missed c.self.inside.told (g.F.Folder.written c.self.inside.folder) (g.F.Folder.written c.add.new.self)
    c.self.inside.lost c.self.inside.last c.args.self.now c.args.batch.now c.in-Some.missed.now c.next_packets.new.stream.missed c.as_str.result.now c.as_slice.result.now c.in-Ok.packets.items
    c.self.view_is there c.in-Ok.ensures.counted (search rules) c.as_slice.ensures.value (search rules) c.in_default-add.ensures.taken
