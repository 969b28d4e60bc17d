use Rattle.dspec_ctf_sink.proofs.Tying.{in_vain, refused, taken}
use Rattle.dspec_ctf_sink.proofs.system.add_to.Goals as goal

pub returns-in-Err-clause-refused : goal.returns-in-Err-clause-refused
returns-in-Err-clause-refused c = in_vain c.args.files.now.items c.place_for.new.files.items c.args.name.now c.args.bytes.now c.in-Err.fault c.in-Err.ensures.kept

pub returns-clause-taken : goal.returns-clause-taken
returns-clause-taken c =
    taken c.args.files.now.items c.place_for.new.files.items c.in-Ok.place c.index_mut.result.now c.add.new.self c.args.name.now c.args.bytes.now c.in-Ok.ensures.there c.index_mut.ensures.value
    c.add.ensures.name c.add.ensures.over c.in-Ok.ensures.kept c.add.result c.add.ensures.taken

pub returns-clause-refused : goal.returns-clause-refused
returns-clause-refused c =
    refused c.args.files.now.items c.place_for.new.files.items c.in-Ok.place c.index_mut.result.now c.add.new.self c.args.name.now c.args.bytes.now c.in-Ok.ensures.there c.index_mut.ensures.value
    c.add.ensures.name c.add.ensures.over c.in-Ok.ensures.kept c.add.result c.add.ensures.fault
