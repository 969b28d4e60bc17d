use Rattle.dspec_ctf_sink.proofs.Tying.{made}
use Rattle.dspec_ctf_sink.proofs.system.make_place.Goals as goal

pub returns-clause-kept : goal.returns-clause-kept
returns-clause-kept c =
    made c.args.files.now.items c.reserve.new.self.items c.push.new.self.items c.new.result _ _ c.args.name.now c.in_ok-reserve.ensures.items c.in_ok-push.ensures.items
    c.new.ensures c.in_ok-file.ensures.empty c.in_ok-name.ensures.ok c.requires
