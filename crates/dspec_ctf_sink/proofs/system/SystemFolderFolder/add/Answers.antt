use Rattle.std.proofs.Common.{ap}
use Rattle.dspec_ctf_sink.specs.declared.file_log.FileLog.{FileLog}
use Rattle.dspec_ctf_sink.proofs.Tying.{tied}
use Rattle.dspec_ctf_sink.proofs.system.SystemFolderFolder.add.Goals as goal

pub invariant_of-self : goal.invariant_of-self
invariant_of-self c = record {
  tied = tied c.args.self.now.files.items c.add_to-answer.new.files.items c.args.self.now.asked.writes c.then-self.result.writes c.args.name.now
      c.args.bytes.now c.add_to-answer.result c.err-refused.result
      c.add_to-answer.ensures.taken c.add_to-answer.ensures.refused c.err-refused.ensures.value (ap (λ (n : FileLog). n.writes) c.then-self.ensures) c.args.self.now.tied;
}
