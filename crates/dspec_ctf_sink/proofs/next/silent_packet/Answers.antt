use Rattle.std.proofs.{Common.◌≡◌, Common.[], Common.false, lemmas.Result.IfErr-weaker, lemmas.Result.IfOk-weaker}
use Rattle.dspec_ctf_sink.specs.Words.{AreFilledOf, filled_packets, HasNoPacket, Memory}
use Rattle.dspec_ctf_sink.proofs.Silent.{is_silent, only_memory}
use Rattle.dspec_ctf_sink.proofs.next.silent_packet.Goals as goal

pub returns-clause-silent : goal.returns-clause-silent
returns-clause-silent c =
    let s = c.args.stream.now in
    IfOk-weaker c.batch_packets.result (λ bytes. AreFilledOf s.enablings.now s.uuid 0 s.cpu [] bytes.items) (λ bytes. bytes.items ≡ filled_packets false s.enablings.now s.uuid 0 s.cpu [])
    (λ bytes are. is_silent s.enablings.now s.uuid s.cpu bytes.items are) c.batch_packets.ensures.packets

pub returns-clause-fault : goal.returns-clause-fault
returns-clause-fault c =
    let s = c.args.stream.now in
    IfErr-weaker c.batch_packets.result (λ fault. HasNoPacket s.enablings.now 0 0 [] fault) (λ fault. fault ≡ Memory) (only_memory s.enablings.now) c.batch_packets.ensures.fault
