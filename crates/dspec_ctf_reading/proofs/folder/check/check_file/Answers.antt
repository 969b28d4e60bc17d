use Rattle.std.proofs.Common.{◌<◌, List, ℕ, length, rules, sym, subst}
use Rattle.dspec_ctf_reading.specs.Words.{Layout, PacketRead, told_layout, IsSoundFrom, packet_as_read}
use Rattle.dspec_ctf_reading.proofs.Folders.Checking.{sound-back, sound-step}
use Rattle.dspec_ctf_reading.proofs.folder.check.check_file.Goals as goal

pub loop-rest-preserved : goal.loop-rest-preserved
loop-rest-preserved c =
    let layout : Layout = told_layout c.args.metadata.now in
    let uuid : List ℕ = c.args.whose.now.uuid in
    let cpu : ℕ = c.args.whose.now.cpu in
    let rest : List ℕ = c.loop-rest.rest.now in
    let some : 0 < length rest = search rules in
    let packet : PacketRead = packet_as_read layout c.in-Ok.packet in
    let after : List ℕ = c.in-Ok.packet.after.now in
    let rises = c.in-Ok-see_times.ensures.rises in
    record {
      on = λ sound.
          let back = sound-back layout uuid cpu c.loop-rest.last rest after packet some c.in-Ok.ensures.read (c.loop-rest.invariant.on sound) in
          subst (λ n. IsSoundFrom layout uuid cpu n after) (sym rises.1) back.sound;
      back = λ sound.
          c.loop-rest.invariant.back (sound-step layout uuid cpu c.loop-rest.last rest after packet some c.in-Ok.ensures.read
          c.in-Ok-see_whose.ensures.same.0 c.in-Ok-see_whose.ensures.same.1 rises.0 (subst (λ n. IsSoundFrom layout uuid cpu n after) rises.1 sound));
    }

pub returns-in-Err-see_whose-clause-told : goal.returns-in-Err-see_whose-clause-told
returns-in-Err-see_whose-clause-told c =
    let layout : Layout = told_layout c.args.metadata.now in
    let some : 0 < length c.loop-rest.rest.now = search rules in
    λ _ sound.
    let back = sound-back layout c.args.whose.now.uuid c.args.whose.now.cpu c.loop-rest.last c.loop-rest.rest.now c.in-Ok.packet.after.now (packet_as_read layout c.in-Ok.packet) some
    c.in-Ok.ensures.read (c.loop-rest.invariant.on sound) in
    c.in-Err-see_whose.ensures.other (back.of_uuid, back.of_cpu)

pub returns-in-Err-see_times-clause-told : goal.returns-in-Err-see_times-clause-told
returns-in-Err-see_times-clause-told c =
    let layout : Layout = told_layout c.args.metadata.now in
    let some : 0 < length c.loop-rest.rest.now = search rules in
    λ _ sound.
    let back = sound-back layout c.args.whose.now.uuid c.args.whose.now.cpu c.loop-rest.last c.loop-rest.rest.now c.in-Ok.packet.after.now (packet_as_read layout c.in-Ok.packet) some
    c.in-Ok.ensures.read (c.loop-rest.invariant.on sound) in
    c.in-Err-see_times.ensures.falls back.rises
