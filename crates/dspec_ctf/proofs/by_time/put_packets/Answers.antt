use Rattle.std.proofs.Common.{◌++◌}
use Rattle.std.specs.List.{flat_map, range_with_len}
use Rattle.dspec_ctf.specs.Words.{packet_at}
use Rattle.dspec_ctf.proofs.Ranges.{range-piece}
use Rattle.dspec_ctf.proofs.by_time.put_packets.Goals as goal

pub loop-place-preserved : goal.loop-place-preserved
loop-place-preserved c =
    let s = c.args.stream.now in
    let n = c.packet_count-count.result in
    let f = packet_at s.uuid s.enablings.now s.missed s.cpu c.args.recs.now n in
    range-piece f c.loop-place.place n c.loop-place.out.items c.put_packet.new.out.items
    (c.args.out.now.items ++ flat_map f (range_with_len 0 n))
    c.loop-place-test.true c.loop-place.invariant c.in_ok-put_packet.ensures
