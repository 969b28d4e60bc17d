use Rattle.std.proofs.Common.{◌≡◌, ◌++◌, ◌-◌}
use Rattle.std.specs.List.{flat_map, range_with_len}
use Rattle.dspec_ctf.specs.Words.{packet_at}
use Rattle.dspec_ctf.proofs.by_time.put_packets.Given as goal

abbrev pub invariant-loop-place : goal.invariant-loop-place
invariant-loop-place l =
    l.out.items ++ flat_map (packet_at l.stream.uuid l.stream.enablings.now l.stream.missed l.stream.cpu l.recs l.count) (range_with_len l.place (l.count - l.place))
    ≡ l.initial.out.items ++ flat_map (packet_at l.stream.uuid l.stream.enablings.now l.stream.missed l.stream.cpu l.recs l.count) (range_with_len 0 l.count)
