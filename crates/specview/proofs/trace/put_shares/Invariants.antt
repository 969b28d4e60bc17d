use Rattle.std.proofs.Common.{◌≡◌, ◌+◌, ◌++◌, map, drop}
use Rattle.specview.specs.Words.{shown_share, packets_following, refused_in}
use Rattle.specview.proofs.trace.put_shares.Given as goal

abbrev pub invariant-loop-share : goal.invariant-loop-share
invariant-loop-share l = record {
  uuid : l.stream.uuid ≡ l.initial.stream.uuid;
  events : l.stream.enablings ≡ l.initial.stream.enablings;
  cpu : l.stream.cpu ≡ l.initial.stream.cpu;
  ahead : l.bytes.items ++ packets_following l.initial.stream.uuid l.initial.stream.enablings.now l.initial.stream.cpu l.stream.missed (map shown_share (drop l.share-index l.shares))
      ≡ packets_following l.initial.stream.uuid l.initial.stream.enablings.now l.initial.stream.cpu l.initial.stream.missed (map shown_share l.shares);
  counted : l.stream.missed + refused_in (map shown_share (drop l.share-index l.shares)) ≡ l.initial.stream.missed + refused_in (map shown_share l.shares);
}
