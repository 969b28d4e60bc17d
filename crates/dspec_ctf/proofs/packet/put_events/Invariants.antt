use Rattle.std.proofs.Common.{◌≡◌, ◌≤◌, ◌*◌, ◌++◌, take, length}
use Rattle.dspec_ctf.specs.Words.{events}
use Rattle.dspec_ctf.proofs.packet.put_events.Given as goal

abbrev pub invariant-loop-rec : goal.invariant-loop-rec
invariant-loop-rec l = record {
  bytes : l.out.items ≡ l.initial.out.items ++ events l.enablings (take l.rec-index l.recs);
  small : length (events l.enablings (take l.rec-index l.recs)) ≤ 76 * l.rec-index;
}
