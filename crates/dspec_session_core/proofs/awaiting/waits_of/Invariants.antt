use Rattle.dspec_session_core.specs.Words.{known_there, IsConsumerAt, AwaitedSlots}
use Rattle.dspec_session_core.proofs.awaiting.waits_of.Given as goal

-- the slots up to this one were looked at, and those that wait counted
abbrev pub invariant-loop-below : goal.invariant-loop-below
invariant-loop-below l =
    record {
      seat : IsConsumerAt l.words l.seat;
      awaited : AwaitedSlots l.cpu (known_there l.fn.seat) l.below l.count (known_there l.seat);
    }
