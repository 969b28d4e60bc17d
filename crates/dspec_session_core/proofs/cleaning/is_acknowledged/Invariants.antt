use Rattle.dspec_session_core.specs.Words.{known_there, IsConsumerAt, Acknowledged}
use Rattle.dspec_session_core.proofs.cleaning.is_acknowledged.Given as goal

-- every CPU below this one has acknowledged
abbrev pub invariant-loop-cpu : goal.invariant-loop-cpu
invariant-loop-cpu l =
    record {
      seat : IsConsumerAt l.words l.seat;
      acked : Acknowledged l.slot l.issue (known_there l.fn.seat) l.cpu (known_there l.seat);
    }
