use Rattle.std.proofs.Common.{◌≡◌, ℕ, List, length}
use Rattle.dspec_session_core.specs.Words.{known_there, IsConsumerAt, CleanedSlots}
use Rattle.dspec_session_core.proofs.cleaning.clean_slots.Given as goal

-- the slots up to this one were cleaned, and the released ones counted
abbrev pub invariant-loop-below : goal.invariant-loop-below
invariant-loop-below l =
    record {
      seat : IsConsumerAt l.words l.seat;
      cleaned : (slots : List ℕ) × CleanedSlots l.config (known_there l.fn.seat) l.below slots (known_there l.seat) × (l.released ≡ length slots);
    }
