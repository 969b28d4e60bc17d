use Rattle.std.proofs.Common.{◌≡◌, ◌≤◌, ◌++◌, Some, map, length, option_map}
use Rattle.std.specs.Prelude.{All}
use Rattle.dspec_ctf_reading.specs.Words.{read_events, Fits, as_read, told_layout, after_events}
use Rattle.dspec_ctf_reading.proofs.events.read_events.Given as goal

abbrev pub invariant-loop-rest : goal.invariant-loop-rest
invariant-loop-rest l = record {
  so_far : read_events (told_layout l.metadata) l.body ≡ option_map (λ events. map (as_read (told_layout l.metadata)) l.events.items ++ events) (read_events (told_layout l.metadata) l.rest);
  fit : All (Fits (told_layout l.metadata)) l.events.items;
  reached : after_events (length l.events.items) (told_layout l.metadata) l.body ≡ Some l.rest;
  within : length l.rest ≤ length l.body;
}

abbrev pub decreases-loop-rest : goal.decreases-loop-rest
decreases-loop-rest l = length l.rest
