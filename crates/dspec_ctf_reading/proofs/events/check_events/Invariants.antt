use Rattle.std.proofs.Common.{◌≡◌, ◌≤◌, ◌+◌, Some, length, option_map}
use Rattle.dspec_ctf_reading.specs.Words.{read_events, told_layout, after_events}
use Rattle.dspec_ctf_reading.proofs.events.check_events.Given as goal

abbrev pub invariant-loop-rest : goal.invariant-loop-rest
invariant-loop-rest l = record {
  so_far : option_map length (read_events (told_layout l.metadata) l.body) ≡ option_map (λ events. l.count + length events) (read_events (told_layout l.metadata) l.rest);
  reached : after_events l.count (told_layout l.metadata) l.body ≡ Some l.rest;
  within : l.count + length l.rest ≤ length l.body;
}

abbrev pub decreases-loop-rest : goal.decreases-loop-rest
decreases-loop-rest l = length l.rest
