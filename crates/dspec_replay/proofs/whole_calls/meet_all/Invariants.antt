-- It is still a session, of as many CPUs.
use Rattle.std.proofs.Common.{◌≡◌, length}
use Rattle.dspec_replay.specs.Words.{IsSession}
use Rattle.dspec_replay.proofs.whole_calls.meet_all.Given as goal

abbrev pub invariant-loop-place : goal.invariant-loop-place
invariant-loop-place g l = IsSession l.fn._schema l.session × (length l.session.cpus.items ≡ l.place-end)
