-- The session is still one, with all its CPUs, and the turns so far were played.
use Rattle.std.proofs.Common.{◌≡◌, length}
use Rattle.dspec_replay.specs.Words.{IsSession}
use Rattle.dspec_replay.proofs.Refusals.{IsSoFar}
use Rattle.dspec_replay.proofs.replaying.replay.Given as goal

abbrev pub invariant-loop-number : goal.invariant-loop-number
invariant-loop-number g l =
    IsSession l.playing.schema l.playing.session
    × IsSoFar (g.S.Schema.accepted l.fn.schema) l.config l.turns l.number l.playing.answers
    × (l.playing.schema ≡ l.fn.schema)
    × (length l.playing.session.cpus.items ≡ l.config.cpus)
