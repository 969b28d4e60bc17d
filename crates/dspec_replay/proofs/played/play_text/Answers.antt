-- A play is that of the schedule, whichever schema it is over.
use Rattle.std.proofs.Common.{rules}
use Rattle.dspec_replay.proofs.played.play_text.Goals.{in-Some-default, in-None-One, in-None-Two}
use Rattle.dspec_replay.proofs.played.play_text.Goals as goal

pub returns-in-Ok-clause-played : goal.returns-in-Ok-clause-played
returns-in-Ok-clause-played c = elim c.match-schedule.branch [
  | in-Some-default w ↦ search rules
  | in-None-One w ↦ search rules
  | in-None-Two w ↦ search rules
]
