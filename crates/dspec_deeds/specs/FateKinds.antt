-- Believed. Which kind a fate is of, and how many records a decision was about.
use Rattle.std.specs.Prelude.{ℕ, Bool, true, false}
use Rattle.dspec_deeds.specs.declared.deed.{DecideFate.DecideFate, SpeculateFate.SpeculateFate, TraceFate.TraceFate}
use Rattle.dspec_deeds.specs.declared.deed.TraceFate.TheVariants as traced
use Rattle.dspec_deeds.specs.declared.deed.SpeculateFate.TheVariants as spoken
use Rattle.dspec_deeds.specs.declared.deed.DecideFate.TheVariants as decided

abbrev pub trace_stopped : TraceFate → Bool
trace_stopped traced.Stopped = true
trace_stopped f = false

abbrev pub trace_kept : TraceFate → Bool
trace_kept traced.Kept = true
trace_kept f = false

abbrev pub trace_dropped : TraceFate → Bool
trace_dropped traced.Dropped = true
trace_dropped f = false

abbrev pub spoken_stopped : SpeculateFate → Bool
spoken_stopped spoken.Stopped = true
spoken_stopped f = false

-- the CPU is a caller from then on
abbrev pub spoken_granted : SpeculateFate → Bool
spoken_granted spoken.Kept = true
spoken_granted spoken.Dropped = true
spoken_granted f = false

abbrev pub spoken_kept : SpeculateFate → Bool
spoken_kept spoken.Kept = true
spoken_kept f = false

abbrev pub spoken_dropped : SpeculateFate → Bool
spoken_dropped spoken.Dropped = true
spoken_dropped f = false

-- void or stopped
abbrev pub spoken_nowhere : SpeculateFate → Bool
spoken_nowhere spoken.Void = true
spoken_nowhere spoken.Stopped = true
spoken_nowhere f = false

abbrev pub decided_stopped : DecideFate → Bool
decided_stopped decided.Stopped = true
decided_stopped f = false

-- a commit that decides: copied or lost
abbrev pub is_commit : DecideFate → Bool
is_commit (decided.Copied n) = true
is_commit (decided.Lost n) = true
is_commit f = false

-- a discard that decides
abbrev pub is_discard : DecideFate → Bool
is_discard (decided.Thrown n) = true
is_discard f = false

abbrev pub is_copied : DecideFate → Bool
is_copied (decided.Copied n) = true
is_copied f = false

abbrev pub is_lost : DecideFate → Bool
is_lost (decided.Lost n) = true
is_lost f = false

-- how many records the decision was about
abbrev pub count_of : DecideFate → ℕ
count_of (decided.Copied n) = n
count_of (decided.Lost n) = n
count_of (decided.Thrown n) = n
count_of f = 0
