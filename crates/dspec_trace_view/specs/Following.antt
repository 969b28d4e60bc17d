-- Cited by calls. When a path of a folder that is being written is told.
use Rattle.std.specs.Prelude.{◌==◌, ◌||◌, if◌then◌else◌, Bool, ℕ, Option, None, Some, false}
use Rattle.dspec_trace_view.specs.declared.following.PathReading.{PathReading}

-- once: when the reading before had as many records of it, or no other reading follows
abbrev pub is_told_now : Option PathReading → ℕ → Bool → Bool
is_told_now None records is_last = is_last
is_told_now (Some before) records is_last = if before.is_told then false else (is_last || before.records == records)
