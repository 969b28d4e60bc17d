-- Cited by calls. The times of stamps.
use Rattle.std.specs.Prelude.{ℕ, ◌+◌, ◌*◌, ◌/◌, ◌==◌, unwrap_or, Option, Some, None, if◌then◌else◌}
use Rattle.dspec_ctf_reading.specs.declared.{folder.clock.Base.Base, told.ClockText.ClockText}
use Rattle.dspec_ctf_reading.specs.declared.folder.clock.Base.TheVariants as base

-- where times are counted from: whole seconds from the beginning of 1970 on, and ticks after them
abbrev pub clock_begin : ClockText → Base → ℕ × ℕ
clock_begin clock base.Epoch = unwrap_or clock.start (0, 0)
clock_begin clock base.Clock = (0, 0)

-- the time of a stamp in whole nanoseconds; none of a clock without ticks
abbrev pub time_of : ClockText → Base → ℕ → Option ℕ
time_of clock from stamp =
    if clock.frequency == 0 then None
    else Some ((clock_begin clock from).0 * 1000000000 + ((clock_begin clock from).1 + stamp) * 1000000000 / clock.frequency)
