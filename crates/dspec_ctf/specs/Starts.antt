-- Cited by calls. When a clock was at 0, as a trace says it.
use Rattle.std.specs.Prelude.{ℕ, ◌*◌, ◌/◌, ◌%◌, None}
use Rattle.dspec_ctf.specs.declared.origin.ClockStart.{ClockStart}

-- by the number of ticks in a second, so many nanoseconds after the beginning of 1970
abbrev pub clock_start_at : ℕ → ℕ → ClockStart
clock_start_at hertz nanos =
    record { seconds = nanos / 1_000_000_000; ticks = nanos % 1_000_000_000 * hertz / 1_000_000_000; clock = None }
