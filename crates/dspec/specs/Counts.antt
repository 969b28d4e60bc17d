-- Cited by calls. What the system's clock counts.
use Rattle.std.specs.{Prelude.ℕ, Prelude.◌-◌, Prelude.◌^◌, Prelude.min, Time.instant_nanos, declared.time.SystemTime.SystemTime}
use Rattle.dspec.specs.declared.system.SystemClock.{SystemClock}

-- the reading at which it started, in nanoseconds
abbrev pub start_of : {R : Type 0} → SystemClock R → ℕ
start_of c = instant_nanos c.start

-- the time of day at which it started
abbrev pub time_of_start : {R : Type 0} → SystemClock R → SystemTime
time_of_start c = c.started_at

-- nanoseconds from a start to a reading, as many as a stamp can say
abbrev pub count_at : ℕ → ℕ → ℕ
count_at start reading = min (reading - start) (2 ^ 64 - 1)
