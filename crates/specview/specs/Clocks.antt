-- Cited by calls. What readers of a trace by time take: of a clock the frequency, and of a stamp the time that it tells.
use Rattle.std.specs.{List.list_any, Prelude.◌≡◌, Prelude.ℕ, Prelude.◌*◌, Prelude.◌<◌, Prelude.Bool, Prelude.true, Prelude.false, Prelude.nat_le, Prelude.List}
use Rattle.specview.specs.Words.Outside.{Record, Form, AsTaken, ByTime}
use Rattle.specview.specs.declared.fault.ViewFault.{ViewFault, TheVariants.GreatestFrequency, TheVariants.LateStamp}

-- by its stamp and a clock of that frequency, a record is so many seconds late that their nanoseconds need more than 63 bits
abbrev pub is_late : ℕ → Record → Bool
is_late hertz r = nat_le (9223372036 * hertz) r.stamp

-- a CPU accepted such a record
abbrev pub has_late : ℕ → List (List Record) → Bool
has_late hertz rss = list_any (λ rs. list_any (is_late hertz) rs) rss

-- readers take the clock, and each stamp of what the CPUs accepted
abbrev pub IsTakenByReaders : Form → List (List Record) → Type 0
IsTakenByReaders AsTaken rss = Unit {0}
IsTakenByReaders (ByTime hertz) rss = (hertz < 18446744073709551615) × (has_late hertz rss ≡ false)

-- why they don't
abbrev pub IsClockFault : Form → List (List Record) → ViewFault → Type 0
IsClockFault (ByTime hertz) rss GreatestFrequency = hertz ≡ 18446744073709551615
IsClockFault (ByTime hertz) rss LateStamp = has_late hertz rss ≡ true
IsClockFault form rss fault = ⊥
