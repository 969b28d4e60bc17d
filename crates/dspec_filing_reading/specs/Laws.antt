-- Cited by calls. What the law says.
use Rattle.std.specs.Prelude.{ℕ, ◌≡◌, ◌<◌, ◌+◌, ◌^◌, List, length}
use Rattle.dspec_filing_reading.specs.{Reading.ReadsWritten, Sessions.FilingCall, Sessions.CallsMake, Sessions.packets_of, Sessions.with_last, Words.Outside.EnabledRows, Words.Outside.CpuFiling}
use Rattle.dspec_filing_reading.specs.{Words.Outside.as_written, Words.Outside.no_packets, Words.Outside.Two, Words.Outside.Names}

-- After all calls on the files of a CPU from the first on, where 64 bits were enough for what was missed: the packets that count as written are read as what is
-- known of the files says, and so are these with the one that was handed out last, as if that counted too.
abbrev pub WrittenIsRead : Type 0
WrittenIsRead = (uuid : List ℕ) (e : EnabledRows) (names : Names) (hertz cpu : ℕ) (calls : List FilingCall) (f : CpuFiling)
    → e.header ≡ Two → length uuid ≡ 16 → cpu < 2 ^ 32 → CallsMake (no_packets uuid e cpu) calls f → f.missed + 1 < 2 ^ 64
    → ReadsWritten uuid e names hertz cpu calls ((packets_of calls).written) f × ReadsWritten uuid e names hertz cpu calls (with_last (packets_of calls)) (as_written f)
