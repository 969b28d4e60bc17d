-- Cited by calls. What the four threads leave of a session.
use Rattle.std.specs.Prelude.{ℕ, ◌≡◌, ◌≤◌, ◌+◌, Bool, true, ◌&&◌, List, slice_get, Some}
use Rattle.dspec_session.specs.Demonstrated.{CpuRounds, demonstrated}
use Rattle.dspec_session.specs.Words.Outside.{EnabledRows, offers, calls_of, config_of, Has, IsFresh, IsSession, records_of_report, Deed, Cpu, Session, Left}
use Rattle.dspec_session.specs.declared.demonstration.{four.Four.Four, lines.DemoLine.DemoLine}

-- the parts of one start, with the schema of the demonstration
abbrev pub IsDemonstrated : Session EnabledRows → Type 0
IsDemonstrated session = IsSession demonstrated session

-- each CPU has a list with so many offers, where it had the empty list before
abbrev pub HaveOffered : ℕ → List (Cpu EnabledRows) → Type 0
HaveOffered n cpus = (c : ℕ) (cpu : Cpu EnabledRows) → slice_get cpus c ≡ Some cpu → (p : List Deed) × Has cpu p × (offers c p ≡ n)

-- nothing was asked of any CPU yet
abbrev pub AreFresh : List (Cpu EnabledRows) → Type 0
AreFresh cpus = (c : ℕ) (cpu : Cpu EnabledRows) → slice_get cpus c ≡ Some cpu → IsFresh Has cpu

-- each CPU made a hundred rounds since it was the one at its place among the first
abbrev pub HaveMade : List (Cpu EnabledRows) → List (Cpu EnabledRows) → Type 0
HaveMade olds news = (c : ℕ) (new : Cpu EnabledRows) → slice_get news c ≡ Some new → (old : Cpu EnabledRows) × (slice_get olds c ≡ Some old) × CpuRounds old 100 new

-- each CPU can make all calls of the demonstration
abbrev pub HaveRoom : List (Cpu EnabledRows) → Type 0
HaveRoom cpus = (c : ℕ) (cpu : Cpu EnabledRows) → slice_get cpus c ≡ Some cpu → calls_of cpu + 400 ≤ (config_of cpu).max_calls

-- every worker finished
abbrev pub all_finished : Four (Cpu EnabledRows × Bool) → Bool
all_finished back = back.first.1 && (back.second.1 && (back.third.1 && back.fourth.1))

-- what is left of each CPU tells of so many offers, and each of them has one fate
abbrev pub AllTold : ℕ → List Left → Type 0
AllTold n lefts = (c : ℕ) (l : Left) → slice_get lefts c ≡ Some l → (l.report.offered ≡ n) × (records_of_report l.report ≡ n)

-- each line is of the CPU with the number of its place, of so many offers, and is balanced
abbrev pub AllBalanced : ℕ → List DemoLine → Type 0
AllBalanced n lines = (c : ℕ) (line : DemoLine) → slice_get lines c ≡ Some line → (line.cpu ≡ c) × (line.offered ≡ n) × (line.balanced ≡ true)
