-- Cited by calls. What is left of the CPUs of a closed session, with their numbers.
use Rattle.std.specs.Prelude.{ℕ, ◌+◌, ◌∷◌, [], List, drop, option_copied}
use Rattle.dspec.specs.{Words.Outside.Left, declared.closing.ClosedCpu.ClosedCpu, declared.each_closed.ClosedCpus.ClosedCpus}

-- a CPU by its number, and what is left of it
pub record LeftOf : Type 0 where
  pub number : ℕ
  pub left : Left

-- these, numbered from there on
abbrev pub lefts_from : ℕ → List Left → List LeftOf
lefts_from n [] = []
lefts_from n (l ∷ ls) = record { number = n; left = l } ∷ lefts_from (n + 1) ls

-- what an iterator still gives
abbrev pub cpus_left : ClosedCpus → List LeftOf
cpus_left s = lefts_from s.next (drop s.next s.closed.now)

-- what a program sees of a closed CPU
abbrev pub left_shown : ClosedCpu → LeftOf
left_shown c = record { number = c.number; left = record { rest = option_copied c.sealed; last = c.last.now; report = c.report.now } }
