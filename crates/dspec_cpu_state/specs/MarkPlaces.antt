-- Serves proofs. Marks as contracts see them, and where `Marks` holds them.
use Rattle.std.specs.Prelude.{◌≡◌, ◌≤◌, ◌<◌, ℕ, List, length, take, drop, get_or}
use Rattle.dspec_cpu_state.specs.declared.marks.Marks.TheInside.{Inside}

-- the slots' marks in their order; slots are numbered from 1, so none stands at the first place
abbrev pub marks_of : Inside → List ℕ
marks_of m = take m.count (drop 1 m.held)

-- there are 64 places, and 0 stands at the first one and after the slots
pub record AreMarks (m : Inside) : Type 0 where
  pub places : length m.held ≡ 64
  pub few : m.count ≤ 63
  pub first : get_or m.held 0 0 ≡ 0
  pub rest : (s : ℕ) → m.count < s → get_or m.held s 0 ≡ 0
