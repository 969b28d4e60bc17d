-- Cited by calls. What the demonstration prints: a line for each CPU.
use Rattle.std.specs.{Io.KnownBytes.Appends, List.flat_map, Prelude.ℕ, Prelude.◌≡◌, Prelude.List, Prelude.◌++◌, Prelude.length, Prelude.Option, Prelude.codes, Prelude.decimal}
use Rattle.specplay.specs.{Words.Outside.DemoLine, Words.Outside.AllBalanced, Words.Outside.yes_no, Written.AppendsBeginning}

-- the line of a CPU
abbrev pub line_text : DemoLine → List ℕ
line_text line = codes "cpu " ++ decimal line.cpu ++ codes " offered " ++ decimal line.offered
    ++ codes " balanced " ++ yes_no line.balanced ++ codes " ordered " ++ yes_no line.ordered ++ codes "\n"

abbrev pub lines_text : List DemoLine → List ℕ
lines_text lines = flat_map line_text lines

-- four lines, each of which tells of 200 offered records that are balanced
pub record AreBalancedLines (lines : List DemoLine) : Type 0 where
  pub four : length lines ≡ 4
  pub balanced : AllBalanced 200 lines

-- the lines that the demonstration answered were written, one after the other
abbrev pub Printed : Option (List ℕ) → Option (List ℕ) → Type 0
Printed old new = (lines : List DemoLine) × AreBalancedLines lines × Appends old new (lines_text lines)

-- they were written as far as to some place
abbrev pub CutOff : Option (List ℕ) → Option (List ℕ) → Type 0
CutOff old new = (lines : List DemoLine) × AreBalancedLines lines × AppendsBeginning old new (lines_text lines)
