use Rattle.std.proofs.Common.{◌≡◌, take, string_bytes}
use Rattle.specplay.specs.Words.{lines_text}
use Rattle.specplay.proofs.threads.text_of.Given as goal

abbrev pub invariant-loop-line : goal.invariant-loop-line
invariant-loop-line l = string_bytes l.text ≡ lines_text (take l.line-index l.lines)
