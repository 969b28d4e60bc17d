-- Those that came before stand.
use Rattle.std.proofs.Common.{◌≡◌, ℕ, ◌<◌, Some}
use Rattle.std.specs.Prelude.{slice_get}
use Rattle.dspec.specs.Words.{Cpu, IsSteady}
use Rattle.dspec.proofs.running.all_stand.Given as goal

abbrev pub invariant-loop-each : goal.invariant-loop-each
invariant-loop-each g l = (c : ℕ) (cpu : Cpu g.row.S.Denot) → c < l.each-index → slice_get l.each-items c ≡ Some cpu
    → IsSteady (g.S.Schema.shape_of cpu.schema) (g.S.Schema.accepted cpu.schema) (g.S.Schema.text cpu.schema) cpu
