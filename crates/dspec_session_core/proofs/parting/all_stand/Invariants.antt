-- Those that came before stand.
use Rattle.std.proofs.Common.{◌≡◌, ℕ, ◌<◌, Some}
use Rattle.std.specs.Prelude.{slice_get}
use Rattle.dspec_session_core.specs.Words.{Cpu, IsSteady}
use Rattle.dspec_session_core.proofs.parting.all_stand.Given as goal

abbrev pub invariant-loop-cpu : goal.invariant-loop-cpu
invariant-loop-cpu g l = (c : ℕ) (cpu : Cpu g.row.S.Denot) → c < l.cpu-index → slice_get l.cpu-items c ≡ Some cpu
    → IsSteady (g.S.Schema.shape_of cpu.schema) (g.S.Schema.accepted cpu.schema) (g.S.Schema.text cpu.schema) cpu
