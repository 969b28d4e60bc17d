-- Those that came before stand.
use Rattle.std.proofs.Common.{◌≡◌, ℕ, ◌<◌, Some}
use Rattle.std.specs.Prelude.{slice_get}
use Rattle.dspec_threads.specs.Words.{Cpu, IsSteady}
use Rattle.dspec_threads.proofs.running.tell_all.Given as goal

abbrev pub invariant-loop-one : goal.invariant-loop-one
invariant-loop-one g l = (c : ℕ) (cpu : Cpu g.row.S.Denot) → c < l.one-index → slice_get l.one-items c ≡ Some cpu
    → IsSteady (g.S.Schema.shape_of cpu.schema) (g.S.Schema.accepted cpu.schema) (g.S.Schema.text cpu.schema) cpu
