use Rattle.std.proofs.Common.{◌≡◌, ◌∙◌, ◌&&◌, sym, ap}
use Rattle.std.specs.Prelude.{nat_lt}
use Rattle.dspec_cpu_state.specs.{Words.full, declared.counts.Counts.Counts}
use Rattle.dspec_deeds.proofs.FullBuffers.{full_counted}
use Rattle.dspec_cpu_state.proofs.cpu_state.CpuState.is_closed.Goals as goal

pub returns-then-is_fill : goal.returns-then-is_fill
returns-then-is_fill g c = λ cpu worn p counts_are.
    let counted : nat_lt 0 c.args.self.now.counts.drops ≡ full cpu p = ap (λ (n : Counts). nat_lt 0 n.drops) counts_are ∙ sym (full_counted cpu p) in
    counted ∙ ap (λ b. b && full cpu p) (sym c.if-is_fill.true ∙ c.is_fill.ensures)
