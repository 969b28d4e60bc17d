-- The CPU's progress, and its count of worn calls in both places.
use Rattle.std.proofs.Common.{◌≡◌, ◌<◌, ◌^◌, refl, sym, ap, ◌∙◌, arith}
use Rattle.dspec_core.specs.Words.{history, moved_by, steps_after}
use Rattle.dspec_core.proofs.{KeptCpus.moving, MachineReads.cpu_read, Makings.moves_state, Makings.puts_shown, machine.Machine.move_cpu.Goals.in-Some, machine.Machine.move_cpu.Goals.in-None}
use Rattle.dspec_core.proofs.machine.Machine.move_cpu.Goals as goal

pub returns : goal.returns
returns g c =
    let m = c.args.self.now in
    let own = c.index_mut-own.result.now in
    let is = c.index_mut-own.ensures.value in
    let few : c.args.step.worn < 2 ^ 64 = omega arith in
    let after = steps_after own.progress.steps in
    let counted : c.match-step.own ≡ after c.args.step.flight = elim c.match-step.branch [
      | in-Some w ↦ w.own-is ∙ ap after (sym w.in-Some.is)
      | in-None w ↦ w.own-is ∙ ap after (sym w.in-None.is)
    ] in
    record {
      shown = puts_shown c.requires.shown c.requires.cpu is
          (moving _ _ m.schema m.config c.args.cpu (history m) own (cpu_read _ _ m c.requires.shown c.args.cpu own c.requires.cpu is) _ _ refl refl few);
      state = moves_state c.requires.shown c.requires.cpu is _ (moved_by c.args.step)
          (ap (λ n. record own.progress { flight = c.args.step.flight; steps = n; spare = c.args.step.spare; worn = c.args.step.worn }) counted);
      schema = refl;
    }
