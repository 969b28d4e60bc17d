-- The step is the play's, by what it sees.
use Rattle.std.proofs.Common.{◌<◌, ◌≤◌, ◌^◌, sym, subst}
use Rattle.dspec_core.specs.Words.{Config, IsSlotPlace, CanBeReleased, history, PlayState, progress_of, state_of, aimed}
use Rattle.dspec_deeds.proofs.SetUp.{set_up}
use Rattle.dspec_interleaving.proofs.StepReads.{can_be_released, slots_fit, steps_fit}
use Rattle.dspec_core.proofs.{Driving.move_comes, Driving.move_leaves, Driving.place_inside, MachineReads.flies}
use Rattle.dspec_core.proofs.machine.Machine.step_cpu.Goals as goal

pub see-seen-requires : goal.see-seen-requires
see-seen-requires g c = record {
  kept = c.requires.kept;
  cpu = c.requires.cpu;
  flight = flies _ _ c.args.self.now c.requires.kept.shown c.args.cpu c.index.result.now _ c.requires.cpu c.index.ensures c.in-Some.is;
}

pub next-step-requires : goal.next-step-requires
next-step-requires g c =
    let m = c.args.self.now in
    let f = c.in-Some.place in
    let at = c.see-seen.ensures.at in
    let coherent = c.requires.kept.coherent in
    let flight = flies _ _ m c.requires.kept.shown c.args.cpu c.index.result.now f c.requires.cpu c.index.ensures c.in-Some.is in
    record {
      word = subst CanBeReleased (sym at.word) (can_be_released m.config (aimed (history m) f).slot (history m) coherent.ranges coherent.legal.0);
      slots = subst (λ (k : Config). (1 ≤ k.nspec) × (k.nspec ≤ 63)) (sym at.config) ((set_up m.config coherent.ranges).1, slots_fit m.config coherent.ranges);
      inside = subst (λ (k : Config). IsSlotPlace k f) (sym at.config) (place_inside c.requires.kept c.args.cpu c.requires.cpu f flight);
    }

pub enter-requires : goal.enter-requires
enter-requires g c =
    let flight = flies _ _ c.args.self.now c.requires.kept.shown c.args.cpu c.index.result.now _ c.requires.cpu c.index.ensures c.in-Some.is in
    record {
      cpu = c.requires.cpu;
      next = move_comes c.requires.kept c.args.cpu c.requires.cpu c.in-Some.place flight c.see-seen.ensures.at c.see-seen.ensures.own c.see-seen.ensures.me c.next-step.result c.next-step.ensures;
    }

pub move_cpu-requires : goal.move_cpu-requires
move_cpu-requires g c =
    let m = c.args.self.now in
    let a = c.args.cpu in
    let entered = c.in_ok-enter.ensures.entered in
    let flight = flies _ _ m c.requires.kept.shown a c.index.result.now _ c.requires.cpu c.index.ensures c.in-Some.is in
    record {
      shown = c.in_ok-enter.ensures.shown;
      cpu = subst (λ (st : PlayState). a < st.config.cpus) (sym entered.state) c.requires.cpu;
      steps = subst (λ (st : PlayState). (progress_of st.progresses a).steps < 2 ^ 31) (sym entered.state)
          (steps_fit (g.S.Schema.shape_of m.schema) (state_of m) c.requires.kept.coherent a c.requires.cpu c.in-Some.place flight);
    }

pub returns : goal.returns
returns g c =
    let flight = flies _ _ c.args.self.now c.requires.kept.shown c.args.cpu c.index.result.now _ c.requires.cpu c.index.ensures c.in-Some.is in
    let left = move_leaves c.requires.kept c.args.cpu c.requires.cpu c.in-Some.place flight c.see-seen.ensures.at c.see-seen.ensures.own c.see-seen.ensures.me c.next-step.result c.next-step.ensures
    c.enter.new.self c.move_cpu.new.self c.in_ok-enter.ensures.entered c.move_cpu.ensures.shown c.move_cpu.ensures.state c.move_cpu.ensures.schema in
    record { kept = left.kept; state = left.state; answered = left.answered; schema = left.schema; refused = tt }
