use Rattle.std.proofs.Common.{◌≡◌, ◌≢◌, ◌<◌, Some, ap, sym, ◌∙◌, subst}
use Rattle.dspec_core.specs.Words.{most_steps, PlayState, IsPlayingAt, to_end, WorldView}
use Rattle.dspec_interleaving.specs.declared.refusal.StepFault.TheVariants as step_failure
use Rattle.dspec_interleaving.proofs.PlayerMoves.{runs_idle}
use Rattle.dspec_core.proofs.{PlayerSteps.idle_there, PlayerSteps.more_runs, player.run_actor.Goals.in-Cpu, player.run_actor.Goals.in-Consumer}
use Rattle.dspec_core.proofs.player.run_actor.Goals as goal

pub loop-preserved : goal.loop-preserved
loop-preserved g c = (
  more_runs g.S.Schema.shape_of _ _ c.args.actor _ c.loop.counter _ _ c.loop.world.state _ c.loop.answers _ c.loop.invariant.1
      (subst (λ n. c.loop.counter < n) (elim c.match-actor.branch [
        | in-Cpu w ↦ w.most-is ∙ ap (most_steps c.args.config.now) (sym w.in-Cpu.is)
        | in-Consumer w ↦ w.most-is ∙ ap (most_steps c.args.config.now) (sym w.in-Consumer.is)
      ]) c.loop-test.true) c.in-Ok.ensures.allowed c.in-Ok.ensures.stepped c.loop.invariant.0,
  c.step_actor.ensures.schema ∙ c.loop.invariant.1,
  c.step_actor.ensures.config ∙ c.loop.invariant.2,
  c.step_actor.ensures.promised,
)

pub returns-then-ended-clause-ran : goal.returns-then-ended-clause-ran
returns-then-ended-clause-ran g c = λ p at.
    let shape = g.S.Schema.shape_of c.args.world.now.schema in
    let total = most_steps c.args.config.now c.args.actor in
    let most : c.match-actor.most ≡ total = elim c.match-actor.branch [
      | in-Cpu w ↦ w.most-is ∙ ap (most_steps c.args.config.now) (sym w.in-Cpu.is)
      | in-Consumer w ↦ w.most-is ∙ ap (most_steps c.args.config.now) (sym w.in-Consumer.is)
    ] in
    let runs = more_runs g.S.Schema.shape_of _ _ c.args.actor total c.loop.counter _ _ c.loop.world.state _ c.loop.answers _ c.loop.invariant.1
    (subst (λ n. c.loop.counter < n) most c.loop-test.true) c.in-Ok.ensures.allowed c.in-Ok.ensures.stepped c.loop.invariant.0 in
    subst (λ k. IsPlayingAt c.step_actor.new.world.state c.step_actor.new.answers (to_end shape (most_steps k c.args.actor) c.args.actor p))
    (sym c.requires.config ∙ ap (λ (s : PlayState). s.config) at.state)
    (runs_idle shape c.args.actor total _ _ _ c.step_actor.new.world.state c.step_actor.new.answers (c.in-Ok.ensures.ended c.if-ended.true) runs p at)

pub returns-in-Err-IdleStep-clause-ran : goal.returns-in-Err-IdleStep-clause-ran
returns-in-Err-IdleStep-clause-ran g c = λ p at.
    let shape = g.S.Schema.shape_of c.args.world.now.schema in
    let told : c.in-Err-IdleStep.field-0 ≢ step_failure.Memory = λ e. cc (c.in-Err-IdleStep.field-0-is, e) in
    let idle = idle_there c.args.actor c.loop.world.state (c.in-Err-IdleStep.ensures.refused told ∙ ap Some c.in-Err-IdleStep.field-0-is) in
    let same = c.in-Err-IdleStep.ensures.unchanged told in
    let end = to_end shape (most_steps c.args.config.now c.args.actor) c.args.actor p in
    subst (λ k. IsPlayingAt c.step_actor.new.world.state c.step_actor.new.answers (to_end shape (most_steps k c.args.actor) c.args.actor p))
    (sym c.requires.config ∙ ap (λ (s : PlayState). s.config) at.state)
    (subst (λ (w : WorldView g.row.S.Denot). IsPlayingAt w.state c.step_actor.new.answers end) (sym same.0)
    (subst (λ l. IsPlayingAt c.loop.world.state l end) (sym same.1)
    (runs_idle shape c.args.actor _ c.loop.counter _ _ c.loop.world.state c.loop.answers idle c.loop.invariant.0 p at)))
