use Rattle.std.proofs.Common.{sym, ap, ◌∙◌, ◌++◌, ◌∷◌, [], Some}
use Rattle.dspec_core.specs.Words.{Op}
use Rattle.dspec_interleaving.proofs.PlayerMoves.{step_at}
use Rattle.dspec_core.proofs.PlayerSteps.{ends_idle, not_refused}
use Rattle.dspec_core.proofs.player.step_actor.Goals as goal

pub returns-clause-ended : goal.returns-clause-ended
returns-clause-ended g c = λ ended.
    let w = c.args.world.now in
    ends_idle (g.S.Schema.shape_of w.schema) w.state _ c.args.actor c.in-Some.answer c.requires.promised.coherent c.in_ok-call.ensures.there c.in_ok-call.ensures.busy
    (ap (λ (s : _). s.state) c.in-Ok.ensures.state) (sym c.in-Some.is ∙ c.in-Ok.ensures.answered)

pub returns-clause-stepped : goal.returns-clause-stepped
returns-clause-stepped g c =
    let w = c.args.world.now in
    step_at (g.S.Schema.shape_of w.schema) c.args.actor w.state c.advance.new.self.state c.args.answers.now c.push.new.self (Some c.in-Some.answer) c.in_ok-call.ensures.busy
    (ap (λ (s : _). s.state) c.in-Ok.ensures.state) (sym c.in-Ok.ensures.answered ∙ c.in-Some.is)
    (not_refused c.push.result (sym c.is_err-3.ensures.value ∙ c.if-is_err-3.false) c.push.ensures.ok
    ∙ ap (λ (o : Op). c.args.answers.now ++ (c.args.actor, o, c.in-Some.answer) ∷ []) c.in_ok-call.ensures.called)
