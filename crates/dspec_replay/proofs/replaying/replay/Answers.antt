-- The turns so far were played, and after the last all were.
use Rattle.std.proofs.Common.{◌≡◌, None, length, map, ap, ◌∙◌, subst}
use Rattle.dspec_replay.specs.Words.{call_that_ended, turn_refusal}
use Rattle.dspec_replay.proofs.Refusals.{ok_then, so_far_last, so_far_more}
use Rattle.dspec_replay.proofs.replaying.replay.Goals as goal

pub loop-number-preserved : goal.loop-number-preserved
loop-number-preserved g c =
    let inv = c.loop-number.invariant in
    let keeps = c.turn.ensures.same in
    let n = length c.loop-number.playing.session.cpus.items in
    let allowed = subst (λ s. turn_refusal (g.S.Schema.accepted s) n c.loop-number.number c.index-turns-number.result ≡ None) inv.2 c.in_ok-turn.ensures.allowed in (
      c.turn.ensures.session,
      so_far_more (g.S.Schema.accepted c.args.schema) c.args.config.now c.args.turns.now c.loop-number.number n _ _ _ _ c.loop-number-test.true c.index-turns-number.is inv.3
          allowed c.in_ok-turn.ensures.answered inv.1,
      keeps.schema ∙ inv.2,
      keeps.cpus ∙ inv.3,
    )

pub returns-clause-answered : goal.returns-clause-answered
returns-clause-answered g c =
    let l = c.loop-number in
    let last = so_far_last (g.S.Schema.accepted c.args.schema) c.args.config.now c.args.turns.now l.number l.playing.answers c.loop-number-test.false c.in_ok-playing.ensures.allowed l.invariant.1 in
    ok_then c.close.result (λ x same. ap (map call_that_ended) same ∙ last.1) c.close.ensures.answers

pub returns-clause-allowed : goal.returns-clause-allowed
returns-clause-allowed g c =
    let l = c.loop-number in
    let last = so_far_last (g.S.Schema.accepted c.args.schema) c.args.config.now c.args.turns.now l.number l.playing.answers c.loop-number-test.false c.in_ok-playing.ensures.allowed l.invariant.1 in
    ok_then c.close.result (λ x same. last.0) c.close.ensures.answers
