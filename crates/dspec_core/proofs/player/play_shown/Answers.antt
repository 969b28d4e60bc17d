use Rattle.std.proofs.{Common.◌≡◌, Common.◌≤◌, Common.length, Common.reverse, Common.ap, Common.◌∙◌, Common.subst, Common.arith, lemmas.Bool.Decides.nat_tests}
use Rattle.dspec_core.specs.Words.{reports, IsCoherent, progress_of, Headline, IsPlayingAt, all_ran, all_turned, playing_at_start, worn_count, Config}
use Rattle.dspec_interleaving.proofs.PlayerRuns.{IsSoFar, all_idle, same_reports, so_far_first, so_far_last, so_far_unrefused, worn_as_told}
use Rattle.dspec_core.proofs.player.play_shown.Goals as goal

pub loop-number-init : goal.loop-number-init
loop-number-init g c = grind (arith, nat_tests, IsSoFar, so_far_first, c.new-answers.ensures, c.in-Ok.ensures.empty, c.in-Ok.ensures.promised)

pub finish-requires : goal.finish-requires
finish-requires g c = record {
  idle = λ a is.
      let shape = g.S.Schema.shape_of c.args.schema in
      let accepts = g.S.Schema.accepted c.args.schema in
      let done : length c.args.turns.now ≤ c.loop-number.number = let past = c.loop-number-test.false in omega arith in
      let at = so_far_last shape accepts c.args.config.now c.args.turns.now c.loop-number.number c.loop-number.world.state c.loop-number.answers done c.loop-number.invariant.0 in
      let ran = c.in_ok-run_all.ensures.ran (all_turned shape c.args.turns.now (playing_at_start c.args.config.now)) at in
      all_idle shape c.loop-number.world.state c.run_all.new.world.state c.loop-number.answers c.run_all.new.answers (all_turned shape c.args.turns.now (playing_at_start c.args.config.now)) at
      (subst (λ schema. IsPlayingAt c.run_all.new.world.state c.run_all.new.answers
      (all_ran (g.S.Schema.shape_of schema) (all_turned shape c.args.turns.now (playing_at_start c.args.config.now)))) c.loop-number.invariant.1 ran)
      (subst (λ schema. IsCoherent (g.S.Schema.shape_of schema) c.loop-number.world.state) c.loop-number.invariant.1 c.loop-number.invariant.3.coherent)
      c.run_all.ensures.config a is;
}

pub returns-clause-reports : goal.returns-clause-reports
returns-clause-reports g c =
    let shape = g.S.Schema.shape_of c.args.schema in
    let accepts = g.S.Schema.accepted c.args.schema in
    let k = c.args.config.now in
    let ts = c.args.turns.now in
    let done : length ts ≤ c.loop-number.number = let past = c.loop-number-test.false in omega arith in
    let at = so_far_last shape accepts k ts c.loop-number.number c.loop-number.world.state c.loop-number.answers done c.loop-number.invariant.0 in
    let none = so_far_unrefused shape accepts k ts c.loop-number.number c.loop-number.world.state c.loop-number.answers done c.in-Ok.ensures.started c.loop-number.invariant.0 in
    let same : c.run_all.new.world.state.config ≡ k = c.run_all.ensures.config ∙ c.loop-number.invariant.2 in
    let ran = subst (λ schema. IsPlayingAt c.run_all.new.world.state c.run_all.new.answers (all_ran (g.S.Schema.shape_of schema) (all_turned shape ts (playing_at_start k)))) c.loop-number.invariant.1
    (c.in_ok-run_all.ensures.ran (all_turned shape ts (playing_at_start k)) at) in
    c.in_ok-close.ensures.reports
    ∙ (ap (λ (m : Config). reports m (λ n. (progress_of c.run_all.new.world.state.progresses n).worn) (reverse c.in_ok-close.close.deeds)) same
    ∙ same_reports k (λ n. (progress_of c.run_all.new.world.state.progresses n).worn) (worn_count c.run_all.new.answers) (reverse c.in_ok-close.close.deeds)
    (worn_as_told shape accepts k ts c.run_all.new.world.state c.run_all.new.answers none ran))

pub returns-clause-headline : goal.returns-clause-headline
returns-clause-headline g c = λ cpu. subst (λ (m : Config). Headline m cpu (reverse c.in_ok-close.close.deeds)) (c.run_all.ensures.config ∙ c.loop-number.invariant.2)
    (c.in_ok-close.ensures.headline cpu)
