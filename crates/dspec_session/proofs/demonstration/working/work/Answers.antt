use Rattle.std.proofs.Common.{◌≡◌, ◌+◌, ℕ, refl, subst, arith}
use Rattle.dspec_session.specs.{Demonstrated.no_round, Demonstrated.one_round, Words.CpuRounds}
use Rattle.dspec_session.proofs.Worked.{none_worked, round_worked}
use Rattle.dspec_session.proofs.demonstration.working.work.Goals as goal

pub loop-round-init : goal.loop-round-init
loop-round-init g c = (none_worked c.args.cpu, no_round)

pub loop-round-preserved : goal.loop-round-preserved
loop-round-preserved g c =
    let made = c.if-not-make_round.ensures in (
      round_worked c.loop-round.round c.args.cpu c.loop-round.cpu c.make_round.new.cpu c.loop-round.invariant.0 made.worked,
      one_round (c.loop-round.round + 1) c.make_round.new.cpu c.loop-round.invariant.1 (made.made refl) refl,
    )

pub returns-clause-rounds : goal.returns-clause-rounds
returns-clause-rounds g c = λ _.
    let over = c.loop-round-test.false in
    let end = c.loop-round.auto.round-end in
    let all : c.loop-round.round ≡ 100 = omega arith in
    subst (λ (n : ℕ). CpuRounds c.args.cpu n c.loop-round.cpu) all c.loop-round.invariant.1
