use Rattle.std.proofs.Common.{◌≡◌, ◌+◌, ◌∙◌, ℕ, refl, subst, arith}
use Rattle.dspec_session.specs.Words.{ConsumerRounds, no_round, none_taken, one_round}
use Rattle.dspec_session.proofs.demonstration.rounds.serve.Goals as goal

pub loop-round-init : goal.loop-round-init
loop-round-init g c = (
  record { session = c.requires; same = record { config = refl; pairs = refl } },
  no_round refl (λ i. record { first = c.new.ensures i; second = c.new-2.ensures i; third = c.new-3.ensures i; fourth = c.new-4.ensures i }),
)

pub loop-round-preserved : goal.loop-round-preserved
loop-round-preserved g c =
    let was = c.loop-round.invariant.0.same in
    let visit = c.visit_all.ensures in
    let clean = c.clean.ensures in (
      record {
        session = clean.session;
        same = record { config = clean.same.config ∙ (visit.stays.same.config ∙ was.config); pairs = clean.same.pairs ∙ (visit.stays.same.pairs ∙ was.pairs) };
      },
      one_round (c.loop-round.round + 1) c.clean.new.self c.visit_all.new.orders c.loop-round.invariant.1
          (record { visited = c.visit_all.new.consumer; visits = visit.visited; released = c.clean.result; cleans = clean.cleaned; ends = clean.ends })
          refl,
    )

pub returns-clause-rounds : goal.returns-clause-rounds
returns-clause-rounds g c =
    let over = c.loop-round-test.false in
    let end = c.loop-round.auto.round-end in
    let all : c.loop-round.round ≡ 1000 = omega arith in
    subst (λ (n : ℕ). ConsumerRounds c.args.schema.now c.args.consumer none_taken n c.loop-round.consumer c.loop-round.orders) all c.loop-round.invariant.1
