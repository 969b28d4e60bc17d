-- One request more is handled in each round.
use Rattle.std.proofs.Common.{◌≡◌, ◌+◌, ◌∙◌, ℕ, Bool, refl, subst, ap, arith}
use Rattle.dspec_cpu.specs.Called.{called}
use Rattle.dspec_cpu.specs.Lists.{number_in}
use Rattle.examples.specs.WatchRequests.{fails_with, request_number}
use Rattle.examples.specs.WatchServing.{HandlesRequest, ServesRequests, none_yet, one_more}
use Rattle.examples.proofs.watch.serving.ServerWorkEnablings.work.Goals as goal

pub loop-round-init : goal.loop-round-init
loop-round-init c = (refl, none_yet)

pub loop-round-preserved : goal.loop-round-preserved
loop-round-preserved c =
    let fails = c.of.ensures.fails ∙ ap (λ n. fails_with c.args.self.now.seed (request_number n c.loop-round.round)) (c.from-worker.ensures ∙ c.number.ensures) in (
      c.service.ensures.same ∙ (c.handle.ensures.same ∙ c.loop-round.invariant.0),
      one_more (c.loop-round.round + 1) _ _ c.service.result c.loop-round.invariant.1
          (subst (λ (b : Bool). HandlesRequest b (called c.loop-round.lane.cpu.now) (called c.handle.new.lane.cpu.now)) fails c.handle.ensures.handled) c.service.ensures.does.tells refl,
    )

pub returns-clause-did : goal.returns-clause-did
returns-clause-did c has =
    let over = c.loop-round-test.false in
    let end = c.loop-round.auto.round-end in
    let all : c.loop-round.round ≡ 100 = omega arith in
    subst (λ (n : ℕ). ServesRequests c.args.self.now.seed (number_in c.args.lane.now.cpu.now) (called c.args.lane.now.cpu.now) n (called c.loop-round.lane.cpu.now)) all c.loop-round.invariant.1
