use Rattle.std.proofs.{Common.arith, Common.subst, lemmas.Bool.Decides.nat_tests}
use Rattle.rtrb.specs.Ring.{sent}
use Rattle.dspec_threads.specs.Words.{EnabledRows, WentHome, Cpu}
use Rattle.dspec_threads.proofs.Homes.{has_gone, may_go}
use Rattle.dspec_threads.proofs.out_lane.OutLane.go_home.Goals as goal

pub push_reserved-requires : goal.push_reserved-requires
push_reserved-requires g c = grind (arith, nat_tests, may_go, c.self.invariant.2, c.self.invariant.1, c.self.view_is, c.requires)

pub returns : goal.returns
returns g c =
    subst (λ (x : Cpu EnabledRows). WentHome x (sent c.push_reserved.new.self)) c.self.view_is
    (has_gone g.D.Duty.done _ _ c.self.inside.cpu c.self.invariant.1 c.push_reserved.ensures.sent.0)
