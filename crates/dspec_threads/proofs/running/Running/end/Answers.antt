use Rattle.std.proofs.{Common.arith, Common.rules, Common.ℕ, Common.IfOk, Common.subst, lemmas.Bool.Decides.nat_tests}
use Rattle.std.specs.Prelude.{List, Result, Ok, Err}
use Rattle.dspec_threads.specs.Words.{ThenServed, IsOneListWith, NothingOrDone, RunningSession, LooksLater, AllIn, ByThoseHome, CallsMade, EndsHome, EnabledRows, Batch, Left}
use Rattle.dspec_threads.proofs.running.Running.end.Goals as goal

pub returns-clause-keeps : goal.returns-clause-keeps
returns-clause-keeps g c = grind (arith, nat_tests, c.is_home.ensures.same.same, c.close.ensures.keeps)

pub returns-clause-traced : goal.returns-clause-traced
returns-clause-traced g c = grind (arith, nat_tests, c.is_home.ensures.same.same, c.close.ensures.traced)

pub returns-clause-one_list : goal.returns-clause-one_list
returns-clause-one_list g c =
    subst (λ (r : RunningSession g.row.K.Denot). IfOk c.close.result (λ s. IsOneListWith r.schema (g.K.Sink.gets r.schema) (ThenServed (NothingOrDone g.D.Duty.done)) r.config r.began s.0 s.1))
    c.is_home.ensures.same.same c.close.ensures.one_list

-- after a look
with_home : {K E : Type 0} (gets : EnabledRows → K → Batch → K → Type 0) (done : ℕ → CallsMade → Type 0) (answer : Result (List Left × K) E) (old new : RunningSession K)
    → LooksLater old new → AllIn new.home
    → IfOk answer (λ s. IsOneListWith new.schema (gets new.schema) (ByThoseHome done new.home) new.config new.began s.0 s.1)
    → IfOk answer (λ s. EndsHome (gets old.schema) done old s.0 s.1)
with_home gets done (Err e) old new looks all p = record {}
with_home {K} gets done (Ok s) old new looks all p = (
  new.home,
  looks.home,
  all,
  subst (λ (r : RunningSession K). IsOneListWith r.schema (gets r.schema) (ByThoseHome done new.home) r.config r.began s.0 s.1) looks.same p,
)

pub returns-clause-home : goal.returns-clause-home
returns-clause-home g c = with_home g.K.Sink.gets g.D.Duty.done c.close.result _ _ c.is_home.ensures.same (search rules) c.close.ensures.home
