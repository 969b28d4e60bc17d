use Rattle.std.proofs.Common.{List, sym, subst}
use Rattle.std.specs.Prelude.{Option}
use Rattle.dspec_threads.specs.Words.{EnabledRows, AreNew, Cpu}
use Rattle.dspec_threads.proofs.Runs.{all_started}
use Rattle.dspec_threads.proofs.running.Running.start.Goals as goal

pub over-requires-clause-fresh : goal.over-requires-clause-fresh
over-requires-clause-fresh g c = λ κs outlives.
    all_started c.args.config.now c.args.schema c.in_ok-session.session c.in_ok-session.ensures.session c.in_ok-session.ensures.config c.in_ok-session.ensures.fresh

pub returns-clause-lanes : goal.returns-clause-lanes
returns-clause-lanes g c = subst (λ (home : List (Option (Cpu EnabledRows))). AreNew c.args.config.now.cpus c.args.schema home) (sym c.in-Ok.ensures.home)
    (all_started c.args.config.now c.args.schema c.in_ok-session.session c.in_ok-session.ensures.session c.in_ok-session.ensures.config c.in_ok-session.ensures.fresh)
