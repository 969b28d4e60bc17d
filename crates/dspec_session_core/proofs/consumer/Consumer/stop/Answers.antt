use Rattle.std.proofs.Common.{refl, ap}
use Rattle.dspec_session_core.specs.Words.{View, known_there}
use Rattle.dspec_session_core.proofs.Halts.{stop_enters}
use Rattle.dspec_session_core.proofs.consumer.Consumer.stop.Goals as goal

pub returns-clause-stopped : goal.returns-clause-stopped
returns-clause-stopped c =
    let step = c.store_activity.ensures.step in
    let v = known_there c.self.inside.seat in
    rw (← c.self.view_is) (record {
      stored = step;
      own = stop_enters v (known_there c.store_activity.new.self) c.self.inside.seat.who_is step;
      asks = ap (λ (x : View). x.asks) step.2.view;
      ends = refl;
    })
