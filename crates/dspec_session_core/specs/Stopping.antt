-- Cited by calls. What a stop does.
use Rattle.std.specs.Prelude.{◌≡◌, ◌++◌}
use Rattle.dspec_session_core.specs.{Consumers.Consuming, Consumers.view_of, Words.Outside.halted, Words.Outside.at_stop, Words.Outside.StoredActivity}

-- One store, which enters a Halt unless the consumer's list has it.
pub record Stopped (x y : Consuming) : Type 0 where
  pub stored : StoredActivity (view_of x) (view_of y)
  pub own : (view_of y).own ≡ at_stop (halted (view_of x).own) ++ (view_of x).own
  pub asks : (view_of y).asks ≡ (view_of x).asks
  pub ends : y.ends ≡ x.ends
