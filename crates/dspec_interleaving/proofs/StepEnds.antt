-- A step ends its call with an answer, or the call goes on with one step more and the same bound.
use Rattle.std.proofs.Common.{◌≡◌, ◌⊎◌, ℕ, ◌+◌, Some, None}
use Rattle.dspec_interleaving.specs.Words.{CpuStep, ConsumerStep, flight_bound, clean_bound, op_of, consumer_op_of, Config, Answer, ConsumerOp, CpuOp}
use Rattle.dspec_interleaving.specs.declared.flight.{CallPlace.CallPlace, ConsumerFlight.ConsumerFlight, ConsumerProgress.ConsumerProgress, CpuProgress.CpuProgress}

-- the call has ended
pub record HasEnded (m : CpuStep) : Type 0 where
  pub told : Answer
  pub answers : m.answer ≡ Some told
  pub idle : m.progress.flight ≡ None

-- the call goes on
pub record HasGoneOn (k : Config) (me : CpuProgress) (most : ℕ) (o : CpuOp) (m : CpuStep) : Type 0 where
  pub next : CallPlace
  pub call : op_of next ≡ o
  pub answers : m.answer ≡ None
  pub flight : m.progress.flight ≡ Some next
  pub bound : flight_bound k next ≡ most
  pub counted : m.progress.steps ≡ me.steps + 1

-- the same, of a step of the consumer
pub record HasClosed (m : ConsumerStep) : Type 0 where
  pub told : Answer
  pub answers : m.answer ≡ Some told
  pub idle : m.side.flight ≡ None

pub record HasKeptOn (k : Config) (side : ConsumerProgress) (most : ℕ) (o : ConsumerOp) (m : ConsumerStep) : Type 0 where
  pub next : ConsumerFlight
  pub call : consumer_op_of next ≡ o
  pub answers : m.answer ≡ None
  pub flight : m.side.flight ≡ Some next
  pub bound : clean_bound k next ≡ most
  pub counted : m.side.steps ≡ side.steps + 1

-- what a step of a CPU makes of its call
abbrev pub Advances : Config → CpuProgress → ℕ → CpuOp → CpuStep → Type 0
Advances k me most o m = HasEnded m ⊎ HasGoneOn k me most o m
