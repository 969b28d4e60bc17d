-- Cited by calls. The most steps of each call.
use Rattle.std.specs.Prelude.{ℕ, ◌+◌, ◌*◌, Option, Some, None}
use Rattle.dspec_interleaving.specs.{Coherent.PlayState, Coherent.progress_of, Words.Outside.Config, Words.Outside.Actor, Words.Outside.ConsumerOp, Words.Outside.CpuOp}
use Rattle.dspec_interleaving.specs.{declared.flight.CallPlace.CallPlace, declared.flight.ConsumerFlight.ConsumerFlight}
use Rattle.dspec_deeds.specs.declared.calls.Actor.TheVariants as actor
use Rattle.dspec_deeds.specs.declared.calls.ConsumerOp.TheVariants as consumer_op
use Rattle.dspec_deeds.specs.declared.calls.CpuOp.TheVariants as cpu_op
use Rattle.dspec_interleaving.specs.declared.flight.ConsumerFlight.TheVariants as consumer
use Rattle.dspec_interleaving.specs.declared.flight.CallPlace.TheVariants as cpu

-- the most steps of a call of a CPU
abbrev pub op_bound : Config → CpuOp → ℕ
op_bound k (cpu_op.Trace r) = 1
op_bound k cpu_op.Speculation = 1 + 2 * k.nspec
op_bound k (cpu_op.Speculate id r) = 4
op_bound k (cpu_op.Commit id) = 5
op_bound k (cpu_op.Discard id) = 5
op_bound k cpu_op.Service = 3 + 2 * k.nspec

-- the same, by the call in flight
abbrev pub flight_bound : Config → CallPlace → ℕ
flight_bound k (cpu.Begun o) = op_bound k o
flight_bound k (cpu.ScanLoad s) = 1 + 2 * k.nspec
flight_bound k (cpu.ScanTry s w) = 1 + 2 * k.nspec
flight_bound k (cpu.SpeculateLoad id r) = 4
flight_bound k (cpu.SpeculateTry id r w) = 4
flight_bound k (cpu.CommitLoad id) = 5
flight_bound k (cpu.CommitTry id w) = 5
flight_bound k (cpu.CommitRelease id f) = 5
flight_bound k (cpu.DiscardLoad id) = 5
flight_bound k (cpu.DiscardTry id w) = 5
flight_bound k cpu.ServicePop = 3 + 2 * k.nspec
flight_bound k cpu.ServicePush = 3 + 2 * k.nspec
flight_bound k (cpu.ServiceLoad s sum) = 3 + 2 * k.nspec
flight_bound k (cpu.ServiceStore s w sum) = 3 + 2 * k.nspec

-- the most steps of a call of the consumer
abbrev pub consumer_bound : Config → ConsumerOp → ℕ
consumer_bound k consumer_op.Clean = k.nspec * (k.cpus + 2)
consumer_bound k o = 1

abbrev pub clean_bound : Config → ConsumerFlight → ℕ
clean_bound k (consumer.Begun o) = consumer_bound k o
clean_bound k (consumer.CleanLoad s n) = k.nspec * (k.cpus + 2)
clean_bound k (consumer.CleanAck s w c n) = k.nspec * (k.cpus + 2)
clean_bound k (consumer.CleanReap s w n) = k.nspec * (k.cpus + 2)

-- below which number the steps of an actor's call in flight stay; where none is in flight there are no steps
abbrev pub cpu_limit : Config → Option CallPlace → ℕ
cpu_limit k None = 1
cpu_limit k (Some f) = flight_bound k f

abbrev pub consumer_limit : Config → Option ConsumerFlight → ℕ
consumer_limit k None = 1
consumer_limit k (Some f) = clean_bound k f

abbrev pub steps_limit : Actor → PlayState → ℕ
steps_limit (actor.Cpu c) st = cpu_limit st.config (progress_of st.progresses c).flight
steps_limit actor.Consumer st = consumer_limit st.config st.side.flight

-- the most steps of any call of the actor
abbrev pub most_steps : Config → Actor → ℕ
most_steps k (actor.Cpu c) = 3 + 2 * k.nspec
most_steps k actor.Consumer = k.nspec * (k.cpus + 2)
