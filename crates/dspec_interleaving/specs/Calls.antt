-- Cited by calls. Which call is in flight, whether it may begin, and why a begin or a step is refused.
use Rattle.std.specs.Prelude.{ℕ, nat_lt, Bool, true, not, is_none, if◌then◌else◌, Option, Some, None}
use Rattle.dspec_interleaving.specs.Coherent.{PlayState, progress_of}
use Rattle.dspec_interleaving.specs.Words.Outside.{Record, Config, Actor, Answer, ConsumerOp, CpuOp, Op}
use Rattle.dspec_interleaving.specs.declared.flight.{CallPlace.CallPlace, ConsumerFlight.ConsumerFlight}
use Rattle.dspec_interleaving.specs.declared.refusal.{BeginFault.BeginFault, StepFault.StepFault, Stepped.Stepped, Stepped.TheVariants.Going, Stepped.TheVariants.Done}
use Rattle.dspec_deeds.specs.declared.calls.Actor.TheVariants as actor
use Rattle.dspec_deeds.specs.declared.calls.ConsumerOp.TheVariants as consumer_op
use Rattle.dspec_deeds.specs.declared.calls.CpuOp.TheVariants as cpu_op
use Rattle.dspec_deeds.specs.declared.calls.Op.TheVariants as op
use Rattle.dspec_interleaving.specs.declared.flight.ConsumerFlight.TheVariants as consumer
use Rattle.dspec_interleaving.specs.declared.flight.CallPlace.TheVariants as cpu
use Rattle.dspec_interleaving.specs.declared.refusal.BeginFault.TheVariants as begin_fault
use Rattle.dspec_interleaving.specs.declared.refusal.StepFault.TheVariants as step_fault

-- the call of a CPU that is in flight
abbrev pub op_of : CallPlace → CpuOp
op_of (cpu.Begun o) = o
op_of (cpu.ScanLoad s) = cpu_op.Speculation
op_of (cpu.ScanTry s w) = cpu_op.Speculation
op_of (cpu.SpeculateLoad id r) = cpu_op.Speculate id r
op_of (cpu.SpeculateTry id r w) = cpu_op.Speculate id r
op_of (cpu.CommitLoad id) = cpu_op.Commit id
op_of (cpu.CommitTry id w) = cpu_op.Commit id
op_of (cpu.CommitRelease id f) = cpu_op.Commit id
op_of (cpu.DiscardLoad id) = cpu_op.Discard id
op_of (cpu.DiscardTry id w) = cpu_op.Discard id
op_of cpu.ServicePop = cpu_op.Service
op_of cpu.ServicePush = cpu_op.Service
op_of (cpu.ServiceLoad s sum) = cpu_op.Service
op_of (cpu.ServiceStore s w sum) = cpu_op.Service

-- the call of the consumer that is in flight
abbrev pub consumer_op_of : ConsumerFlight → ConsumerOp
consumer_op_of (consumer.Begun o) = o
consumer_op_of (consumer.CleanLoad s n) = consumer_op.Clean
consumer_op_of (consumer.CleanAck s w c n) = consumer_op.Clean
consumer_op_of (consumer.CleanReap s w n) = consumer_op.Clean

-- the call of an actor that is in flight, if one is
abbrev pub cpu_call_of : Option CallPlace → Op
cpu_call_of None = op.Cpu cpu_op.Speculation
cpu_call_of (Some f) = op.Cpu (op_of f)

abbrev pub consumer_call_of : Option ConsumerFlight → Op
consumer_call_of None = op.Consumer consumer_op.Stop
consumer_call_of (Some f) = op.Consumer (consumer_op_of f)

abbrev pub call_of : Actor → PlayState → Op
call_of (actor.Cpu c) st = cpu_call_of (progress_of st.progresses c).flight
call_of actor.Consumer st = consumer_call_of st.side.flight

-- the record of a call, if it has one, passes a test
abbrev pub record_passes : (Record → Bool) → CpuOp → Bool
record_passes test (cpu_op.Trace r) = test r
record_passes test (cpu_op.Speculate id r) = test r
record_passes test o = true

-- the CPU that a call of the consumer is about, if it is about one, exists
abbrev pub is_about : Config → ConsumerOp → Bool
is_about k (consumer_op.Ask c) = nat_lt c k.cpus
is_about k (consumer_op.Take c) = nat_lt c k.cpus
is_about k (consumer_op.GiveBack c) = nat_lt c k.cpus
is_about k o = true

abbrev pub is_actor : Config → Actor → Bool
is_actor k (actor.Cpu c) = nat_lt c k.cpus
is_actor k actor.Consumer = true

-- no call of the actor is in flight
abbrev pub is_idle : Actor → PlayState → Bool
is_idle (actor.Cpu c) st = is_none (progress_of st.progresses c).flight
is_idle actor.Consumer st = is_none st.side.flight

-- the steps that the actor's call in flight has made
abbrev pub steps_of : Actor → PlayState → ℕ
steps_of (actor.Cpu c) st = (progress_of st.progresses c).steps
steps_of actor.Consumer st = st.side.steps

-- why a call of a CPU can't begin
abbrev pub begin_cpu_fault : (Record → Bool) → ℕ → CpuOp → PlayState → Option BeginFault
begin_cpu_fault accepts c o st =
    if not (nat_lt c st.config.cpus) then Some begin_fault.NoSuchActor
    else if not (is_idle (actor.Cpu c) st) then Some begin_fault.Busy
    else if not (record_passes accepts o) then Some begin_fault.BadRecord
    else None

-- why a call of the consumer can't begin
abbrev pub begin_consumer_fault : ConsumerOp → PlayState → Option BeginFault
begin_consumer_fault o st =
    if not (is_about st.config o) then Some begin_fault.NoSuchActor
    else if not (is_idle actor.Consumer st) then Some begin_fault.Busy
    else None

-- why a step can't be made, a refused growth apart
abbrev pub idle_step_fault : Actor → PlayState → Option StepFault
idle_step_fault a st =
    if not (is_actor st.config a) then Some step_fault.NoSuchActor
    else if is_idle a st then Some step_fault.IdleStep
    else None

-- what a step is told as
abbrev pub told_step : Option Answer → Stepped
told_step None = Going
told_step (Some a) = Done a
