-- Cited by calls. The beginnings and steps of calls: what each makes of a play's state, and which answers end.
use Prim.Native.Nat.{zero, suc}
use Rattle.std.specs.Prelude.{ℕ, List, [], ◌∷◌, ◌++◌, slice_set, Option, Some, None}
use Rattle.dspec_interleaving.specs.{Coherent.PlayState, Coherent.progress_of, Coherent.idle_progress, Play.ConsumerStep, Play.cpu_step, Play.consumer_step, Step.CpuStep, Words.Outside.Shape}
use Rattle.dspec_interleaving.specs.{Words.Outside.Config, Words.Outside.Actor, Words.Outside.Answer, Words.Outside.ConsumerOp, Words.Outside.CpuOp, declared.flight.CallPlace.CallPlace}
use Rattle.dspec_interleaving.specs.{declared.flight.ConsumerFlight.ConsumerFlight, declared.flight.CpuProgress.CpuProgress}
use Rattle.dspec_deeds.specs.declared.calls.Actor.TheVariants as actor
use Rattle.dspec_interleaving.specs.declared.flight.ConsumerFlight.TheVariants as consumer
use Rattle.dspec_interleaving.specs.declared.flight.CallPlace.TheVariants as cpu

abbrev pub idle_cpus : ℕ → List CpuProgress
idle_cpus zero = []
idle_cpus (suc n) = idle_progress ∷ idle_cpus n

-- before the first turn
abbrev pub at_start : Config → PlayState
at_start k = record { config = k; deeds = []; progresses = idle_cpus k.cpus; side = record { flight = None; steps = 0 } }

abbrev pub begin_cpu : ℕ → CpuOp → PlayState → PlayState
begin_cpu c o st = record st { progresses = slice_set st.progresses c (record (progress_of st.progresses c) { flight = Some (cpu.Begun o); steps = 0 }) }

abbrev pub begin_consumer : ConsumerOp → PlayState → PlayState
begin_consumer o st = record st { side = record { flight = Some (consumer.Begun o); steps = 0 } }

-- what a step leaves, and the answer where it is its call's last
pub record Stepped : Type 0 where
  pub state : PlayState
  pub answer : Option Answer

abbrev pub moved_to : PlayState → ℕ → CpuStep → Stepped
moved_to st c m = record { state = record st { deeds = m.deeds ++ st.deeds; progresses = slice_set st.progresses c m.progress }; answer = m.answer }

abbrev pub cleaned_to : PlayState → ConsumerStep → Stepped
cleaned_to st m = record { state = record st { deeds = m.deeds ++ st.deeds; progresses = m.progresses; side = m.side }; answer = m.answer }

module _ (shape : ℕ → Option Shape) where
  abbrev pub step_cpu : ℕ → PlayState → Option CallPlace → Stepped
  step_cpu c st None = record { state = st; answer = None }
  step_cpu c st (Some f) = moved_to st c (cpu_step shape st.config c st.deeds (progress_of st.progresses c) f)

  abbrev pub step_consumer : PlayState → Option ConsumerFlight → Stepped
  step_consumer st None = record { state = st; answer = None }
  step_consumer st (Some f) = cleaned_to st (consumer_step st.config st.deeds st.side st.progresses f)

  -- one atomic step of an actor whose call is in flight
  abbrev pub step : Actor → PlayState → Stepped
  step (actor.Cpu c) st = step_cpu c st (progress_of st.progresses c).flight
  step actor.Consumer st = step_consumer st st.side.flight

  -- steps until the call's last, so many at the most
  abbrev pub on_to_end : ℕ → Actor → PlayState → Option Answer → Stepped
  on_to_end zero a st r = record { state = st; answer = r }
  on_to_end (suc n) a st (Some r) = record { state = st; answer = Some r }
  on_to_end (suc n) a st None = on_to_end n a (step a st).state (step a st).answer
