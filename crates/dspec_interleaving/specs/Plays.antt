-- Cited by calls. A whole play: its turns in order, the calls that are then still in flight run to their ends, and the close.
use Prim.Native.Nat.{zero, suc}
use Rattle.std.specs.Prelude.{ℕ, ◌≡◌, ◌+◌, ◌-◌, ◌^◌, ◌==◌, min, Bool, true, false, ◌&&◌, List, [], ◌∷◌, ◌++◌, map, reverse, if◌then◌else◌, Option, Some, None}
use Rattle.dspec_interleaving.specs.{Bounds.most_steps, Calls.op_of, Calls.consumer_op_of, Calls.is_idle, Calls.begin_cpu_fault, Calls.begin_consumer_fault, Calls.idle_step_fault}
use Rattle.dspec_interleaving.specs.{Coherent.PlayState, Coherent.progress_of, Play.cpu_step, Play.consumer_step, ReadOff.answer_of_cpu, ReadOff.answer_of_consumer, Turns.at_start, Turns.begin_cpu}
use Rattle.dspec_interleaving.specs.{Turns.begin_consumer, Turns.step, Words.Outside.Shape, Words.Outside.Record, Words.Outside.start_fault, Words.Outside.closing, Words.Outside.Config}
use Rattle.dspec_interleaving.specs.{Words.Outside.StartFault, Words.Outside.Actor, Words.Outside.Answer, Words.Outside.ConsumerOp, Words.Outside.CpuOp, Words.Outside.Op, Words.Outside.Turn}
use Rattle.dspec_interleaving.specs.{Words.Outside.BeginCpu, Words.Outside.BeginConsumer, Words.Outside.Step, Words.Outside.RunCpu, Words.Outside.RunConsumer, Words.Outside.Deed}
use Rattle.dspec_interleaving.specs.{declared.flight.CallPlace.CallPlace, declared.flight.ConsumerFlight.ConsumerFlight, declared.outcome.PlayFault.PlayFault}
use Rattle.dspec_interleaving.specs.{declared.outcome.PlayFault.TheVariants.Setup, declared.outcome.PlayFault.TheVariants.NoSuchActor, declared.outcome.PlayFault.TheVariants.Busy}
use Rattle.dspec_interleaving.specs.{declared.outcome.PlayFault.TheVariants.IdleStep, declared.outcome.PlayFault.TheVariants.BadRecord, declared.refusal.BeginFault.BeginFault}
use Rattle.dspec_interleaving.specs.{declared.refusal.StepFault.StepFault}
use Rattle.dspec_deeds.specs.declared.calls.Actor.TheVariants as actor
use Rattle.dspec_deeds.specs.declared.calls.Answer.TheVariants as answer
use Rattle.dspec_deeds.specs.declared.calls.Decided.TheVariants as decided_answer
use Rattle.dspec_deeds.specs.declared.calls.Op.TheVariants as op
use Rattle.dspec_deeds.specs.declared.calls.Opening.TheVariants as opening
use Rattle.dspec_deeds.specs.declared.calls.Spoken.TheVariants as spoken_answer
use Rattle.dspec_deeds.specs.declared.calls.Traced.TheVariants as traced_answer
use Rattle.dspec_interleaving.specs.declared.refusal.BeginFault.TheVariants as begin_fault
use Rattle.dspec_interleaving.specs.declared.refusal.StepFault.TheVariants as step_fault

abbrev pub EndedCall : Type 0
EndedCall = Actor × Op × Answer

-- a call that ended, with the deeds that it entered, the latest first, and the state that its last step found
pub record Noted : Type 0 where
  pub by : Actor
  pub call : Op
  pub answer : Answer
  pub deeds : List Deed
  pub found : PlayState

abbrev pub ended : Noted → EndedCall
ended n = (n.by, n.call, n.answer)

-- the answer is the one that is read off the call's deeds, and off what its last step found
abbrev pub read_off : Op → List Deed → PlayState → Answer
read_off (op.Cpu o) ds st = answer_of_cpu o ds
read_off (op.Consumer o) ds st = answer_of_consumer o st ds

abbrev pub IsReadOff : Noted → Type 0
IsReadOff n = n.answer ≡ read_off n.call n.deeds n.found

-- what a play has done: its state, the deeds of each call in flight, the latest first, and the ended calls, the latest
-- first
pub record Playing : Type 0 where
  pub state : PlayState
  pub entered : ℕ → List Deed
  pub cleaned : List Deed
  pub noted : List Noted

-- a player that has played so far is in that state, and has put down those answers, in order of ending
pub record IsPlayingAt (now : PlayState) (answers : List EndedCall) (p : Playing) : Type 0 where
  pub state : now ≡ p.state
  pub told : answers ≡ map ended (reverse p.noted)

abbrev pub with_note : Actor → Op → List Deed → PlayState → Option Answer → List Noted → List Noted
with_note a o ds st None ns = ns
with_note a o ds st (Some r) ns = record { by = a; call = o; answer = r; deeds = ds; found = st } ∷ ns

abbrev pub with_entered : ℕ → List Deed → (ℕ → List Deed) → ℕ → List Deed
with_entered c ds before d = if d == c then ds else before d

abbrev pub playing_at_start : Config → Playing
playing_at_start k = record { state = at_start k; entered = λ c. []; cleaned = []; noted = [] }

abbrev pub begun_cpu : ℕ → CpuOp → Playing → Playing
begun_cpu c o p = record p { state = begin_cpu c o p.state; entered = with_entered c [] p.entered }

abbrev pub begun_consumer : ConsumerOp → Playing → Playing
begun_consumer o p = record p { state = begin_consumer o p.state; cleaned = [] }

module _ (shape : ℕ → Option Shape) where
  -- one atomic step of an actor
  abbrev pub cpu_stepped : ℕ → Playing → Option CallPlace → Playing
  cpu_stepped c p None = p
  cpu_stepped c p (Some f) =
      record p {
        state = (step shape (actor.Cpu c) p.state).state;
        entered = with_entered c ((cpu_step shape p.state.config c p.state.deeds (progress_of p.state.progresses c) f).deeds ++ p.entered c) p.entered;
        noted = with_note (actor.Cpu c) (op.Cpu (op_of f)) ((cpu_step shape p.state.config c p.state.deeds (progress_of p.state.progresses c) f).deeds ++ p.entered c) p.state
            (step shape (actor.Cpu c) p.state).answer p.noted;
      }

  abbrev pub consumer_stepped : Playing → Option ConsumerFlight → Playing
  consumer_stepped p None = p
  consumer_stepped p (Some f) =
      record p {
        state = (step shape actor.Consumer p.state).state;
        cleaned = (consumer_step p.state.config p.state.deeds p.state.side p.state.progresses f).deeds ++ p.cleaned;
        noted = with_note actor.Consumer (op.Consumer (consumer_op_of f)) ((consumer_step p.state.config p.state.deeds p.state.side p.state.progresses f).deeds ++ p.cleaned) p.state
            (step shape actor.Consumer p.state).answer p.noted;
      }

  abbrev pub stepped : Actor → Playing → Playing
  stepped (actor.Cpu c) p = cpu_stepped c p (progress_of p.state.progresses c).flight
  stepped actor.Consumer p = consumer_stepped p p.state.side.flight

  -- steps of an actor until no call of it is in flight, so many at the most
  abbrev pub to_end : ℕ → Actor → Playing → Playing
  to_end zero a p = p
  to_end (suc n) a p = if is_idle a p.state then p else to_end n a (stepped a p)

  abbrev pub ran : Actor → Playing → Playing
  ran a p = to_end (most_steps p.state.config a) a p

  -- one turn
  abbrev pub turned : Turn → Playing → Playing
  turned (BeginCpu c o) p = begun_cpu c o p
  turned (BeginConsumer o) p = begun_consumer o p
  turned (Step a) p = stepped a p
  turned (RunCpu c o) p = ran (actor.Cpu c) (begun_cpu c o p)
  turned (RunConsumer o) p = ran actor.Consumer (begun_consumer o p)

  abbrev pub all_turned : List Turn → Playing → Playing
  all_turned [] p = p
  all_turned (t ∷ ts) p = all_turned ts (turned t p)

  -- the calls of the first n CPUs run to their ends, CPU 0's first
  abbrev pub cpus_ran : ℕ → Playing → Playing
  cpus_ran zero p = p
  cpus_ran (suc c) p = ran (actor.Cpu c) (cpus_ran c p)

  -- all calls in flight run to their ends, the consumer's last
  abbrev pub all_ran : Playing → Playing
  all_ran p = ran actor.Consumer (cpus_ran p.state.config.cpus p)

  -- after the last turn, with all calls at their ends
  abbrev pub played : Config → List Turn → Playing
  played k ts = all_ran (all_turned ts (playing_at_start k))

  -- the deeds of a play, its close among them, the latest first
  abbrev pub deeds_of : Config → List Turn → List Deed
  deeds_of k ts = closing shape k (played k ts).state.deeds

  -- the ended calls with their answers, in order of ending
  abbrev pub answers_of : Config → List Turn → List EndedCall
  answers_of k ts = map ended (reverse (played k ts).noted)

abbrev pub begin_refusal : ℕ → Option BeginFault → Option PlayFault
begin_refusal i None = None
begin_refusal i (Some begin_fault.NoSuchActor) = Some (NoSuchActor i)
begin_refusal i (Some begin_fault.Busy) = Some (Busy i)
begin_refusal i (Some begin_fault.BadRecord) = Some (BadRecord i)

abbrev pub step_refusal : ℕ → Option StepFault → Option PlayFault
step_refusal i None = None
step_refusal i (Some step_fault.NoSuchActor) = Some (NoSuchActor i)
step_refusal i (Some step_fault.IdleStep) = Some (IdleStep i)
step_refusal i (Some step_fault.Memory) = None

abbrev pub or_else : Option PlayFault → Option PlayFault → Option PlayFault
or_else None q = q
or_else (Some f) q = Some f

abbrev pub setup_fault : Option StartFault → Option PlayFault
setup_fault None = None
setup_fault (Some f) = Some (Setup f)

module _ (shape : ℕ → Option Shape) (accepts : Record → Bool) where
  -- why a turn is refused; turns are numbered from 0
  abbrev pub refusal : ℕ → Turn → PlayState → Option PlayFault
  refusal i (BeginCpu c o) st = begin_refusal i (begin_cpu_fault accepts c o st)
  refusal i (BeginConsumer o) st = begin_refusal i (begin_consumer_fault o st)
  refusal i (Step a) st = step_refusal i (idle_step_fault a st)
  refusal i (RunCpu c o) st = begin_refusal i (begin_cpu_fault accepts c o st)
  refusal i (RunConsumer o) st = begin_refusal i (begin_consumer_fault o st)

  -- the first turn that is refused, numbered from i on
  abbrev pub turn_fault : ℕ → List Turn → Playing → Option PlayFault
  turn_fault i [] p = None
  turn_fault i (t ∷ ts) p = or_else (refusal i t p.state) (turn_fault (i + 1) ts (turned shape t p))

  -- why a play is refused: its setup first
  abbrev pub play_fault : Config → List Turn → Option PlayFault
  play_fault k ts = or_else (setup_fault (start_fault k)) (turn_fault 0 ts (playing_at_start k))

abbrev pub is_worn_answer : Answer → Bool
is_worn_answer (answer.Traced traced_answer.Worn) = true
is_worn_answer (answer.Opening opening.Worn) = true
is_worn_answer (answer.Spoken spoken_answer.Worn) = true
is_worn_answer (answer.Decided decided_answer.Worn) = true
is_worn_answer a = false

abbrev pub is_by : ℕ → Actor → Bool
is_by c (actor.Cpu a) = c == a
is_by c actor.Consumer = false

-- how many of the CPU's calls were answered Worn
abbrev pub worn_answers : ℕ → List EndedCall → ℕ
worn_answers c [] = 0
worn_answers c (e ∷ es) = worn_answers c es + (if is_by c e.0 && is_worn_answer e.2 then 1 else 0)

-- the same, as far as 64 bits count
abbrev pub worn_count : List EndedCall → ℕ → ℕ
worn_count es c = min (worn_answers c es) (2 ^ 64 - 1)
