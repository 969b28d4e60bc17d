-- Cited by calls. Schedules of whole calls on a session: which call a turn is, and why a turn or a whole schedule isn't played.
use Rattle.std.specs.Prelude.{ℕ, ◌≡◌, ◌+◌, Bool, nat_lt, true, List, [], ◌∷◌, length, Option, Some, None, if◌then◌else◌}
use Rattle.dspec_replay.specs.Words.Outside.{EnabledRows, Record, default_fields, enabled, table_accepts, start_fault, record_passes, EndedCall, Header, Actor, ConsumerOp, Op, Turn, RunCpu}
use Rattle.dspec_replay.specs.Words.Outside.{RunConsumer, Config, StartFault}
use Rattle.dspec_replay.specs.declared.playing.SessionReplay.{SessionReplay}
use Rattle.dspec_replay.specs.declared.session_fault.SessionFault.{SessionFault, TheVariants.Play, TheVariants.NoText, TheVariants.NoWholeCall}
use Rattle.dspec_deeds.specs.declared.calls.Actor.TheVariants as actor
use Rattle.dspec_deeds.specs.declared.calls.ConsumerOp.TheVariants as consumer_op
use Rattle.dspec_deeds.specs.declared.calls.Op.TheVariants as op
use Rattle.dspec_interleaving.specs.declared.outcome.PlayFault.TheVariants as play_fault

-- who makes the whole call that a turn is, and which call it is
abbrev pub whole_call_of : Turn → Option (Actor × Op)
whole_call_of (RunCpu c o) = Some (actor.Cpu c, op.Cpu o)
whole_call_of (RunConsumer o) = Some (actor.Consumer, op.Consumer o)
whole_call_of t = None

-- the same of a call that ended
abbrev pub call_that_ended : EndedCall → Option (Actor × Op)
call_that_ended e = Some (e.0, e.1)

-- the CPU that a call of the consumer is about, if it is about one, is one of so many
abbrev pub is_about_one_of : ℕ → ConsumerOp → Bool
is_about_one_of n (consumer_op.Ask c) = nat_lt c n
is_about_one_of n (consumer_op.Take c) = nat_lt c n
is_about_one_of n (consumer_op.GiveBack c) = nat_lt c n
is_about_one_of n o = true

-- why the turn with a number isn't played by a session of so many CPUs
abbrev pub turn_refusal : (Record → Bool) → ℕ → ℕ → Turn → Option SessionFault
turn_refusal accepted n i (RunCpu c o) =
    if nat_lt c n then (if record_passes accepted o then None else Some (Play (play_fault.BadRecord i))) else Some (Play (play_fault.NoSuchActor i))
turn_refusal accepted n i (RunConsumer o) = if is_about_one_of n o then None else Some (Play (play_fault.NoSuchActor i))
turn_refusal accepted n i t = Some (NoWholeCall i)

-- the first of two that is due, if one is
abbrev pub first_of : Option SessionFault → Option SessionFault → Option SessionFault
first_of None b = b
first_of (Some h) b = Some h

-- the first of these turns, numbered from there on, that isn't played
abbrev pub first_refusal : (Record → Bool) → ℕ → ℕ → List Turn → Option SessionFault
first_refusal accepted n i [] = None
first_refusal accepted n i (t ∷ ts) = first_of (turn_refusal accepted n i t) (first_refusal accepted n (i + 1) ts)

abbrev pub setup_refusal : Option StartFault → Option SessionFault
setup_refusal None = None
setup_refusal (Some f) = Some (Play (play_fault.Setup f))

-- why a schedule isn't played: its configuration, else its first turn that can't be
abbrev pub schedule_refusal : (Record → Bool) → Config → List Turn → Option SessionFault
schedule_refusal accepted k ts = first_of (setup_refusal (start_fault k)) (first_refusal accepted k.cpus 0 ts)

-- which records a schedule may have: those of its enablings, else those of the default action of its header
abbrev pub accepted_in : Option EnabledRows → Header → Record → Bool
accepted_in (Some e) h = table_accepts e.header (enabled e.rows)
accepted_in None h = table_accepts h default_fields

-- a fault is the one that is due; want of memory, and a buffer that can't be read back, may come at any time
abbrev pub IsDue : Option SessionFault → SessionFault → Type 0
IsDue due (Play play_fault.Memory) = Unit {0}
IsDue due (NoText c) = Unit {0}
IsDue due h = due ≡ Some h

-- it may come at any time
abbrev pub IsSudden : SessionFault → Type 0
IsSudden h = (due : Option SessionFault) → IsDue due h

-- what a call leaves of a session that is played on: its schema, and how many CPUs it has
pub record IsSamePlay {S : Type 0} (old new : SessionReplay S) : Type 0 where
  pub schema : new.schema ≡ old.schema
  pub cpus : length new.session.cpus.items ≡ length old.session.cpus.items
