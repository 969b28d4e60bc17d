-- Cited by calls. The calls on schemas and sessions, and those that bring a CPU or the consumer home.
use Rattle.std.specs.Prelude.{ℕ, ◌≡◌, Bool, true, false, nat_lt, [], length, replicate, Option, Some, None, ◌⊎◌, MatchResult, Result, if◌then◌else◌}
use Rattle.dspec_c.specs.{Handles.held_in, Handles.is_full, Homes.CpuSide, Statuses.already_out, Statuses.bad_handle, Statuses.bad_policy, Statuses.busy, Statuses.no_memory, Statuses.no_such_cpu}
use Rattle.dspec_c.specs.{Statuses.not_home, Statuses.start_status, Whole.EndedBy, Whole.Going, Whole.GoesOut, Whole.IsAway, Whole.IsHome, Whole.IsJustStarted, Whole.LookedLater, Whole.LooksIfThere}
use Rattle.dspec_c.specs.{Whole.TheyGoOut, Whole.inside_at, Words.Outside.EnabledRows, Words.Outside.start_fault, Words.Outside.One, Words.Outside.Two, Words.Outside.Config}
use Rattle.dspec_c.specs.{Words.Outside.StartFault, declared.consumer_side.ConsumerSide.ConsumerSide, declared.ended.EndedSession.EndedSession, declared.handle.Handle.Handle}
use Rattle.dspec_c.specs.{declared.held.HandleValue.HandleValue}
use Rattle.dspec_c.specs.declared.held.HandleValue.TheVariants as held

-- no enablings, and no stamp
abbrev pub new_schema : EnabledRows
new_schema = record { header = One; rows = [] }

-- a schema that is held is looked at
abbrev pub LooksAtSchema : HandleValue → Option EnabledRows → HandleValue → Type 0
LooksAtSchema (held.Schema e) found now = (found ≡ Some e) × (now ≡ held.Schema e)
LooksAtSchema was found now = (found ≡ None) × (now ≡ was)

-- a schema's records have a stamp from then on; nothing else changes
abbrev pub StampAnswers : HandleValue → ℕ → HandleValue → Type 0
StampAnswers (held.Schema e) status now = (status ≡ 0) × (now ≡ held.Schema (record { header = Two; rows = e.rows }))
StampAnswers was status now = (status ≡ bad_handle) × (now ≡ was)

-- a session was started with this, over this schema, and the handle has it
pub record Begins (k : Config) (schema : EnabledRows) (now : Handle) : Type 0 where
  pub full : is_full now ≡ true
  pub whole : Going
  pub holds : held_in now ≡ held.Session whole
  pub begun : IsJustStarted k schema whole

-- a session is in the handle; or memory was refused, and that stays as it was
abbrev pub KeptSo : Going → ℕ → Handle → Handle → Type 0
KeptSo whole status was now = ((status ≡ 0) × (is_full now ≡ true) × (held_in now ≡ held.Session whole)) ⊎ ((status ≡ no_memory) × (now ≡ was))

-- Whether a session starts with what was asked for, which has no policy where that isn't one; where it doesn't, the handle for it
-- stays as it was.
abbrev pub StartsSo : Option Config → EnabledRows → ℕ → Handle → Handle → Type 0
StartsSo None schema status was now = (status ≡ bad_policy) × (now ≡ was)
StartsSo (Some k) schema status was now =
    ((start_fault k ≡ None) × (((status ≡ 0) × Begins k schema now) ⊎ ((status ≡ no_memory) × (now ≡ was))))
    ⊎ ((fault : StartFault) × (start_fault k ≡ Some fault) × (status ≡ start_status fault) × (now ≡ was))

-- a schema is looked at, and stays as it was
abbrev pub StartAnswers : Option Config → HandleValue → ℕ → HandleValue → Handle → Handle → Type 0
StartAnswers k (held.Schema e) status left was now = (left ≡ held.Schema e) × StartsSo k e status was now
StartAnswers k schema status left was now = (left ≡ schema) × (status ≡ bad_handle) × (now ≡ was)

abbrev pub is_cpu_in : HandleValue → Bool
is_cpu_in (held.Cpu side) = true
is_cpu_in h = false

abbrev pub is_consumer_in : HandleValue → Bool
is_consumer_in (held.Consumer side) = true
is_consumer_in h = false

-- why a CPU isn't handed out: there is none of the number, or it isn't at its place
abbrev pub cpu_due : ℕ → Going → Option ℕ
cpu_due c whole = if nat_lt c whole.cpus then (if inside_at c whole.places then None else Some already_out) else Some no_such_cpu

-- and why the consumer isn't
abbrev pub consumer_due : Going → Option ℕ
consumer_due whole = if whole.consumer.waits then None else Some already_out

-- the handle has the CPU of that number, which was at its place in this session, and is so no more
pub record GivesCpu (c : ℕ) (old new : Going) (now : Handle) : Type 0 where
  pub side : CpuSide
  pub goes : GoesOut c old side new
  pub full : is_full now ≡ true
  pub holds : held_in now ≡ held.Cpu side

-- the handle has the consumer of this session, of which no batch is out
pub record GivesConsumer (old new : Going) (now : Handle) : Type 0 where
  pub side : ConsumerSide
  pub go : TheyGoOut old side.out new
  pub none_out : side.taken.items ≡ replicate old.cpus None
  pub full : is_full now ≡ true
  pub holds : held_in now ≡ held.Consumer side

-- neither the session nor the handle for it changes
abbrev pub KeepsWhole : Going → Going → Handle → Handle → Type 0
KeepsWhole old new was now = (new ≡ old) × (now ≡ was)

-- it is handed out where nothing is due that refuses it, and there is memory
abbrev pub HandsOut : (Going → Going → Handle → Type 0) → Option ℕ → Going → ℕ → Going → Handle → Handle → Type 0
HandsOut gives (Some why) old status new was now = (status ≡ why) × KeepsWhole old new was now
HandsOut gives None old status new was now = ((status ≡ 0) × gives old new now) ⊎ ((status ≡ no_memory) × KeepsWhole old new was now)

-- A look at the place of that CPU, and at no other, shows whether it came home, and changes nothing else. A CPU that is at its place is
-- handed out, where there is memory.
abbrev pub HandsOutCpu : ℕ → Going → ℕ → Going → Handle → Handle → Type 0
HandsOutCpu c old status new was now = (looked : Going) × LooksIfThere c old looked × HandsOut (GivesCpu c) (cpu_due c looked) looked status new was now

abbrev pub CpuOfAnswers : ℕ → HandleValue → ℕ → HandleValue → Handle → Handle → Type 0
CpuOfAnswers c (held.Session old) status left was now = (new : Going) × (left ≡ held.Session new) × HandsOutCpu c old status new was now
CpuOfAnswers c session status left was now = (left ≡ session) × (status ≡ bad_handle) × (now ≡ was)

abbrev pub ConsumerOfAnswers : HandleValue → ℕ → HandleValue → Handle → Handle → Type 0
ConsumerOfAnswers (held.Session old) status left was now = (new : Going) × (left ≡ held.Session new) × HandsOut GivesConsumer (consumer_due old) old status new was now
ConsumerOfAnswers session status left was now = (left ≡ session) × (status ≡ bad_handle) × (now ≡ was)

-- The session has ended: its handle is empty, and the other one has what is left of each of its CPUs, with the page of what they did.
pub record Ends (old : Going) (now left : Handle) : Type 0 where
  pub emptied : is_full now ≡ false
  pub full : is_full left ≡ true
  pub ended : EndedSession
  pub holds : held_in left ≡ held.Closed ended
  pub all : length ended.closed ≡ old.cpus
  pub by : EndedBy old ended.closed ended.refused.items

-- the session goes on, and the other handle has what it had
pub record GoesOn (old : Going) (now closed left : Handle) : Type 0 where
  pub full : is_full now ≡ true
  pub holds : held_in now ≡ held.Session old
  pub other : left ≡ closed

-- both handles have what they had
pub record Keeps (was now closed left : Handle) : Type 0 where
  pub full : is_full now ≡ is_full was
  pub holds : held_in now ≡ held_in was
  pub other : left ≡ closed

-- a look at whether all of the session that is held is home, and why it doesn't end
abbrev pub LooksHome : {U : Type 0} → HandleValue → Result U ℕ → HandleValue → Type 0
LooksHome (held.Session old) r now =
    (new : Going) × (now ≡ held.Session new) × LookedLater old new × MatchResult r (λ _. IsHome new) (λ why. (why ≡ not_home) × IsAway new)
LooksHome h r now = (now ≡ h) × MatchResult r (λ _. ⊥) (λ why. why ≡ bad_handle)

-- What is held ends; or it can't, and is given back as it was.
abbrev pub EndsSo : HandleValue → Result EndedSession HandleValue → Type 0
EndsSo (held.Session old) r = MatchResult r (λ (ended : EndedSession). (length ended.closed ≡ old.cpus) × EndedBy old ended.closed ended.refused.items) (λ back. back ≡ held.Session old)
EndsSo h r = MatchResult r (λ _. ⊥) (λ back. back ≡ h)

-- A look shows who has come home, and changes nothing else. A session of which all is home ends; or its memory is still shared, and
-- it goes on. One of which something isn't home goes on.
abbrev pub FinishAnswers : HandleValue → Handle → Handle → ℕ → Handle → Handle → Type 0
FinishAnswers (held.Session old) was closed status now left = (new : Going) × LookedLater old new × (
    ((status ≡ 0) × IsHome new × Ends new now left)
    ⊎ (((status ≡ busy) × IsHome new × GoesOn new now closed left)
    ⊎ ((status ≡ not_home) × IsAway new × GoesOn new now closed left)))
FinishAnswers h was closed status now left = (status ≡ bad_handle) × Keeps was now closed left

-- it went home, and the handle is empty; else it wasn't one, and nothing changed
abbrev pub HomeAnswers : Bool → Handle → ℕ → Handle → Type 0
HomeAnswers true was status now = (status ≡ 0) × (is_full now ≡ false)
HomeAnswers false was status now = (status ≡ bad_handle) × (is_full now ≡ is_full was) × (held_in now ≡ held_in was)
