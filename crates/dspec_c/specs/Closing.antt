-- Cited by calls. The end of a session in one call: its CPUs and its consumer go home, and it ends.
use Rattle.std.specs.{Borrow.MutBor, List.list_all, Prelude.ℕ, Prelude.◌≡◌, Prelude.Bool, Prelude.true, Prelude.false, Prelude.List, Prelude.length, Prelude.map, Prelude.replicate}
use Rattle.std.specs.{Prelude.MatchBool, Prelude.if◌then◌else◌}
use Rattle.dspec_c.specs.{Handles.held_in, Handles.is_full, SessionCalls.FinishAnswers, SessionCalls.is_consumer_in, SessionCalls.is_cpu_in, Statuses.bad_handle, declared.handle.Handle.Handle}
use Rattle.dspec_c.specs.{declared.held.HandleValue.HandleValue}
use Rattle.dspec_c.specs.declared.held.HandleValue.TheVariants as held

abbrev pub is_session_in : HandleValue → Bool
is_session_in (held.Session whole) = true
is_session_in h = false

-- which handles these are, which of them are full, and what is in each
abbrev pub names : List (MutBor Handle) → List ℕ
names hs = map (λ h. h.ghost_name) hs

abbrev pub fulls : List (MutBor Handle) → List Bool
fulls hs = map (λ h. is_full h.now) hs

abbrev pub held_in_each : List (MutBor Handle) → List HandleValue
held_in_each hs = map (λ h. held_in h.now) hs

-- a CPU is in each of them
abbrev pub are_cpus_in : List (MutBor Handle) → Bool
are_cpus_in hs = list_all is_cpu_in (held_in_each hs)

-- the handle has what it had
pub record KeepsHeld (was now : Handle) : Type 0 where
  pub full : is_full now ≡ is_full was
  pub holds : held_in now ≡ held_in was

-- the same handles have what they had
pub record KeepAll (was now : List (MutBor Handle)) : Type 0 where
  pub same : names now ≡ names was
  pub full : fulls now ≡ fulls was
  pub hold : held_in_each now ≡ held_in_each was

-- the same handles are empty
pub record EmptiesAll (was now : List (MutBor Handle)) : Type 0 where
  pub same : names now ≡ names was
  pub empty : fulls now ≡ replicate (length was) false

-- the handles that a close is given
pub record Closing : Type 0 where
  pub session : Handle
  pub cpus : List (MutBor Handle)
  pub consumer : Handle
  pub closed : Handle

-- a session is in the one, the consumer of one in the other, and a CPU in each of the others
abbrev pub can_close : Closing → Bool
can_close h = if is_session_in (held_in h.session) then (if is_consumer_in (held_in h.consumer) then are_cpus_in h.cpus else false) else false

-- Each CPU, and the consumer, has gone home, to whichever session it is of; and then the session ended, or goes on, as a finish tells.
pub record Closes (status : ℕ) (old new : Closing) : Type 0 where
  pub cpus : EmptiesAll old.cpus new.cpus
  pub consumer : is_full new.consumer ≡ false
  pub finish : FinishAnswers (held_in old.session) old.session old.closed status new.session new.closed

-- one of them isn't what it has to be, and all have what they had
pub record RefusesClose (status : ℕ) (old new : Closing) : Type 0 where
  pub bad : status ≡ bad_handle
  pub session : KeepsHeld old.session new.session
  pub cpus : KeepAll old.cpus new.cpus
  pub consumer : KeepsHeld old.consumer new.consumer
  pub closed : new.closed ≡ old.closed

abbrev pub CloseAnswers : ℕ → Closing → Closing → Type 0
CloseAnswers status old new = MatchBool (can_close old) (Closes status old new) (RefusesClose status old new)

abbrev pub closing_of : Handle → List (MutBor Handle) → Handle → Handle → Closing
closing_of session cpus consumer closed = record { session = session; cpus = cpus; consumer = consumer; closed = closed }
