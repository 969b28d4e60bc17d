-- Cited by calls. The calls on the consumer's handle: each did what the library's call says of its answer.
use Rattle.std.specs.Prelude.{ℕ, ◌≡◌, ◌<◌, ◌≤◌, ◌⊎◌, Bool, Option, Some, None, MatchBool, MatchOption, slice_get, slice_set, ⊤}
use Rattle.dspec_c.specs.{Answered.Answered, ConsumerHomes.Theirs, Shows.TellsBatch, Statuses.asked_status, Statuses.bad_handle, Statuses.no_such_cpu, Statuses.already_out, Statuses.busy}
use Rattle.dspec_c.specs.{Statuses.no_batch, Words.Outside.Batch, Words.Outside.Asked, Words.Outside.Awaited, Words.Outside.FoundNone, Words.Outside.GaveBack, Words.Outside.IsNotTakenBack}
use Rattle.dspec_c.specs.{Words.Outside.Took, Words.Outside.Cleaned, Words.Outside.Consuming, Words.Outside.set_up_of, Words.Outside.view_of, Words.Outside.Stopped, declared.batches.CBatch.CBatch}
use Rattle.dspec_c.specs.{declared.consumer_side.ConsumerSide.ConsumerSide, declared.held.HandleValue.HandleValue}
use Rattle.dspec_c.specs.declared.held.HandleValue.TheVariants as held

-- `Consumer::ask`
abbrev pub Asks : ℕ → Bool → Consuming → Consuming → Type 0
Asks c a old new = MatchBool a ((c < (set_up_of old).cpus) × Asked c old new) (((set_up_of old).cpus ≤ c) × (new ≡ old))

-- `Consumer::clean`
pub record CleansSo (released : ℕ) (old new : Consuming) : Type 0 where
  pub cleaned : Cleaned released (view_of old) (view_of new)
  pub ends : new.ends ≡ old.ends

-- `Consumer::waiting_for`
pub record WaitsSo (c : ℕ) (answer : Option ℕ) (old new : Consuming) : Type 0 where
  pub awaited : MatchOption answer (((set_up_of old).cpus ≤ c) × (new ≡ old)) (λ count. (c < (set_up_of old).cpus) × Awaited c count (view_of old) (view_of new))
  pub ends : new.ends ≡ old.ends

-- the session that it is of is the same, and the consumer came of the other so
pub record OnTheirs (did : Consuming → Consuming → Type 0) (old new : Theirs) : Type 0 where
  pub shared : new.shared ≡ old.shared
  pub consumer : did old.consumer new.consumer

-- and the batches that are out are those that were
pub record OnOut (did : Consuming → Consuming → Type 0) (old new : ConsumerSide) : Type 0 where
  pub out : OnTheirs did old.out new.out
  pub taken : new.taken.items ≡ old.taken.items

-- the batch of the CPU that is out
abbrev pub IsOutOf : ℕ → Batch → ConsumerSide → Type 0
IsOutOf c b side = slice_get side.taken.items c ≡ Some (Some b)

-- none is out of the CPU, which there is
abbrev pub NoneIsOutOf : ℕ → ConsumerSide → Type 0
NoneIsOutOf c side = slice_get side.taken.items c ≡ Some None

-- what a take found, and what it told of a batch: there is no such CPU; one is out, of which there is one at a time; there is none; or it is out from then on
abbrev pub Finds : ℕ → ℕ → CBatch → CBatch → ConsumerSide → ConsumerSide → Type 0
Finds c status before told old new =
    ((status ≡ no_such_cpu) × ((set_up_of old.out.consumer).cpus ≤ c) × (told ≡ before) × (new ≡ old))
    ⊎ (((status ≡ already_out) × ((b : Batch) × IsOutOf c b old) × (told ≡ before) × (new ≡ old))
    ⊎ (((status ≡ no_batch) × NoneIsOutOf c old × (told ≡ before) × OnOut (FoundNone c) old new)
    ⊎ ((status ≡ 0) × ((b : Batch) × NoneIsOutOf c old × TellsBatch told b × OnTheirs (Took c b) old.out new.out × (new.taken.items ≡ slice_set old.taken.items c (Some b))))))

-- what became of a batch that was to go back: there is no such CPU; none of it is out; there is no room on the way back, and it stays out; or it went back
abbrev pub Returns : ℕ → ℕ → ConsumerSide → ConsumerSide → Type 0
Returns c status old new =
    ((status ≡ no_such_cpu) × ((set_up_of old.out.consumer).cpus ≤ c) × (new ≡ old))
    ⊎ (((status ≡ no_batch) × NoneIsOutOf c old × (new.out ≡ old.out) × (new.taken.items ≡ old.taken.items))
    ⊎ (((status ≡ busy) × ((b : Batch) × IsOutOf c b old × OnOut (IsNotTakenBack b) old new))
    ⊎ ((status ≡ 0) × ((b : Batch) × IsOutOf c b old × OnTheirs (GaveBack b) old.out new.out × (new.taken.items ≡ slice_set old.taken.items c None)))))

-- A call of the consumer, on what a handle holds: where that is the consumer, it stays so, and this was done on it; else the status
-- is BAD_HANDLE, what is held stays as it was, and so do the out parameters.
abbrev pub OnConsumer : (ConsumerSide → ConsumerSide → Type 0) → Type 0 → HandleValue → ℕ → HandleValue → Type 0
OnConsumer did stays (held.Consumer old) status now = (new : ConsumerSide) × (now ≡ held.Consumer new) × did old new
OnConsumer did stays was status now = (status ≡ bad_handle) × (now ≡ was) × stays

abbrev pub AskAnswers : ℕ → HandleValue → ℕ → HandleValue → Type 0
AskAnswers c was status now = OnConsumer (λ old new. Answered asked_status (λ a. OnOut (Asks c a) old new) status) ⊤ was status now

abbrev pub TakeAnswers : ℕ → HandleValue → ℕ → CBatch → CBatch → HandleValue → Type 0
TakeAnswers c was status before told now = OnConsumer (Finds c status before told) (told ≡ before) was status now

abbrev pub GiveBackAnswers : ℕ → HandleValue → ℕ → HandleValue → Type 0
GiveBackAnswers c was status now = OnConsumer (Returns c status) ⊤ was status now

abbrev pub CleanAnswers : HandleValue → ℕ → ℕ → ℕ → HandleValue → Type 0
CleanAnswers was status before released now = OnConsumer (λ old new. (status ≡ 0) × OnOut (CleansSo released) old new) (released ≡ before) was status now

-- what is told of how many slots wait for a CPU: nothing where there is no such CPU
abbrev pub ToldSo : Option ℕ → ℕ → ℕ → ℕ → Type 0
ToldSo (Some n) status before count = (status ≡ 0) × (count ≡ n)
ToldSo None status before count = (status ≡ no_such_cpu) × (count ≡ before)

abbrev pub WaitingAnswers : ℕ → HandleValue → ℕ → ℕ → ℕ → HandleValue → Type 0
WaitingAnswers c was status before count now =
    OnConsumer (λ old new. (answer : Option ℕ) × ToldSo answer status before count × OnOut (WaitsSo c answer) old new) (count ≡ before) was status now

abbrev pub StopAnswers : HandleValue → ℕ → HandleValue → Type 0
StopAnswers was status now = OnConsumer (λ old new. (status ≡ 0) × OnOut Stopped old new) ⊤ was status now
