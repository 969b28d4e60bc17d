-- Cited by calls. What taking a batch and giving one back do.
use Rattle.std.specs.Prelude.{ℕ, ◌≡◌, ◌≢◌, ◌<◌, ◌≤◌, ◌⊎◌, ◌+◌, [], ◌∷◌, ◌++◌, length, slice_get, slice_set, Some}
use mathlib.Core.List.{IsPrefix}
use Rattle.dspec_session_core.specs.{Consumers.Consuming, Consumers.set_up_of, Words.Outside.Batch, Words.Outside.ConsumerKnows, Words.Outside.consumer_moved}

-- the batch came out of the end, by one pop: it is the one known to be waiting first, if one is
pub record TookFrom (batch : Batch) (e f : ConsumerKnows) : Type 0 where
  pub pair : f.pair ≡ e.pair
  pub taken : f.taken ≡ e.taken ++ batch ∷ []
  pub next : IsPrefix e.waiting (batch ∷ f.waiting)
  pub given : (f.given ≡ e.given) × (f.room ≡ e.room)
  pub moves : f.moves ≡ e.moves + 1

-- the batch went back into it, by one push
pub record GivenTo (batch : Batch) (e f : ConsumerKnows) : Type 0 where
  pub pair : f.pair ≡ e.pair
  pub given : f.given ≡ e.given ++ batch ∷ []
  pub room : e.room ≤ f.room + 1
  pub taken : (f.taken ≡ e.taken) × (f.waiting ≡ e.waiting)
  pub moves : f.moves ≡ e.moves + 1

-- the batch was taken from the CPU c, and nothing else changed
pub record Took (c : ℕ) (batch : Batch) (x y : Consuming) : Type 0 where
  pub before : ConsumerKnows
  pub after : ConsumerKnows
  pub known : c < (set_up_of x).cpus
  pub there : slice_get x.ends c ≡ Some before
  pub took : TookFrom batch before after
  pub ends : y.ends ≡ slice_set x.ends c after
  pub seat : y.seat ≡ x.seat

-- the batch was given back to its CPU, of which one was out and which has buffers of its size, and nothing else changed
pub record GaveBack (batch : Batch) (x y : Consuming) : Type 0 where
  pub before : ConsumerKnows
  pub after : ConsumerKnows
  pub known : batch.cpu < (set_up_of x).cpus
  pub there : slice_get x.ends batch.cpu ≡ Some before
  pub out : length before.given < length before.taken
  pub size : batch.buffer.size ≡ (set_up_of x).bufsize
  pub given : GivenTo batch before after
  pub ends : y.ends ≡ slice_set x.ends batch.cpu after
  pub seat : y.seat ≡ x.seat

-- its ring was tried in vain: the end of the CPU c made one move more, and nothing else changed
pub record Tried (c : ℕ) (x y : Consuming) : Type 0 where
  pub before : ConsumerKnows
  pub there : slice_get x.ends c ≡ Some before
  pub ends : y.ends ≡ slice_set x.ends c (consumer_moved before)
  pub seat : y.seat ≡ x.seat

-- no batch came: there is no such CPU, and nothing changed, or its ring was tried in vain, where none was known to be waiting
abbrev pub FoundNone : ℕ → Consuming → Consuming → Type 0
FoundNone c x y = (((set_up_of x).cpus ≤ c) × (y ≡ x)) ⊎ ((tried : Tried c x y) × (tried.before.waiting ≡ []))

-- no batch of that CPU is out, or it isn't there
abbrev pub NoneOut : ℕ → Consuming → Type 0
NoneOut c x = (e : ConsumerKnows) → slice_get x.ends c ≡ Some e → length e.taken ≤ length e.given

-- why a batch doesn't get as far as its ring: no such CPU, none of its batches out, or a buffer of another size
abbrev pub IsUnfit : Batch → Consuming → Type 0
IsUnfit batch x = ((set_up_of x).cpus ≤ batch.cpu) ⊎ (NoneOut batch.cpu x ⊎ (batch.buffer.size ≢ (set_up_of x).bufsize))

-- a batch isn't taken back: it doesn't get as far, and nothing changed, or its ring was tried in vain, which had no free place as
-- far as the consumer could see
abbrev pub IsNotTakenBack : Batch → Consuming → Consuming → Type 0
IsNotTakenBack batch x y = (IsUnfit batch x × (y ≡ x)) ⊎ ((tried : Tried batch.cpu x y) × (tried.before.room ≡ 0))
