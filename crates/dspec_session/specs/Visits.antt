-- Cited by calls. What the demonstration's consumer does in its rounds, and what it follows of the batches.
use Rattle.std.specs.Prelude.{ℕ, ◌≡◌, ◌<◌, ◌+◌, ◌⊎◌, true, None}
use Rattle.dspec_session.specs.Rising.{FollowsText}
use Rattle.dspec_session.specs.Words.Outside.{EnabledRows, enabled, table_shape, table_accepts, table_text, Asked, FoundNone, GaveBack, IsNotTakenBack, Took, Cleaned, Consuming, set_up_of, view_of}
use Rattle.dspec_session.specs.Words.Outside.{Batch}
use Rattle.dspec_session.specs.declared.demonstration.{four.Four.Four, order.Order.Order}

-- before anything was read
abbrev pub none_read : Order
none_read = record { last = None; rises = true }

abbrev pub none_taken : Four Order
none_taken = record { first = none_read; second = none_read; third = none_read; fourth = none_read }

-- the records of the batch are followed
abbrev pub FollowsBatch : EnabledRows → Batch → Order → Order → Type 0
FollowsBatch s b o u = FollowsText (table_shape s.header (enabled s.rows)) (table_accepts s.header (enabled s.rows)) (table_text s.header (enabled s.rows)) b.buffer.text o u

-- it was given back, or it is refused
abbrev pub IsBackOrRefused : Batch → Consuming → Consuming → Type 0
IsBackOrRefused b x y = GaveBack b x y ⊎ IsNotTakenBack b x y

-- none came, or a batch came out of the ring, was followed, and went back
abbrev pub IsTaken : EnabledRows → ℕ → Consuming → Order → Consuming → Order → Type 0
IsTaken s c x o y u =
    (FoundNone c x y × (u ≡ o))
    ⊎ ((b : Batch) × (z : Consuming) × Took c b x z × FollowsBatch s b o u × IsBackOrRefused b z y)

-- the CPU was asked, and then a batch of it taken
pub record Visited (s : EnabledRows) (c : ℕ) (x : Consuming) (o : Order) (y : Consuming) (u : Order) : Type 0 where
  pub asked : Consuming
  pub asks : c < (set_up_of x).cpus → Asked c x asked
  pub takes : IsTaken s c asked o y u

-- so was each of four CPUs, in order
pub record VisitedAll (s : EnabledRows) (x : Consuming) (o : Four Order) (y : Consuming) (u : Four Order) : Type 0 where
  pub one : Consuming
  pub two : Consuming
  pub three : Consuming
  pub first : Visited s 0 x o.first one u.first
  pub second : Visited s 1 one o.second two u.second
  pub third : Visited s 2 two o.third three u.third
  pub fourth : Visited s 3 three o.fourth y u.fourth

-- and then there was a clean
pub record ConsumerRound (s : EnabledRows) (x : Consuming) (o : Four Order) (y : Consuming) (u : Four Order) : Type 0 where
  pub visited : Consuming
  pub visits : VisitedAll s x o visited u
  pub released : ℕ
  pub cleans : Cleaned released (view_of visited) (view_of y)
  pub ends : y.ends ≡ visited.ends

-- so many rounds since it was this consumer and that was followed, one after the other
pub data ConsumerRounds (s : EnabledRows) (first : Consuming) (none : Four Order) : ℕ → Consuming → Four Order → Type 0 where
  no_round : {x : Consuming} {o : Four Order} → x ≡ first → o ≡ none → ConsumerRounds s first none 0 x o
  one_round : {n : ℕ} {x : Consuming} {o : Four Order} (m : ℕ) (y : Consuming) (u : Four Order) → ConsumerRounds s first none n x o → ConsumerRound s x o y u → m ≡ n + 1
      → ConsumerRounds s first none m y u
