-- Believed. What contracts see of a session's consumer.
use Rattle.std.specs.{Option.option_map_or, Prelude.ℕ, Prelude.◌≡◌, Prelude.List, Prelude.length, Prelude.map, Prelude.slice_get}
use Rattle.dspec_session_core.specs.Words.Outside.{Config, View, ConsumerSeat, known_there, IsConsumerAt, Pair, ConsumerKnows}
use Rattle.dspec_table.specs.declared.seats.Words.{Words}

-- its seat at the words, and its ends of the CPUs' rings, in order
pub record Consuming : Type 0 where
  pub seat : ConsumerSeat
  pub ends : List ConsumerKnows

-- what the seat knows
abbrev pub view_of : Consuming → View
view_of x = known_there x.seat

-- what the session was started with
abbrev pub set_up_of : Consuming → Config
set_up_of x = (view_of x).config

-- how many batches of the CPU were taken
abbrev pub taken_from : ℕ → Consuming → ℕ
taken_from c x = option_map_or (λ e. length e.taken) (slice_get x.ends c) 0

-- the consumer is one of these words'
abbrev pub IsConsumerOf : Words → Consuming → Type 0
IsConsumerOf words x = IsConsumerAt words x.seat

-- whose rings its ends are of, in the order of the CPUs
abbrev pub pairs_of : Consuming → List Pair
pairs_of x = map (λ (e : ConsumerKnows). e.pair) x.ends

-- it is the same consumer of the same session
pub record IsSameConsumer (old new : Consuming) : Type 0 where
  pub config : set_up_of new ≡ set_up_of old
  pub pairs : pairs_of new ≡ pairs_of old

-- it is the same consumer, and still that of these words
pub record Stays (words : Words) (old new : Consuming) : Type 0 where
  pub session : IsConsumerOf words new
  pub same : IsSameConsumer old new
