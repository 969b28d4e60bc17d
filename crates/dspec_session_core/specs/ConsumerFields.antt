-- Cited by calls. How a consumer's fields say what contracts see, and what holds of them.
use Rattle.std.specs.Prelude.{ℕ, ◌≡◌, ◌≤◌, ◌+◌, length, slice_get, slice_index, vec_len, vec_capacity, Some}
use Rattle.dspec_session_core.specs.{Consumers.Consuming, Words.Outside.ConsumerKnows, Words.Outside.known_there, declared.consumer.Consumer.TheInside.Inside}

abbrev pub consuming : Inside → Consuming
consuming i = record { seat = i.seat; ends = i.ends.items }

-- An end for each CPU, of which no more was asked than the batch after those taken. What the session ends in is empty, with room
-- for all CPUs.
pub record IsConsumer (i : Inside) : Type 0 where
  pub config : (known_there i.seat).config ≡ i.config
  pub all : length i.ends.items ≡ i.config.cpus
  pub asked : (c : ℕ) (e : ConsumerKnows) → slice_get i.ends.items c ≡ Some e → slice_index (known_there i.seat).asks c ≤ length e.taken + 1
  pub seats : (vec_len i.seats ≡ 0) × (i.config.cpus ≤ vec_capacity i.seats)
  pub parted : (vec_len i.parted ≡ 0) × (i.config.cpus ≤ vec_capacity i.parted)
  pub left : (vec_len i.left ≡ 0) × (i.config.cpus ≤ vec_capacity i.left)
