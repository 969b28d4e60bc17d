-- Believed. What each end of a pair of rings knows. Lists of batches are in order of time, the oldest first.
use Rattle.std.specs.Prelude.{ℕ, ◌≡◌, ◌+◌, List, []}
use denote.RawPtr.{Ptr}
use Rattle.dspec_ring.specs.declared.batch.Batch.{Batch}

-- which ring it is: where its words and its places lie, and the names of its two ends
pub record Ring : Type 0 where
  pub words : Ptr
  pub places : Ptr
  pub names : ℕ × (ℕ × ℕ)

-- which two rings a call of `pair` made: the two ends of one call have the same, and keep it
pub record Pair : Type 0 where
  pub batches : Ring
  pub spares : Ring

-- the CPU's end: what it has handed on, how many places of that ring it knows to be free, the spares that came to it, those that
-- it knows to be waiting (they come next), and how many moves it made: pushes and pops, whatever the ring answered
pub record CpuKnows : Type 0 where
  pub pair : Pair
  pub handed : List Batch
  pub room : ℕ
  pub spares : List Batch
  pub waiting : List Batch
  pub moves : ℕ

-- the consumer's end: what it has taken, the batches that it knows to be waiting, what it has given back, how many places of
-- that ring it knows to be free, and how many moves it made
pub record ConsumerKnows : Type 0 where
  pub pair : Pair
  pub taken : List Batch
  pub waiting : List Batch
  pub given : List Batch
  pub room : ℕ
  pub moves : ℕ

-- the ends after a move that a ring refused, or that found it empty: one move more, and nothing else
abbrev pub cpu_moved : CpuKnows → CpuKnows
cpu_moved end = record end { moves = end.moves + 1 }

abbrev pub consumer_moved : ConsumerKnows → ConsumerKnows
consumer_moved end = record end { moves = end.moves + 1 }

-- nothing went through this end yet, and the two places for its batches are free
pub record IsUnusedCpu (end : CpuKnows) : Type 0 where
  pub handed : end.handed ≡ []
  pub room : end.room ≡ 2
  pub spares : end.spares ≡ []
  pub waiting : end.waiting ≡ []
  pub moves : end.moves ≡ 0

pub record IsUnusedConsumer (end : ConsumerKnows) : Type 0 where
  pub taken : end.taken ≡ []
  pub waiting : end.waiting ≡ []
  pub given : end.given ≡ []
  pub room : end.room ≡ 2
  pub moves : end.moves ≡ 0
