-- Believed. The parts of one session, and what it begins with.
use Rattle.std.specs.{Option.option_map_or, Prelude.ℕ, Prelude.◌≡◌, Prelude.List, Prelude.[], Prelude.length, Prelude.Option, Prelude.Some, Prelude.None, Prelude.IsSome, Prelude.slice_get}
use Rattle.dspec_session_core.specs.Consumers.{Consuming, IsConsumerOf, pairs_of}
use Rattle.dspec_session_core.specs.Words.Outside.{EnabledRows, enabled, table_shape, table_accepts, table_text, start_fault, Pair, ConsumerKnows, IsUnusedCpu, set_up, HasList, end_of, spare_of}
use Rattle.dspec_session_core.specs.Words.Outside.{words_of, worn_of, Belongs, CpuIdentity, identity, Batch, Deed, Cpu}
use Rattle.dspec_session_core.specs.declared.session.Session.{Session}
use Rattle.dspec_table.specs.declared.seats.Words.{Words}

-- Such a CPU has this number in the session: it belongs to the words, its schema is the one of all, and its rings are the pair
-- whose other end the consumer has there.
pub record IsCpuOf {S : Type 0} (schema : S) (words : Words) (c : ℕ) (there : Option Pair) (i : CpuIdentity S) : Type 0 where
  pub belongs : Belongs words i
  pub number : i.number ≡ c
  pub one : i.schema ≡ schema
  pub pair : there ≡ Some i.pair

-- The parts are those of one start, or have become of them by calls: all CPUs, in order, and the consumer.
pub record IsSession {S : Type 0} (schema : S) (session : Session S) : Type 0 where
  pub checked : start_fault (set_up (words_of session.shared)) ≡ None
  pub consumer : IsConsumerOf (words_of session.shared) session.consumer
  pub all : length session.cpus.items ≡ (set_up (words_of session.shared)).cpus
  pub each : (c : ℕ) (cpu : Cpu S) → slice_get session.cpus.items c ≡ Some cpu
      → IsCpuOf schema (words_of session.shared) c (slice_get (pairs_of session.consumer) c) (identity cpu)

-- nothing was asked of the CPU yet: it has the empty list, nothing went through its end, and a spare is in hand
pub record IsFresh {S : Type 0} (has : Cpu S → List Deed → Type 0) (cpu : Cpu S) : Type 0 where
  pub list : has cpu []
  pub worn : worn_of cpu ≡ 0
  pub end : IsUnusedCpu (end_of cpu)
  pub spare : IsSome (spare_of cpu)

-- a CPU whose records are those of enablings has the list
abbrev pub Has : Cpu EnabledRows → List Deed → Type 0
Has cpu = HasList (table_shape cpu.schema.header (enabled cpu.schema.rows)) (table_accepts cpu.schema.header (enabled cpu.schema.rows)) (table_text cpu.schema.header (enabled cpu.schema.rows)) cpu

-- of the CPU with this number: which lists it has, how many of its calls were answered Worn, and its batches that were taken
abbrev pub HasAt : {S : Type 0} → (Cpu S → List Deed → Type 0) → List (Cpu S) → ℕ → List Deed → Type 0
HasAt {S} has cpus c p = (cpu : Cpu S) → slice_get cpus c ≡ Some cpu → has cpu p

abbrev pub worn_at : {S : Type 0} → List (Cpu S) → ℕ → ℕ
worn_at cpus c = option_map_or (λ cpu. worn_of cpu) (slice_get cpus c) 0

abbrev pub taken_at : Consuming → ℕ → List Batch
taken_at x c = option_map_or (λ (e : ConsumerKnows). e.taken) (slice_get x.ends c) []
