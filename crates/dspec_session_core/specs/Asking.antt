-- Cited by calls. What an ask does.
use Rattle.std.specs.Prelude.{ℕ, ◌≡◌, ◌==◌, ◌+◌, slice_index, if◌then◌else◌}
use Rattle.dspec_session_core.specs.{Consumers.Consuming, Consumers.view_of, Consumers.taken_from, Words.Outside.StoredAsk}

-- One store, of one more than the batches taken: the batch after those is asked of the CPU c, and of no other CPU anything. Where
-- that ask stands, each ask is as it was.
pub record Asked (c : ℕ) (x y : Consuming) : Type 0 where
  pub stored : StoredAsk c (taken_from c x + 1) (view_of x) (view_of y)
  pub asks : (a : ℕ) → slice_index (view_of y).asks a ≡ (if a == c then taken_from c x + 1 else slice_index (view_of x).asks a)
  pub ends : y.ends ≡ x.ends
