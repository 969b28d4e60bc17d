-- Believed. What a sink got of a session.
use Rattle.std.specs.List.{All}
use Rattle.std.specs.Prelude.{ℕ, ◌≡◌, ◌+◌, ◌<◌, ◌==◌, Bool, List, [], ◌∷◌, ◌++◌, map, slice_get, Option, Some, None, if◌then◌else◌}
use Rattle.dspec.specs.Words.Outside.{EnabledRows, Record, enabled, table_accepts, table_shape, table_text, stream, waiting, ClosesAs, HoldInOrder, Consuming, Stays, set_up_of, view_of, taken_at}
use Rattle.dspec.specs.Words.Outside.{Shape, Config, Deed, Release, Batch, Left}
use Rattle.dspec_table.specs.declared.seats.Words.{Words}

-- a batch, with the number of the CPU that it came from
pub record Passed : Type 0 where
  pub from : ℕ
  pub batch : Batch

-- each came from one of so many CPUs
abbrev pub AreFrom : ℕ → List Passed → Type 0
AreFrom n xs = All (λ (x : Passed). x.from < n) xs

-- the batches of one CPU, in their order
abbrev pub passed_from : ℕ → List Passed → List Batch
passed_from c [] = []
passed_from c (x ∷ xs) = if x.from == c then x.batch ∷ passed_from c xs else passed_from c xs

-- what was left of one CPU: the batch that it had sealed and nobody took, then its last buffer
abbrev pub left_batches : Left → List Batch
left_batches l = waiting l.rest ++ l.last ∷ []

-- these batches of one CPU
abbrev pub each_from : ℕ → List Batch → List Passed
each_from n [] = []
each_from n (b ∷ bs) = record { from = n; batch = b } ∷ each_from n bs

-- what was left of these CPUs, the first of which has this number
abbrev pub rests_passed : ℕ → List Left → List Passed
rests_passed n [] = []
rests_passed n (l ∷ ls) = each_from n (left_batches l) ++ rests_passed (n + 1) ls

-- a sink that is there gets the batch, and one that was left out stays so
abbrev pub GetsIfThere : {K : Type 0} → (K → Batch → K → Type 0) → Option K → Batch → Option K → Type 0
GetsIfThere gets None b None = Unit {0}
GetsIfThere gets (Some k) b (Some l) = gets k b l
GetsIfThere gets None b (Some l) = ⊥
GetsIfThere gets (Some k) b None = ⊥

module _ {K : Type 0} (gets : K → Batch → K → Type 0) where
  -- the sink got these batches, by one call each, in this order
  abbrev pub GotAll : K → List Passed → K → Type 0
  GotAll k [] l = k ≡ l
  GotAll k (x ∷ xs) l = (m : K) × gets k x.batch m × GotAll m xs l

  -- the sink is there, and got these batches
  abbrev pub GotThere : K → List Passed → Option K → Type 0
  GotThere k xs new = (l : K) × (new ≡ Some l) × GotAll k xs l

  -- the consumer took batches, and the sink got those that it took of each CPU, in their order; of deeds its seat entered Releases alone
  pub record PassesOn (words : Words) (x : Consuming) (k : K) (y : Consuming) (l : K) : Type 0 where
    pub stays : Stays words x y
    pub passed : List Passed
    pub from : AreFrom (set_up_of x).cpus passed
    pub got : GotAll k passed l
    pub taken : (c : ℕ) → taken_at y c ≡ taken_at x c ++ passed_from c passed
    pub released : List ℕ
    pub entered : (view_of y).own ≡ map (λ s. Release s) released ++ (view_of x).own

module _ {K : Type 0} (gets : K → Batch → K → Type 0) (shape : ℕ → Option Shape) (accepted : Record → Bool) (text : Record → List ℕ) where
  -- A session ran and closed, and this was left of its CPUs. One list of all deeds closes it, and what the sink got of each CPU,
  -- in its order, is all that this CPU accepted: the batches that were taken, then the one that it had sealed, then its last buffer.
  pub record HasLists (k : Config) (old : K) (left : List Left) (new : K) : Type 0 where
    pub passed : List Passed
    pub got : GotAll gets old passed new
    pub worn : ℕ → ℕ
    pub taken : ℕ → List Batch
    pub consumer : List Deed
    pub own : ℕ → List Deed
    pub deeds : List Deed
    pub closes : ClosesAs shape accepted text k worn taken consumer left own deeds
    pub whole : (c : ℕ) (l : Left) → slice_get left c ≡ Some l → passed_from c passed ≡ taken c ++ left_batches l
    pub accepts : (c : ℕ) (l : Left) → slice_get left c ≡ Some l → HoldInOrder shape accepted text (passed_from c passed) (stream c deeds)

-- the same, of a session whose records are those of enablings
abbrev pub HasListsWith : {K : Type 0} → EnabledRows → (K → Batch → K → Type 0) → Config → K → List Left → K → Type 0
HasListsWith s gets = HasLists gets (table_shape s.header (enabled s.rows)) (table_accepts s.header (enabled s.rows)) (table_text s.header (enabled s.rows))
