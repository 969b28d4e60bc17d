-- Believed. What a session that was traced whole promises, in the words of the page.
use Rattle.std.specs.Prelude.{ℕ, ◌≡◌, ◌<◌, Bool, List, ◌++◌, map, slice_get, Option, Some}
use Rattle.dspec.specs.Passed.{Passed, AreFrom, passed_from, left_batches, GotAll, HasLists}
use Rattle.dspec.specs.Words.Outside.{EnabledRows, Record, enabled, table_accepts, table_shape, table_text, did, CallsMade, no_calls, IsPromisedBy, KeepsPage, Shape, Config, Deed, Release, Batch}
use Rattle.dspec.specs.Words.Outside.{Left}

module _ {K : Type 0} (gets : K → Batch → K → Type 0) (does : ℕ → CallsMade → CallsMade → Type 0) (shape : ℕ → Option Shape) (accepted : Record → Bool)
    (text : Record → List ℕ) where
  -- One session ran, in which the work did on each CPU what it says that it does, from no calls on; the sink got these batches of
  -- its CPUs and no others; and then it was closed, and this was left. Each CPU's seat entered some deeds, by which its calls did that; the consumer's seat entered
  -- Releases alone, so nobody stopped the session; and by these deeds the close promises what it does of the batches that the sink got.
  -- Nothing ties the CPUs' scans, openings, misses and Releases to the work, which doesn't tell of them. What `trace` says that its work did is `ThenServed`.
  pub record IsTraced (k : Config) (old : K) (left : List Left) (new : K) : Type 0 where
    pub passed : List Passed
    pub from : AreFrom k.cpus passed
    pub got : GotAll gets old passed new
    pub calls : ℕ → CallsMade
    pub worked : (c : ℕ) → c < k.cpus → does c no_calls (calls c)
    pub entered : ℕ → List Deed
    pub told : (c : ℕ) → c < k.cpus → did c (entered c) ≡ (calls c).done
    pub released : List ℕ
    pub taken : ℕ → List Batch
    pub whole : (c : ℕ) (l : Left) → slice_get left c ≡ Some l → passed_from c passed ≡ taken c ++ left_batches l
    pub promised : IsPromisedBy shape accepted text k entered (map (λ s. Release s) released) calls taken left

  -- The same in short, for whoever asks whether a record leaks or is lost: each CPU is promised the page of what the sink got of it, by
  -- what its calls did.
  pub record IsKept (k : Config) (old : K) (left : List Left) (new : K) : Type 0 where
    pub passed : List Passed
    pub from : AreFrom k.cpus passed
    pub got : GotAll gets old passed new
    pub calls : ℕ → CallsMade
    pub worked : (c : ℕ) → c < k.cpus → does c no_calls (calls c)
    pub page : KeepsPage shape accepted text k.cpus calls (λ c l. passed_from c passed) left

  -- the list by which each CPU is promised the page is the one that closes the session, and both speak of the same batches
  abbrev pub IsOneList : Config → K → List Left → K → Type 0
  IsOneList k old left new = (traced : IsTraced k old left new) × (listed : HasLists gets shape accepted text k old left new) × (traced.promised.deeds ≡ listed.deeds)
      × (traced.passed ≡ listed.passed)

-- the same, of a session whose records are those of enablings
abbrev pub IsTracedWith : {K : Type 0} → EnabledRows → (K → Batch → K → Type 0) → (ℕ → CallsMade → CallsMade → Type 0) → Config → K → List Left → K → Type 0
IsTracedWith s gets does =
    IsTraced gets does (table_shape s.header (enabled s.rows)) (table_accepts s.header (enabled s.rows)) (table_text s.header (enabled s.rows))

abbrev pub IsKeptWith : {K : Type 0} → EnabledRows → (K → Batch → K → Type 0) → (ℕ → CallsMade → CallsMade → Type 0) → Config → K → List Left → K → Type 0
IsKeptWith s gets does =
    IsKept gets does (table_shape s.header (enabled s.rows)) (table_accepts s.header (enabled s.rows)) (table_text s.header (enabled s.rows))

abbrev pub IsOneListWith : {K : Type 0} → EnabledRows → (K → Batch → K → Type 0) → (ℕ → CallsMade → CallsMade → Type 0) → Config → K → List Left → K → Type 0
IsOneListWith s gets does =
    IsOneList gets does (table_shape s.header (enabled s.rows)) (table_accepts s.header (enabled s.rows)) (table_text s.header (enabled s.rows))
