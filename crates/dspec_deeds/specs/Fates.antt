-- Cited by calls. What becomes of each offered record.
use Prim.Native.Nat.{zero, suc}
use Rattle.std.specs.Option.{option_map}
use Rattle.std.specs.Prelude.{ℕ, ◌+◌, ◌==◌, Bool, true, false, ◌&&◌, ◌||◌, is_some, List, [], ◌∷◌, if◌then◌else◌, Option, Some, None}
use Rattle.dspec_deeds.specs.{FateKinds.trace_kept, FateKinds.trace_dropped, FateKinds.spoken_kept, FateKinds.spoken_dropped, FateKinds.is_commit, FateKinds.is_discard, History.same_id, Own.Offer}
use Rattle.dspec_deeds.specs.{Own.offered_by, Own.offers, Own.empties, Words.Outside.Record, Words.Outside.Speculation, declared.deed.DecideFate.DecideFate, declared.deed.Deed.Deed}
use Rattle.dspec_deeds.specs.{declared.deed.Deed.TheVariants.Trace, declared.deed.Deed.TheVariants.Speculate, declared.deed.Deed.TheVariants.Commit, declared.deed.Deed.TheVariants.Discard}
use Rattle.dspec_deeds.specs.{declared.deed.Deed.TheVariants.Settle}
use Rattle.dspec_deeds.specs.declared.deed.DecideFate.TheVariants as decided

-- a record that waits for the decision of a speculation is abandoned if the session closes before it
pub data Fate : Type 0 where
  taken : Fate
  dropped : Fate
  discarded : Fate
  void : Fate
  waiting : Speculation → Fate

-- the fate that a deed gives to the record that it offers
abbrev pub first_fate : Deed → Fate
first_fate (Trace a r f) = if trace_kept f then taken else (if trace_dropped f then dropped else void)
first_fate (Speculate a id r f) = if spoken_kept f then waiting id else (if spoken_dropped f then dropped else void)
first_fate d = void

-- the fate that the emptying of its buffer gives to a waiting record
abbrev pub emptied_as : DecideFate → Speculation → Fate
emptied_as (decided.Copied n) id = taken
emptied_as (decided.Lost n) id = dropped
emptied_as (decided.Thrown n) id = discarded
emptied_as f id = waiting id

abbrev pub fate_by : Deed → Speculation → Fate
fate_by (Commit a j f) id = emptied_as f id
fate_by (Discard a j f) id = emptied_as f id
fate_by (Settle a j f) id = emptied_as f id
fate_by d id = waiting id

abbrev pub next_fate : ℕ → Deed → Fate → Fate
next_fate c d (waiting id) = if empties c id d then fate_by d id else waiting id
next_fate c d f = f

-- the CPU's record of that number is offered by this deed
abbrev pub is_offer : ℕ → ℕ → Deed → List Deed → Bool
is_offer c j d h = is_some (offered_by c d) && (j == offers c h)

-- the fate of the CPU's record of that number
abbrev pub fate : ℕ → ℕ → List Deed → Option Fate
fate c j [] = None
fate c j (d ∷ h) = if is_offer c j d h then Some (first_fate d) else option_map (next_fate c d) (fate c j h)

-- the CPU's record of that number
abbrev pub content_of : ℕ → ℕ → List Deed → Option Record
content_of c j [] = None
content_of c j (d ∷ h) = if is_offer c j d h then offered_by c d else content_of c j h

-- the speculation that the CPU's record of that number was offered to
abbrev pub offered_to : Deed → Option Speculation
offered_to (Speculate a id r f) = Some id
offered_to d = None

abbrev pub destination : ℕ → ℕ → List Deed → Option Speculation
destination c j [] = None
destination c j (d ∷ h) = if is_offer c j d h then offered_to d else destination c j h

abbrev pub is_taken : Fate → Bool
is_taken taken = true
is_taken f = false

abbrev pub is_dropped : Fate → Bool
is_dropped dropped = true
is_dropped f = false

abbrev pub is_discarded : Fate → Bool
is_discarded discarded = true
is_discarded f = false

abbrev pub is_void : Fate → Bool
is_void void = true
is_void f = false

abbrev pub is_waiting : Fate → Bool
is_waiting (waiting id) = true
is_waiting f = false

abbrev pub has_fate : (Fate → Bool) → Option Fate → Bool
has_fate test None = false
has_fate test (Some f) = test f

-- how many of the CPU's records below a number have such a fate
abbrev pub fates_below : (Fate → Bool) → ℕ → List Deed → ℕ → ℕ
fates_below test c h zero = 0
fates_below test c h (suc j) = fates_below test c h j + (if has_fate test (fate c j h) then 1 else 0)

-- how many of all the CPU's records have such a fate
abbrev pub fates : (Fate → Bool) → ℕ → List Deed → ℕ
fates test c h = fates_below test c h (offers c h)

-- how often the list has the record of that number
abbrev pub times : ℕ → List Offer → ℕ
times j [] = 0
times j (o ∷ os) = times j os + (if j == o.number then 1 else 0)

-- the speculation was committed, or discarded, by some CPU
abbrev pub commits : Speculation → Deed → Bool
commits id (Commit a j f) = is_commit f && same_id id j
commits id d = false

abbrev pub discards : Speculation → Deed → Bool
discards id (Discard a j f) = is_discard f && same_id id j
discards id d = false

abbrev pub has_commit : Speculation → List Deed → Bool
has_commit id [] = false
has_commit id (d ∷ h) = commits id d || has_commit id h

abbrev pub has_discard : Speculation → List Deed → Bool
has_discard id [] = false
has_discard id (d ∷ h) = discards id d || has_discard id h
