-- Cited by calls. What was settled on a lane.
use Rattle.std.specs.Prelude.{ℕ, ◌≡◌, Bool, List, [], ◌∷◌, ◌++◌, length, if◌then◌else◌}
use Rattle.dspec_threads.specs.Words.Outside.{Ghosts, Speculation, commit, discard, popped_from, Ring, DecisionOn, place_of, Decided, Deed, Cpu, Lane}
use Rattle.dspec_threads.specs.declared.{settling.Settler.Settler, verdict.Verdict.Verdict}
use Rattle.rtrb.specs.Ring.{known_items, received}

-- what was settled by this end so far, the oldest first
abbrev pub settled_by : {J : Type 0} → Settler J → List Verdict
settled_by s = received s.coming

-- what it saw in its ring, and has not settled
abbrev pub seen_by : {J : Type 0} → Settler J → List Verdict
seen_by s = known_items s.coming

-- out of which ring
abbrev pub settled_from : {J : Type 0} → Settler J → Ring
settled_from s = popped_from s.coming

module _ {S : Type 0} {g : Ghosts S} (has : Cpu S → List Deed → Type 0) where
  -- the path of a verdict was decided as it says, by one call on the lane
  pub record DoesVerdict (v : Verdict) (old new : Lane S g) : Type 0 where
    pub answer : Decided
    pub same : place_of new ≡ place_of old
    pub decides : DecisionOn has (if v.keep then commit else discard) v.path.id answer old new

  module _ (may : Speculation → Bool → Type 0) where
    -- these were done, one after another, and each might be said
    abbrev pub DoesVerdicts : List Verdict → Lane S g → Lane S g → Type 0
    DoesVerdicts [] old new = new ≡ old
    DoesVerdicts (v ∷ vs) old new = may v.path.id v.keep × ((mid : Lane S g) × DoesVerdict v old mid × DoesVerdicts vs mid new)

    -- so many were done: just those that came out after the ones settled before
    pub record SettlesNext (before after : List Verdict) (n : ℕ) (old new : Lane S g) : Type 0 where
      pub these : List Verdict
      pub came : after ≡ before ++ these
      pub count : n ≡ length these
      pub does : DoesVerdicts these old new

    -- or of those which is told by no end
    pub record SettlesSome (n : ℕ) (old new : Lane S g) : Type 0 where
      pub these : List Verdict
      pub count : n ≡ length these
      pub does : DoesVerdicts these old new
