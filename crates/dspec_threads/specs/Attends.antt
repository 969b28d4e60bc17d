-- Cited by calls. What a lane did while it waited, and settled what was said to it.
use Rattle.std.specs.Prelude.{ℕ, ◌≡◌, ◌≤◌, ◌++◌, zero, suc, Bool, List, [], ◌∷◌, Option, MatchOption}
use mathlib.Core.List.{IsPrefix}
use Rattle.dspec_threads.specs.{Belts.handed_of, Belts.taken_by, Settled.SettlesNext, Settled.seen_by, Settled.settled_by, Waits.IsAskRefused, Waits.ServesAgain, Words.Outside.Ghosts}
use Rattle.dspec_threads.specs.{Words.Outside.Speculation, Words.Outside.OpeningOn, Words.Outside.Opening, Words.Outside.Deed, Words.Outside.Cpu, Words.Outside.Lane, Words.Outside.Path}
use Rattle.dspec_threads.specs.{declared.ends.Taker.Taker, declared.settling.Settler.Settler, declared.verdict.Verdict.Verdict}

module _ {S : Type 0} {g : Ghosts S} (has : Cpu S → List Deed → Type 0) (may : Speculation → Bool → Type 0) where
  -- a service, and then what was said since: what was settled before, and what then
  pub record AttendsOnce (before after : List Verdict) (old new : Lane S g) : Type 0 where
    pub served : Lane S g
    pub serves : ServesAgain has old served
    pub count : ℕ
    pub settles : SettlesNext has may before after count served new

  -- so many times
  abbrev pub AttendsTimes : ℕ → List Verdict → List Verdict → Lane S g → Lane S g → Type 0
  AttendsTimes zero before after old new = (after ≡ before) × (new ≡ old)
  AttendsTimes (suc n) before after old new = (mid : Lane S g) × (now : List Verdict) × AttendsTimes n before now old mid × AttendsOnce now after mid new

  -- at most so many times
  pub record AttendsWithin (most : ℕ) (before after : List Verdict) (old new : Lane S g) : Type 0 where
    pub count : ℕ
    pub few : count ≤ most
    pub attends : AttendsTimes count before after old new

  -- an ask that was refused, and what the lane does between two of them
  pub record AsksAndAttends (before after : List Verdict) (old new : Lane S g) : Type 0 where
    pub between : Lane S g
    pub asks : IsAskRefused has old between
    pub attends : AttendsOnce before after between new

  -- so many of them
  abbrev pub AsksTimes : ℕ → List Verdict → List Verdict → Lane S g → Lane S g → Type 0
  AsksTimes zero before after old new = (after ≡ before) × (new ≡ old)
  AsksTimes (suc n) before after old new = (mid : Lane S g) × (now : List Verdict) × AsksTimes n before now old mid × AsksAndAttends now after mid new

  -- at most so many of them, and then one ask that was answered so
  pub record OpensAttending (most : ℕ) (answer : Opening) (before after : List Verdict) (old new : Lane S g) : Type 0 where
    pub count : ℕ
    pub few : count ≤ most
    pub asked : Lane S g
    pub asks : AsksTimes count before after old asked
    pub opens : OpeningOn has answer asked new

  module _ {J : Type 0} where
    -- a path that was opened, and nothing was settled; or an ask in vain
    abbrev pub AsksAttending : Option Path → Settler J → Settler J → Lane S g → Lane S g → Type 0
    AsksAttending a s t old new = MatchOption a (AsksAndAttends (settled_by s) (settled_by t) old new) (λ path. (t ≡ s) × OpeningOn has path.opening old new)

    -- a path that came, and nothing else; or none, and what was seen to be said was settled too
    abbrev pub LooksAttending : Option Path → Taker → Taker → Settler J → Settler J → Lane S g → Lane S g → Type 0
    LooksAttending a t u x y old new = MatchOption a
        ((taken_by u ≡ taken_by t) × AttendsOnce (settled_by x) (settled_by y) old new × IsPrefix (settled_by x ++ seen_by x) (settled_by y))
        (λ path. (taken_by u ≡ taken_by t ++ handed_of path ∷ []) × (new ≡ old) × (y ≡ x))
