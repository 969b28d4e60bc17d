-- Cited by calls. What a lane did while it waited.
use Rattle.std.specs.Prelude.{ℕ, ◌≡◌, ◌≤◌, ◌++◌, zero, suc, List, [], ◌∷◌, Option, MatchOption}
use Rattle.dspec_threads.specs.{Belts.handed_of, Belts.taken_by, Words.Outside.Ghosts, Words.Outside.id_number, Words.Outside.id_given, Words.Outside.OpeningOn, Words.Outside.ServiceOn}
use Rattle.dspec_threads.specs.{Words.Outside.Opening, Words.Outside.Served, Words.Outside.Deed, Words.Outside.Cpu, Words.Outside.Lane, Words.Outside.Path, declared.ends.Taker.Taker}

module _ {S : Type 0} {g : Ghosts S} (has : Cpu S → List Deed → Type 0) where
  -- a service
  pub record ServesAgain (old new : Lane S g) : Type 0 where
    pub answer : Served
    pub serves : ServiceOn has answer old new

  -- an ask that was refused
  pub record IsAskRefused (old new : Lane S g) : Type 0 where
    pub answer : Opening
    pub asks : OpeningOn has answer old new
    pub refused : id_number (id_given answer) ≡ 0

  -- or a path that was opened
  abbrev pub AsksFor : Option Path → Lane S g → Lane S g → Type 0
  AsksFor a old new = MatchOption a (IsAskRefused old new) (λ path. OpeningOn has path.opening old new)

  -- an ask that was refused, and a service
  pub record AsksInVain (old new : Lane S g) : Type 0 where
    pub between : Lane S g
    pub asks : IsAskRefused old between
    pub serves : ServesAgain between new

  -- a path that was opened, or an ask in vain
  abbrev pub AsksOnce : Option Path → Lane S g → Lane S g → Type 0
  AsksOnce a old new = MatchOption a (AsksInVain old new) (λ path. OpeningOn has path.opening old new)

  -- a path that came, and no call of the lane; or none, and a service
  abbrev pub LooksOnce : Option Path → Taker → Taker → Lane S g → Lane S g → Type 0
  LooksOnce a t u old new = MatchOption a
      ((taken_by u ≡ taken_by t) × ServesAgain old new)
      (λ path. (taken_by u ≡ taken_by t ++ handed_of path ∷ []) × (new ≡ old))

  -- so many services, and nothing else
  abbrev pub ServesTimes : ℕ → Lane S g → Lane S g → Type 0
  ServesTimes zero old new = new ≡ old
  ServesTimes (suc n) old new = (mid : Lane S g) × ServesTimes n old mid × ServesAgain mid new

  -- so many asks in vain
  abbrev pub AsksAndServes : ℕ → Lane S g → Lane S g → Type 0
  AsksAndServes zero old new = new ≡ old
  AsksAndServes (suc n) old new = (mid : Lane S g) × AsksAndServes n old mid × AsksInVain mid new

  -- at most so many services
  pub record ServesWithin (most : ℕ) (old new : Lane S g) : Type 0 where
    pub count : ℕ
    pub few : count ≤ most
    pub serves : ServesTimes count old new

  -- at most so many asks in vain, and then one that was answered so
  pub record OpensWithin (most : ℕ) (answer : Opening) (old new : Lane S g) : Type 0 where
    pub count : ℕ
    pub few : count ≤ most
    pub before : Lane S g
    pub asks : AsksAndServes count old before
    pub opens : OpeningOn has answer before new
