-- Cited by calls. Where the CPUs of a session are: each inside, or out, and then what came to its home.
use Rattle.std.specs.Option.{option_map, option_map_or}
use Rattle.std.specs.Prelude.{ℕ, ◌≡◌, ◌⊎◌, Bool, false, List, [], ◌∷◌, map, slice_get, slice_set, Option, Some, None, IsSome, is_some, Result, MatchResult}
use Rattle.rtrb.specs.Ring.{received}
use Rattle.dspec_threads.specs.Homes.{IsHomeOf, IsOfRank, Rank}
use Rattle.dspec_threads.specs.Words.Outside.{EnabledRows, CallsMade, called, no_calls, IsCallable, identity, ServedOnce, ThenServed, Cpu, Shared}
use Rattle.dspec_threads.specs.declared.place.LanePlace.{LanePlace}

pub record Whereabouts : Type 0 where
  pub inside : Option (Cpu EnabledRows)
  pub came : Option (List (Cpu EnabledRows))

abbrev pub whereabouts : {D : Type 0} → LanePlace D → Whereabouts
whereabouts p = record { inside = p.inside; came = option_map (λ h. received h) p.home }

abbrev pub all_whereabouts : {D : Type 0} → List (LanePlace D) → List Whereabouts
all_whereabouts ps = map whereabouts ps

-- of a CPU that is inside
abbrev pub waits_inside : Cpu EnabledRows → Whereabouts
waits_inside cpu = record { inside = Some cpu; came = None }

-- which CPUs are inside
abbrev pub who_is_in : List Whereabouts → List (Option (Cpu EnabledRows))
who_is_in ws = map (λ (w : Whereabouts). w.inside) ws

abbrev pub is_in_at : ℕ → List Whereabouts → Bool
is_in_at c ws = option_map_or (λ (w : Whereabouts). is_some w.inside) (slice_get ws c) false

-- all are, or one isn't
abbrev pub AllIn : List (Option (Cpu EnabledRows)) → Type 0
AllIn os = (c : ℕ) (o : Option (Cpu EnabledRows)) → slice_get os c ≡ Some o → IsSome o

abbrev pub IsOneOut : List (Option (Cpu EnabledRows)) → Type 0
IsOneOut os = (c : ℕ) × (slice_get os c ≡ Some None)

module _ {A : Type 0} (R : A → A → Type 0) where
  -- so it is of each with the one at its place
  abbrev pub EachPair : List A → List A → Type 0
  EachPair [] [] = Unit {0}
  EachPair [] (y ∷ ys) = ⊥
  EachPair (x ∷ xs) [] = ⊥
  EachPair (x ∷ xs) (y ∷ ys) = R x y × EachPair xs ys

  -- so it is of the one at this place, and the others are as they were
  pub record AtOne (i : ℕ) (xs ys : List A) : Type 0 where
    pub was : A
    pub is : A
    pub there : slice_get xs i ≡ Some was
    pub does : R was is
    pub all : ys ≡ slice_set xs i is

-- a CPU that was inside stays, and one that was out may have come
abbrev pub StaysIn : Option (Cpu EnabledRows) → Option (Cpu EnabledRows) → Type 0
StaysIn None o = Unit {0}
StaysIn (Some cpu) o = o ≡ Some cpu

-- a CPU that was inside made a service, and nothing came or went
abbrev pub ServesInside : Option (Cpu EnabledRows) → Option (Cpu EnabledRows) → Type 0
ServesInside None None = Unit {0}
ServesInside None (Some y) = ⊥
ServesInside (Some x) None = ⊥
ServesInside (Some x) (Some y) = (identity y ≡ identity x) × ServedOnce (called x) (called y)

module _ (done : ℕ → CallsMade → Type 0) where
  -- nothing was done with a lane, or what is asked of one that is given back
  abbrev pub NothingOrDone : ℕ → CallsMade → CallsMade → Type 0
  NothingOrDone c x y = (y ≡ x) ⊎ done c y

  -- and then it served
  abbrev pub Rests : ℕ → CallsMade → Type 0
  Rests c y = ThenServed NothingOrDone c no_calls y

  -- Of the CPU with this number: it is inside, and rests, or that is its home.
  abbrev pub IsAtPlaceSo : Rank → ℕ → Option (Cpu EnabledRows) → Option (List (Cpu EnabledRows)) → Type 0
  IsAtPlaceSo r c (Some cpu) came = IsOfRank r c cpu × Rests c (called cpu)
  IsAtPlaceSo r c None (Some came) = IsHomeOf r c came
  IsAtPlaceSo r c None None = ⊥

  abbrev pub IsAtPlace : Rank → ℕ → Whereabouts → Type 0
  IsAtPlace r c w = IsAtPlaceSo r c w.inside w.came

  -- so it is of each CPU
  abbrev pub AreAtPlaces : Rank → List Whereabouts → Type 0
  AreAtPlaces r ws = (c : ℕ) (w : Whereabouts) → slice_get ws c ≡ Some w → IsAtPlace r c w

  -- of a session whose CPUs share this
  abbrev pub AreCpusOf : Shared → List Whereabouts → Type 0
  AreCpusOf shared ws = (r : Rank) × (r.shared ≡ shared) × AreAtPlaces r ws

  -- whichever CPU it is, it is that still
  abbrev pub KeepsPlace : Whereabouts → Whereabouts → Type 0
  KeepsPlace x y = (r : Rank) (c : ℕ) → IsAtPlace r c x → IsAtPlace r c y

  -- somebody looked whether it had come
  pub record ComesIn (x y : Whereabouts) : Type 0 where
    pub keeps : KeepsPlace x y
    pub stays : StaysIn x.inside y.inside

  -- it was tended
  pub record TendsPlace (x y : Whereabouts) : Type 0 where
    pub keeps : KeepsPlace x y
    pub serves : ServesInside x.inside y.inside

  module _ {E : Type 0} (a : Result (Option (Cpu EnabledRows)) E) where
    -- whoever was inside went out, and is the answer; or nothing was done
    pub record SendsOut (x y : Whereabouts) : Type 0 where
      pub keeps : KeepsPlace x y
      pub sends : MatchResult a (λ o. (o ≡ x.inside) × (y.inside ≡ None)) (λ _. y ≡ x)

    -- after a look
    pub record LooksAndSends (x y : Whereabouts) : Type 0 where
      pub looked : Whereabouts
      pub comes : ComesIn x looked
      pub sends : SendsOut looked y

-- it can be called where it is inside
abbrev pub IsCallableInside : Shared → Whereabouts → Type 0
IsCallableInside shared w = (cpu : Cpu EnabledRows) → w.inside ≡ Some cpu → IsCallable shared cpu
