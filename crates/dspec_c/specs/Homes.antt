-- Cited by calls. How a CPU comes home: by a ring of its own, through which it went when that was made, at the session's start or as it
-- was handed out again.
use Rattle.std.specs.Prelude.{ℕ, ◌≡◌, ◌<◌, Bool, false, List, [], ◌∷◌, Option, Some, None, IfSome, IfNone, IsSome, IsSomeAnd, ⊤}
use Rattle.dspec_c.specs.Words.Outside.{EnabledRows, IsCallable, identity, Cpu, Shared}

-- a CPU, what it shares, and how many of the records that it was handed the schema has refused
pub record CpuSide : Type 0 where
  pub shared : Shared
  pub cpu : Cpu EnabledRows
  pub refused : ℕ

abbrev pub cpu_side_of : Shared → Cpu EnabledRows → ℕ → CpuSide
cpu_side_of shared cpu refused = record { shared = shared; cpu = cpu; refused = refused }

-- a CPU that shares nothing, as it is at home
pub record AtHome : Type 0 where
  pub cpu : Cpu EnabledRows
  pub refused : ℕ

abbrev pub at_home : CpuSide → AtHome
at_home side = record { cpu = side.cpu; refused = side.refused }

-- the same CPU of the same session
pub record IsSameSide (old new : CpuSide) : Type 0 where
  pub shared : new.shared ≡ old.shared
  pub cpu : identity new.cpu ≡ identity old.cpu

module _ {A : Type 0} (Same : A → A → Type 0) where
  -- it is the same as each that went through the ring before
  abbrev pub IsSameAsAll : List A → A → Type 0
  IsSameAsAll [] x = ⊤
  IsSameAsAll (y ∷ ys) x = Same y x × IsSameAsAll ys x

  -- It is out: what went through its ring when it was made is the same.
  pub record IsOut (sent : List A) (side : A) : Type 0 where
    pub first : A
    pub was : sent ≡ first ∷ []
    pub same : Same first side

-- It has gone home: it went through its ring as it was held, after what went through when it was made.
pub record HasGone {A : Type 0} (side : A) (sent : List A) : Type 0 where
  pub first : A
  pub went : sent ≡ first ∷ side ∷ []

-- What contracts see of a place where a CPU, or the consumer, is at home: whose place it is, what is inside, and whether that was never
-- handed out.
pub record Stay (A B : Type 0) : Type 0 where
  pub first : Option A
  pub inside : Option B
  pub waits : Bool

abbrev pub CpuStay : Type 0
CpuStay = Stay CpuSide AtHome

-- the same place a look later: what was out may have come home, and nothing else changed
pub record Came {A B : Type 0} (old new : Stay A B) : Type 0 where
  pub first : new.first ≡ old.first
  pub waits : new.waits ≡ old.waits
  pub stays : IfSome old.inside (λ x. new.inside ≡ Some x)

-- the same place once what waited there was handed out
abbrev pub handed_out : {A B : Type 0} → Stay A B → Stay A B
handed_out s = record { first = s.first; inside = None; waits = false }

-- what waits went through the ring when that was made, and nothing has gone through it since
pub record IsUnused {A B : Type 0} (first : A) (received sent : List A) (free : ℕ) (inside : Option B) : Type 0 where
  pub came : received ≡ first ∷ []
  pub went : sent ≡ first ∷ []
  pub room : 0 < free
  pub is : IsSome inside

-- What is inside is the same as the first; while nothing is, the ring has given that one alone.
pub record IsDesk {A B : Type 0} (Home : A → B → Type 0) (first : A) (received : List A) (inside : Option B) : Type 0 where
  pub out : IfNone inside (received ≡ first ∷ [])
  pub same : IfSome inside (Home first)

-- the CPU that is inside is the same as this
abbrev pub IsAtHomeOf : CpuSide → AtHome → Type 0
IsAtHomeOf first x = identity x.cpu ≡ identity first.cpu

-- A CPU leaves its place, where it was inside, with what it shares. The place stays that CPU's, and nothing is inside.
pub record LeavesPlace (shared : Shared) (old : CpuStay) (side : CpuSide) (new : CpuStay) : Type 0 where
  pub inside : old.inside ≡ Some (at_home side)
  pub shares : side.shared ≡ shared
  pub same : (first : CpuSide) → old.first ≡ Some first → identity side.cpu ≡ identity first.cpu
  pub stays : IsSomeAnd new.first (λ first. IsSameSide first side)
  pub gone : new.inside ≡ None
  pub waits : new.waits ≡ false

-- the place is of a CPU that those can call who share this, and that went through its ring with it
abbrev pub IsPlaceWith : Shared → Option CpuSide → Type 0
IsPlaceWith shared place = (first : CpuSide) → place ≡ Some first → (shared ≡ first.shared) × IsCallable shared first.cpu
