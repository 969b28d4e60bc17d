-- Cited by calls. How a CPU comes home: by a ring of its own, through which it went as it went out.
use Rattle.std.specs.Prelude.{ℕ, ◌≡◌, List, [], ◌∷◌, slice_get}
use Rattle.dspec_threads.specs.Words.Outside.{EnabledRows, Pair, CallsMade, called, number_in, words_of, identity, IsCpuOf, Cpu, Shared}

-- The CPU is out: what went through its ring when that was made is the same CPU.
pub record IsLentOut (sent : List (Cpu EnabledRows)) (cpu : Cpu EnabledRows) : Type 0 where
  pub first : Cpu EnabledRows
  pub was : sent ≡ first ∷ []
  pub same : identity cpu ≡ identity first

-- The CPU has gone home: it went through its ring as it was, after what went through when that was made.
pub record WentHome (cpu : Cpu EnabledRows) (sent : List (Cpu EnabledRows)) : Type 0 where
  pub first : Cpu EnabledRows
  pub went : sent ≡ first ∷ cpu ∷ []

module _ (done : ℕ → CallsMade → Type 0) where
  -- it is the CPU that went first, and its calls have done that
  pub record HasDone (first cpu : Cpu EnabledRows) : Type 0 where
    pub same : identity cpu ≡ identity first
    pub did : done (number_in cpu) (called cpu)

  -- what may go through the ring after these
  abbrev pub ComesHome : List (Cpu EnabledRows) → Cpu EnabledRows → Type 0
  ComesHome [] cpu = Unit {0}
  ComesHome (first ∷ more) cpu = HasDone first cpu

-- which session it is: what its CPUs share, their schema, and their rings, in order
pub record Rank : Type 0 where
  pub shared : Shared
  pub schema : EnabledRows
  pub pairs : List Pair

-- it is the CPU with this number
abbrev pub IsOfRank : Rank → ℕ → Cpu EnabledRows → Type 0
IsOfRank r c cpu = IsCpuOf r.schema (words_of r.shared) c (slice_get r.pairs c) (identity cpu)

-- it is the home of the CPU with this number, which went through as it went out
pub record IsHomeOf (r : Rank) (c : ℕ) (came : List (Cpu EnabledRows)) : Type 0 where
  pub first : Cpu EnabledRows
  pub was : came ≡ first ∷ []
  pub is : IsOfRank r c first
