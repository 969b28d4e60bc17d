-- Serves proofs. What the consumer does in its rounds while a session is traced.
use Rattle.std.specs.Prelude.{ℕ, ◌≡◌, ◌<◌, ◌+◌, ◌⊎◌}
use Rattle.dspec.specs.Words.Outside.{Batch, Asked, FoundNone, GaveBack, IsNotTakenBack, Took, Cleaned, Consuming, set_up_of, view_of}

module _ {K : Type 0} (gets : K → Batch → K → Type 0) where
  -- none came, or a batch came out of the CPU's ring, the sink got it, and it went back, unless that is refused
  abbrev pub Fetches : ℕ → Consuming → K → Consuming → K → Type 0
  Fetches c x k y l =
      (FoundNone c x y × (l ≡ k))
      ⊎ ((b : Batch) × (z : Consuming) × Took c b x z × gets k b l × (GaveBack b z y ⊎ IsNotTakenBack b z y))

  -- the CPU was asked, and then what came of it was fetched
  pub record VisitsOne (c : ℕ) (x : Consuming) (k : K) (y : Consuming) (l : K) : Type 0 where
    pub asked : Consuming
    pub asks : c < (set_up_of x).cpus → Asked c x asked
    pub fetches : Fetches c asked k y l

  -- so was each of the first so many CPUs, in order
  pub data VisitsFirst (x : Consuming) (k : K) : ℕ → Consuming → K → Type 0 where
    none_visited : VisitsFirst x k 0 x k
    one_more : {c : ℕ} {y : Consuming} {l : K} (n : ℕ) (z : Consuming) (m : K) → VisitsFirst x k c y l → VisitsOne c y l z m → n ≡ c + 1 → VisitsFirst x k n z m

  -- a round: each of so many CPUs was visited, and then there was a clean
  pub record MakesRound (count : ℕ) (x : Consuming) (k : K) (y : Consuming) (l : K) : Type 0 where
    pub visited : Consuming
    pub visits : VisitsFirst x k count visited l
    pub released : ℕ
    pub cleans : Cleaned released (view_of visited) (view_of y)
    pub ends : y.ends ≡ visited.ends

  -- some rounds, one after the other
  pub data MakesRounds (count : ℕ) (x : Consuming) (k : K) : Consuming → K → Type 0 where
    no_rounds : MakesRounds count x k x k
    rounds_more : {y : Consuming} {l : K} (z : Consuming) (m : K) → MakesRounds count x k y l → MakesRound count y l z m → MakesRounds count x k z m
