-- A session that ran, and whose folder was ended, ran into that folder.
use Rattle.std.proofs.Common.{◌≡◌, ℕ, List, sym, refl, subst}
use Rattle.dspec_trace_reading.specs.Words.{EnabledRows, CallsMade, IsOneListWith, TellsUntold, BothGet, RanInto, Config, Batch, Left, Both, Telling}

pub ran_into : {K T : Type 0} (sees : T → Batch → T → Type 0) (gets : K → Batch → K → Type 0) (does : ℕ → CallsMade → CallsMade → Type 0) (e : EnabledRows) (k : Config) (old : K)
    (begun : Telling T) (mid : Both K (Telling T)) (left closed : List Left) (ended : T) → IsOneListWith e (BothGet gets sees) does k (record { first = old; second = begun }) left mid
    → closed ≡ left → TellsUntold sees left mid.second.sink ended → RanInto sees gets does e k old begun closed ended mid.first
ran_into sees gets does e k old begun mid left closed ended one same tells = record {
  mid = mid;
  one = subst (λ l. IsOneListWith e (BothGet gets sees) does k (record { first = old; second = begun }) l mid) (sym same) one;
  first = refl;
  tells = subst (λ l. TellsUntold sees l mid.second.sink ended) (sym same) tells;
}
