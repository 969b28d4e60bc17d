-- By induction over the batches.
use Rattle.std.proofs.Common.{◌≡◌, List, [], ◌∷◌, refl, sym}
use Rattle.std.specs.Prelude.{None, Option, Some}
use Rattle.dspec.specs.Words.{Batch, GetsIfThere, GotAll, GotThere, Passed}
use Rattle.dspec.proofs.both.sink_stays.Goals as goal

module _ {K : Type 0} (gets : K → Batch → K → Type 0) where
  stays_there : (k : K) (xs : List Passed) (new : Option K) → GotAll (GetsIfThere gets) (Some k) xs new → GotThere gets k xs new
  stays_there k [] new same = (k, sym same, refl)
  stays_there k (x ∷ xs) new (Some m, got, rest) = let (l, is, all) = stays_there m xs new rest in (l, is, (m, got, all))
  stays_there k (x ∷ xs) new (None, got, rest) = absurd got

  stays_out : (xs : List Passed) (new : Option K) → GotAll (GetsIfThere gets) None xs new → new ≡ None
  stays_out [] new same = sym same
  stays_out (x ∷ xs) new (None, got, rest) = stays_out xs new rest
  stays_out (x ∷ xs) new (Some m, got, rest) = absurd got

pub returns-clause-there : goal.returns-clause-there
returns-clause-there g c = λ k passed new got. stays_there (g.K.Sink.gets c.args._schema.now) k passed new got

pub returns-clause-left_out : goal.returns-clause-left_out
returns-clause-left_out g c = λ passed new got. stays_out (g.K.Sink.gets c.args._schema.now) passed new got
