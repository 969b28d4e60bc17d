-- Each taken record is in the stream once.
use Rattle.std.proofs.Common.{◌≡◌, ◌+◌, Bool, ◌&&◌, List, [], ◌∷◌, ◌++◌, refl, ◌∙◌, arith}
use Rattle.dspec_promise.specs.Words.{Record, Did, traced, speculated, emptied, taken, handed, held_for, cpu_stream, number, of}
use Rattle.dspec_deeds.specs.declared.deed.TraceFate.TheVariants as trace
use Rattle.dspec_deeds.specs.declared.deed.SpeculateFate.TheVariants as speculate
use Rattle.dspec_deeds.specs.declared.deed.DecideFate.TheVariants as decide
use Rattle.dspec_promise.proofs.Emptying.{counted_emptied, waiting_number}

-- the numbers of two lists add up
number_append : {X : Type 0} (test : X → Bool) (xs ys : List X) → number test (xs ++ ys) ≡ number test xs + number test ys
number_append test [] ys = omega arith
number_append test (x ∷ xs) ys = rw (number_append test xs ys) (omega arith)

pub once : (test : Record → Bool) (ds : List Did) → number test (cpu_stream ds) ≡ number (λ o. of taken o && test o.content) (handed ds)
once test [] = refl
once test (traced r trace.Kept ∷ ds) = rw (once test ds) refl
once test (traced r trace.Dropped ∷ ds) = rw (once test ds) (omega arith)
once test (traced r trace.Stopped ∷ ds) = rw (once test ds) (omega arith)
once test (speculated id r speculate.Kept ∷ ds) = rw (once test ds) (omega arith)
once test (speculated id r speculate.Dropped ∷ ds) = rw (once test ds) (omega arith)
once test (speculated id r speculate.Void ∷ ds) = rw (once test ds) (omega arith)
once test (speculated id r speculate.Stopped ∷ ds) = rw (once test ds) (omega arith)
once test (emptied b id (decide.Copied n) ∷ ds) =
    number_append test (held_for id (handed ds)) (cpu_stream ds)
    ∙ rw (waiting_number test id (handed ds), once test ds, counted_emptied taken refl id (decide.Copied n) (handed ds) test) (omega arith)
once test (emptied b id (decide.Lost n) ∷ ds) = rw (once test ds, counted_emptied taken refl id (decide.Lost n) (handed ds) test) (omega arith)
once test (emptied b id (decide.Thrown n) ∷ ds) = rw (once test ds, counted_emptied taken refl id (decide.Thrown n) (handed ds) test) (omega arith)
once test (emptied b id decide.Void ∷ ds) = rw (once test ds, counted_emptied taken refl id decide.Void (handed ds) test) (omega arith)
once test (emptied b id decide.Stopped ∷ ds) = rw (once test ds, counted_emptied taken refl id decide.Stopped (handed ds) test) (omega arith)
