-- The page at one small history: two CPUs speculate to a speculation, one commits it, and the other settles that.
use Rattle.std.proofs.Common.{◌≡◌, ℕ, true, List, [], ◌∷◌, None, Some, refl}
use Rattle.dspec_promise.specs.Words.{Record, Speculation, did, traced, taken, dropped, held, handed, cpu_stream, Promise, Deed, Trace, Scan, Opened, Speculate, Commit, Settle, Report}
use Rattle.dspec_deeds.specs.declared.deed.TraceFate.TheVariants as trace
use Rattle.dspec_deeds.specs.declared.deed.SpeculateFate.TheVariants as speculate
use Rattle.dspec_deeds.specs.declared.deed.DecideFate.TheVariants as decide

abbrev id : Speculation
id = record { issue = 0; slot = 1 }

abbrev r : ℕ → Record
r n = record { epid = 0; stamp = n; values = [] }

abbrev before : List Deed
before = Commit 0 id (decide.Copied 1) ∷ Trace 0 (r 3) trace.Kept ∷ Trace 1 (r 5) trace.Dropped ∷ Speculate 1 id (r 2) speculate.Kept
    ∷ Speculate 0 id (r 1) speculate.Kept ∷ Opened 0 id ∷ Scan 0 true ∷ []

-- the committing CPU's copy comes after what it had traced
it_came : cpu_stream (did 0 before) ≡ r 1 ∷ r 3 ∷ []
it_came = refl

-- the other CPU's record waits until that CPU settles
it_waits : handed (did 1 before) ≡ record { content = r 5; to = None; fate = dropped } ∷ record { content = r 2; to = Some id; fate = held } ∷ []
it_waits = refl

it_is_taken : handed (did 1 (Settle 1 id (decide.Copied 1) ∷ before)) ≡ record { content = r 5; to = None; fate = dropped } ∷ record { content = r 2; to = Some id; fate = taken } ∷ []
it_is_taken = refl

then_it_comes : cpu_stream (did 1 (Settle 1 id (decide.Copied 1) ∷ before)) ≡ r 2 ∷ []
then_it_comes = refl

-- What the page alone lets through: a session that did nothing, and one that drops whatever it is handed. The first is excluded where
-- what the CPUs did is tied to their calls' answers, the second by the reasons of the answers.
abbrev none : Report
none = record { offered = 0; accepted = 0; dropped = 0; specdropped = 0; lost = 0; discarded = 0; void = 0; held = 0; drops = 0; unavailable = 0; busy = 0; stopped = 0; worn = 0 }

does_nothing : Promise 1 (λ c. []) 0 [] none
does_nothing = record {
  keeps = record { in_order = ([], refl); once = λ test. refl; decided = tt; one_decision = λ id done c lt. refl; numbers = tt };
  whole = refl;
  waits = tt;
  offered = refl;
  accepts = refl;
  drops = refl;
  specdrops = refl;
  loses = refl;
  discarding = refl;
  voids = refl;
  holds = refl;
}

drops_all : Promise 1 (λ c. traced (r 1) trace.Dropped ∷ []) 0 [] record none { offered = 1; dropped = 1 }
drops_all = record {
  keeps = record { in_order = ([], refl); once = λ test. refl; decided = (λ id clash. tt, tt); one_decision = λ id done c lt. refl; numbers = tt };
  whole = refl;
  waits = (λ id clash. absurd (cc), tt);
  offered = refl;
  accepts = refl;
  drops = refl;
  specdrops = refl;
  loses = refl;
  discarding = refl;
  voids = refl;
  holds = refl;
}
