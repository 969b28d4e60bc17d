-- Believed. What each CPU did, as a list of deeds tells it.
use Rattle.std.specs.Prelude.{ℕ, ◌==◌, List, [], ◌∷◌, ◌++◌, if◌then◌else◌}
use Rattle.dspec_promise.specs.Promise.{commit, discard, service, Did, traced, speculated, emptied, handed, AllDecided}
use Rattle.dspec_promise.specs.Words.Outside.{Deed, Trace, Speculate, Commit, Discard, Settle}

abbrev pub done_by : ℕ → Deed → List Did
done_by c (Trace a r f) = if c == a then traced r f ∷ [] else []
done_by c (Speculate a id r f) = if c == a then speculated id r f ∷ [] else []
done_by c (Commit a id f) = if c == a then emptied commit id f ∷ [] else []
done_by c (Discard a id f) = if c == a then emptied discard id f ∷ [] else []
done_by c (Settle a id f) = if c == a then emptied service id f ∷ [] else []
done_by c d = []

-- what CPU c did, of all that was done in the session
abbrev pub did : ℕ → List Deed → List Did
did c [] = []
did c (d ∷ h) = done_by c d ++ did c h

-- what each of them did
abbrev pub all_did : List Deed → ℕ → List Did
all_did h c = did c h

-- by what was done so far, each record of each CPU has a fate of which the decision was made
abbrev pub DecidedSoFar : ℕ → List Deed → Type 0
DecidedSoFar cpus h = (c : ℕ) → AllDecided cpus (all_did h) (handed (did c h))

-- so it was at the beginning, and after each deed of the list
abbrev pub AtEachMoment : (List Deed → Type 0) → List Deed → Type 0
AtEachMoment P [] = P []
AtEachMoment P (d ∷ h) = AtEachMoment P h × P (d ∷ h)
