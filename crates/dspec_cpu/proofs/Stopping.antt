-- A call heeds a stop that its seat was shown.
use Rattle.std.proofs.Common.{arith, ◌≡◌, Bool, true, false, ◌||◌, List, [], ◌∷◌, ◌++◌, refl, sym, true≢false}
use Rattle.std.proofs.lemmas.Bool.Decides.{nat_tests}
use Rattle.dspec_cpu.specs.Words.{Deed, halted, is_halt, Holder, Since, here, more, LoadedActivity, StopsWhereMet, Doing, View}

or_yes : (a b : Bool) → b ≡ true → (a || b) ≡ true
or_yes true b e = refl
or_yes false b e = e

halted_since : (w : Holder) (seen log : List Deed) → Since w seen log → halted seen ≡ true → halted log ≡ true
halted_since w seen _ here e = e
halted_since w seen (d ∷ h) (more s other) e = or_yes (is_halt d) (halted h) (halted_since w seen h s e)

halted_after : (ds log : List Deed) → halted log ≡ true → halted (ds ++ log) ≡ true
halted_after [] log e = e
halted_after (d ∷ ds) log e = or_yes (is_halt d) (halted (ds ++ log)) (halted_after ds log e)

-- the load of activity showed a stop
pub shown_stop : (doing : Doing) (v w : View) → LoadedActivity doing v true w → StopsWhereMet v false true w
shown_stop doing v w step = grind (arith, nat_tests, halted_after)

-- or that the session runs, whatever came then
pub shown_running : (doing : Doing) (v u w : View) → LoadedActivity doing v false u → StopsWhereMet v false false w
shown_running doing v u w step = grind (arith, nat_tests, halted_since)

-- a worn call is answered otherwise
pub worn_out : (v w : View) → StopsWhereMet v true false w
worn_out v w = record { met = λ met unworn. absurd (true≢false unworn); only = λ t. absurd (true≢false (sym t)) }

-- one that wasn't answered so heeds as far as it came
pub heeded : (v u w : View) → StopsWhereMet v false false u → StopsWhereMet v false false w
heeded v u w s = record { met = s.met; only = λ t. absurd (true≢false (sym t)) }
