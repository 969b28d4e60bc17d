-- What a stop enters is read off the consumer's own list.
use Rattle.std.proofs.{Common.arith, Common.◌≡◌, Common.List, Common.[], Common.◌∷◌, Common.◌++◌, Common.refl, lemmas.Bool.Decides.nat_tests}
use Rattle.dspec_session_core.specs.Words.{Consumer, Deed, Halt, halted, part, at_stop, of_consumer, StoredActivity, View}

-- a Halt is the consumer's
pub halted_part : (h : List Deed) → halted (part Consumer h) ≡ halted h
halted_part [] = refl
halted_part (Halt ∷ h) = refl
halted_part (d ∷ h) = grind (arith, nat_tests, halted_part h)

pub stop_enters : (v w : View) → v.who ≡ of_consumer → StoredActivity v w → w.own ≡ at_stop (halted v.own) ++ v.own
stop_enters v w who step = grind (arith, nat_tests, halted_part)
