-- Whatever is answered in a legal list has its reason.
use Rattle.std.proofs.{Common.◌≡◌, Common.ℕ, Common.true, Common.false, Common.List, Common.[], Common.◌∷◌, Common.Option, Common.refl, Common.⊎_elim, Common.arith, lemmas.Bool.Decides.nat_tests}
use Rattle.dspec_promise.specs.Words.{Shape, Record, Speculation, opens, opened, IsAllowed, IsSound, number, HasReason, HaveReasons, GivenOnce, Config, TraceFate, SpeculateFate, DecideFate, Deed}
use Rattle.dspec_promise.specs.Words.{Trace, Speculate, Commit, Discard, Settle}
use Rattle.dspec_deeds.proofs.TestLemmas.{either_way, or_none, not_false, same_id_tells}
use Rattle.dspec_promise.proofs.Doings.{never_settles}

traced_reason : (shape : ℕ → Option Shape) (k : Config) (a : ℕ) (r : Record) (f : TraceFate) (h : List Deed) → IsAllowed shape k (Trace a r f ∷ h) → HasReason shape k (Trace a r f) h
traced_reason = grind (arith, nat_tests)

spoken_reason : (shape : ℕ → Option Shape) (k : Config) (a : ℕ) (id : Speculation) (r : Record) (f : SpeculateFate) (h : List Deed)
    → IsAllowed shape k (Speculate a id r f ∷ h) → HasReason shape k (Speculate a id r f) h
spoken_reason = grind (arith, nat_tests)

committed_reason : (shape : ℕ → Option Shape) (k : Config) (a : ℕ) (id : Speculation) (f : DecideFate) (h : List Deed) → IsAllowed shape k (Commit a id f ∷ h) → HasReason shape k (Commit a id f) h
committed_reason = grind (arith, nat_tests)

discarded_reason : (shape : ℕ → Option Shape) (k : Config) (a : ℕ) (id : Speculation) (f : DecideFate) (h : List Deed) → IsAllowed shape k (Discard a id f ∷ h) → HasReason shape k (Discard a id f) h
discarded_reason = grind (arith, nat_tests)

settled_reason : (shape : ℕ → Option Shape) (k : Config) (a : ℕ) (id : Speculation) (f : DecideFate) (h : List Deed) → IsAllowed shape k (Settle a id f ∷ h) → HasReason shape k (Settle a id f) h
settled_reason = grind (arith, nat_tests, never_settles)

pub reasons : (shape : ℕ → Option Shape) (k : Config) (h : List Deed) → IsAllowed shape k h → HaveReasons shape k h
reasons shape k [] l = tt
reasons shape k (d ∷ h) l = grind (arith, nat_tests, reasons shape k h (l.0.0, l.1.0), traced_reason, spoken_reason, committed_reason, discarded_reason, settled_reason)

-- what was not given out was given out no time
none_given : (id : Speculation) (h : List Deed) → opened id h ≡ false → number (opens id) h ≡ 0
none_given id [] n = refl
none_given id (d ∷ h) n = let both = or_none (opens id d) (opened id h) n in rw (both.0, none_given id h both.1) refl

-- what is given out was not before
given_first : (k : Config) (id : Speculation) (d : Deed) (h : List Deed) → IsSound k (d ∷ h) → opens id d ≡ true → opened id h ≡ false
given_first = grind (arith, nat_tests, not_false, same_id_tells)

pub given_once : (k : Config) (h : List Deed) → IsSound k h → GivenOnce h
given_once k [] s = λ id. omega arith
given_once k (d ∷ h) s = λ id. ⊎_elim
    (λ (t : opens id d ≡ true). rw (t, none_given id h (given_first k id d h s t)) (omega arith))
    (λ (n : opens id d ≡ false). let before = given_once k h s.0 id in rw n (omega arith))
    (either_way (opens id d))
