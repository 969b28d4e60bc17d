-- Services after a work: one more, and what all of them settled.
use Rattle.std.proofs.Common.{◌≡◌, ℕ, zero, suc, List, [], ◌++◌, refl, sym, ap, ◌∙◌, append_assoc}
use Rattle.std.proofs.lemmas.List.{map-append}
use Rattle.dspec.specs.Words.{Speculation, emptied, service, CallsMade, settled_did, ServedOn, ServedOnce, ServedTimes, DecideFate}

-- none
pub not_served : (x : CallsMade) → ServedOn x x
not_served x = record { services = 0; serves = refl }

-- one more
pub served_again : (x y z : CallsMade) → ServedOn x y → ServedOnce y z → ServedOn x z
served_again x y z before once = record { services = suc before.services; serves = (y, before.serves, once) }

-- These settlements of what others decided, the latest first, are all that was done.
pub record Settled (x y : CallsMade) : Type 0 where
  pub settled : List (Speculation × DecideFate)
  pub done : y.done ≡ settled_did settled ++ x.done
  pub worn : y.worn ≡ x.worn

-- more settlements, and those after them
pub settled_after : (more : List (Speculation × DecideFate)) (x y : CallsMade) (s : Settled x y)
    → settled_did more ++ y.done ≡ settled_did (more ++ s.settled) ++ x.done
settled_after more x y s =
    ap (λ ds. settled_did more ++ ds) s.done
    ∙ (sym (append_assoc (settled_did more) (settled_did s.settled) x.done)
    ∙ ap (λ ds. ds ++ x.done) (sym (map-append (λ (one : Speculation × DecideFate). emptied service one.0 one.1) more s.settled)))

-- what so many services did
pub settled_by : (n : ℕ) (x y : CallsMade) → ServedTimes n x y → Settled x y
settled_by zero x y same = record {
  settled = [];
  done = ap (λ (z : CallsMade). z.done) same;
  worn = ap (λ (z : CallsMade). z.worn) same;
}
settled_by (suc n) x y (mid, before, (answer, one)) =
    let earlier = settled_by n x mid before in
    record {
      settled = one.settled ++ earlier.settled;
      done = ap (λ (z : CallsMade). z.done) one.after ∙ settled_after one.settled x mid earlier;
      worn = ap (λ (z : CallsMade). z.worn) one.after ∙ earlier.worn;
    }
