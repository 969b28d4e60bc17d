-- Lists of accepted records.
use Rattle.std.proofs.Common.{◌++◌, Bool, IsTrue, List, [], ◌∷◌}
use Rattle.std.proofs.lemmas.List.Elements.{All-head, All-tail, All-cons, All-nil}
use Rattle.std.specs.List.{All}
use Rattle.dspec_buffer.specs.Words.{Record}

abbrev pub AllAccepted : (Record → Bool) → List Record → Type 0
AllAccepted accepted rs = All (λ r. IsTrue (accepted r)) rs

module _ (accepted : Record → Bool) where
  pub front_accepted : (rs qs : List Record) → AllAccepted accepted (rs ++ qs) → AllAccepted accepted rs
  front_accepted [] qs h = All-nil (λ r. IsTrue (accepted r))
  front_accepted (r ∷ rs) qs h =
      All-cons (λ r. IsTrue (accepted r)) r rs (All-head (λ r. IsTrue (accepted r)) r (rs ++ qs) h) (front_accepted rs qs (All-tail (λ r. IsTrue (accepted r)) r (rs ++ qs) h))

  pub back_accepted : (rs qs : List Record) → AllAccepted accepted (rs ++ qs) → AllAccepted accepted qs
  back_accepted [] qs h = h
  back_accepted (r ∷ rs) qs h = back_accepted rs qs (All-tail (λ r. IsTrue (accepted r)) r (rs ++ qs) h)

  pub first_accepted : (r : Record) (rs : List Record) → AllAccepted accepted (r ∷ rs) → IsTrue (accepted r)
  first_accepted r rs h = All-head (λ r. IsTrue (accepted r)) r rs h

  pub others_accepted : (r : Record) (rs : List Record) → AllAccepted accepted (r ∷ rs) → AllAccepted accepted rs
  others_accepted r rs h = All-tail (λ r. IsTrue (accepted r)) r rs h
