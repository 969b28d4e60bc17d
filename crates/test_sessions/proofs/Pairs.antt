-- Two seats, taken from a vector.
use Rattle.std.proofs.Common.{◌≡◌, List, [], ◌∷◌, ◌++◌, length, length-append, refl, ap, ◌∙◌, arith}
use Rattle.std.specs.Prelude.{slice_get}
use Rattle.test_sessions.specs.Words.{CpuSeat, known, FreshSeats, IsAt, cpu_of}
use Rattle.dspec_table.specs.declared.seats.Words.{Words}

nothing : {A : Type 0} (xs : List A) → length xs ≡ 0 → xs ≡ []
nothing [] e = refl
nothing (x ∷ xs) e = absurd (omega arith)

-- the two seats that are popped are those of the two CPUs
module _ (words : Words) (items left rest : List CpuSeat) (first second : CpuSeat) (popped : items ≡ left ++ second ∷ []) (popped_too : left ≡ rest ++ first ∷ [])
    (two : length items ≡ 2) (dealt : FreshSeats words items) where
  none_left : rest ≡ []
  none_left =
      let a = length-append left (second ∷ []) in
      let b = length-append rest (first ∷ []) in
      let c = ap (length {A = CpuSeat}) popped in
      let d = ap (length {A = CpuSeat}) popped_too in
      nothing rest (omega arith)

  both : items ≡ first ∷ second ∷ []
  both = popped ∙ ap (λ l. l ++ second ∷ []) (popped_too ∙ ap (λ l. l ++ first ∷ []) none_left)

  pub first_is : IsAt words first × (cpu_of first ≡ 0) × ((known first).own ≡ [])
  first_is = let r = dealt 0 first (ap (λ l. slice_get l 0) both) in ((r.0, ap (λ v. v.config) r.2), r.1, ap (λ v. v.own) r.2)

  pub second_is : IsAt words second × (cpu_of second ≡ 1) × ((known second).own ≡ [])
  second_is = let r = dealt 1 second (ap (λ l. slice_get l 1) both) in ((r.0, ap (λ v. v.config) r.2), r.1, ap (λ v. v.own) r.2)
