-- Two seats, taken from a vector and given back.
use Rattle.std.proofs.Common.{◌≡◌, ℕ, zero, suc, List, [], ◌∷◌, ◌++◌, length, length-append, Some, refl, sym, ap, subst, ◌∙◌, arith}
use Rattle.std.specs.Prelude.{slice_get}
use Rattle.test_words.specs.Words.{CpuSeat, known, FreshSeats, IsAt, set_up, cpu_of, AreSeats}
use Rattle.dspec_table.specs.declared.seats.Words.{Words}

nothing : {A : Type 0} (xs : List A) → length xs ≡ 0 → xs ≡ []
nothing [] e = refl
nothing (x ∷ xs) e = absurd (omega arith)

-- the two seats that are popped are those of the two CPUs
module _ (words : Words) (items left rest : List CpuSeat) (first second : CpuSeat) (popped : items ≡ left ++ second ∷ []) (popped_too : left ≡ rest ++ first ∷ [])
    (two : length items ≡ 2) (dealt : FreshSeats words items) where
  none_left : rest ≡ []
  none_left =
      let a = length-append left (second ∷ []) in
      let b = length-append rest (first ∷ []) in
      let c = ap (length {A = CpuSeat}) popped in
      let d = ap (length {A = CpuSeat}) popped_too in
      nothing rest (omega arith)

  both : items ≡ first ∷ second ∷ []
  both = popped ∙ ap (λ l. l ++ second ∷ []) (popped_too ∙ ap (λ l. l ++ first ∷ []) none_left)

  pub first_is : IsAt words first × (cpu_of first ≡ 0) × ((known first).own ≡ [])
  first_is = let r = dealt 0 first (ap (λ l. slice_get l 0) both) in ((r.0, ap (λ v. v.config) r.2), r.1, ap (λ v. v.own) r.2)

  pub second_is : IsAt words second × (cpu_of second ≡ 1) × ((known second).own ≡ [])
  second_is = let r = dealt 1 second (ap (λ l. slice_get l 1) both) in ((r.0, ap (λ v. v.config) r.2), r.1, ap (λ v. v.own) r.2)

some_is : (a b : CpuSeat) → Some a ≡ Some b → a ≡ b
some_is a b e = cc

-- two seats, in order, are all seats of two CPUs
pub are_two : (words : Words) (first second : CpuSeat) → (set_up words).cpus ≡ 2 → IsAt words first × (cpu_of first ≡ 0) → IsAt words second × (cpu_of second ≡ 1)
    → AreSeats words (first ∷ second ∷ [])
are_two words first second two one other = record { all = sym two; each = go }
  where
    go : (c : ℕ) (s : CpuSeat) → slice_get (first ∷ second ∷ []) c ≡ Some s → IsAt words s × (s.cpu ≡ c)
    go zero s e = subst (λ (x : CpuSeat). IsAt words x × (x.cpu ≡ 0)) (some_is first s e) one
    go (suc zero) s e = subst (λ (x : CpuSeat). IsAt words x × (x.cpu ≡ 1)) (some_is second s e) other
    go (suc (suc c)) s e = absurd (cc (e))
