-- The last two seats of a session that starts.
use Rattle.std.proofs.Common.{◌≡◌, ℕ, List, [], ◌∷◌, ◌++◌, length, Some, ap, ◌∙◌}
use Rattle.std.specs.Prelude.{slice_get}
use Rattle.bench.specs.Words.{CpuSeat, known, FreshSeats, IsAt, set_up, cpu_of, Unused}
use Rattle.dspec_table.specs.declared.seats.Words.{Words}
use Rattle.dspec_table.proofs.AtEnd.{got_front, got_last}
use Rattle.test_words.proofs.Openers.{none_unused}

at_place : (words : Words) (items : List CpuSeat) (n : ℕ) (seat : CpuSeat) → slice_get items n ≡ Some seat → FreshSeats words items
    → IsAt words seat × Unused (set_up words) (cpu_of seat) (known seat).own
at_place words items n seat at fresh =
    let r = fresh n seat at in
    ((r.0, ap (λ v. v.config) r.2), none_unused (set_up words) (cpu_of seat) (known seat).own (ap (λ v. v.own) r.2))

module _ (words : Words) (items left : List CpuSeat) (last : CpuSeat) (is : items ≡ left ++ last ∷ []) (fresh : FreshSeats words items) where
  pub last_is : IsAt words last × Unused (set_up words) (cpu_of last) (known last).own
  last_is = at_place words items (length left) last (ap (λ l. slice_get l (length left)) is ∙ got_last left last) fresh

  pub next_is : (rest : List CpuSeat) (seat : CpuSeat) → left ≡ rest ++ seat ∷ [] → IsAt words seat × Unused (set_up words) (cpu_of seat) (known seat).own
  next_is rest seat then =
      let there : slice_get left (length rest) ≡ Some seat = ap (λ l. slice_get l (length rest)) then ∙ got_last rest seat in
      at_place words items (length rest) seat (ap (λ l. slice_get l (length rest)) is ∙ got_front left last (length rest) seat there) fresh
