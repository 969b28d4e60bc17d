-- The last element of a list of one is its first.
use Rattle.std.proofs.{Common.◌≡◌, Common.List, Common.[], Common.◌∷◌, Common.◌++◌, Common.length, Common.Some, Common.ap, Common.sym, Common.◌∙◌, Common.arith, lemmas.List.length_push}
use Rattle.std.specs.Prelude.{slice_get}
use Rattle.bench.specs.Words.{CpuSeat}
use Rattle.dspec_table.proofs.AtEnd.{got_last}

pub first_is : (items rest : List CpuSeat) (x : CpuSeat) → items ≡ rest ++ x ∷ [] → length items ≡ 1 → slice_get items 0 ≡ Some x
first_is items rest x last one =
    let more = length_push rest x in
    let count = ap length last in
    let none : length rest ≡ 0 = omega arith in
    ap (λ n. slice_get items n) (sym none) ∙ (ap (λ l. slice_get l (length rest)) last ∙ got_last rest x)
