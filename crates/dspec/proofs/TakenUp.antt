-- The number 0 names none, and only that does.
use Rattle.std.proofs.{Common.◌≡◌, Common.arith, lemmas.Bool.Decides.nat_tests}
use Rattle.dspec.specs.Words.{Speculation, id_number, no_speculation}

pub none_of_zero : (id : Speculation) → id_number id ≡ 0 → no_speculation ≡ id
none_of_zero id zero = grind (arith, nat_tests)
