-- The word of fields, one field more at a time.
use Rattle.std.proofs.{Common.◌≡◌, Common.◌≤◌, Common.◌+◌, Common.◌*◌, Common.◌-◌, Common.ℕ, Common.zero, Common.suc, Common.List, Common.length, Common.get_or, Common.drop, Common.arith}
use Rattle.std.proofs.{Math.Seq.drop-cons, lemmas.Bool.Decides.nat_tests}
use Rattle.dspec_record.specs.{Words.width, Words.signature_of, declared.field.Field.Field, declared.field.Field.TheVariants.One}

-- the field before the others
pub signature-more : (fs : List Field) (rest : ℕ) → 1 ≤ rest → rest ≤ length fs → signature_of (drop rest fs) * 16 + width (get_or fs (rest - 1) One) ≡ signature_of (drop (rest - 1) fs)
signature-more fs zero some few = absurd (omega arith)
signature-more fs (suc n) some few = grind (arith, nat_tests, drop-cons)
