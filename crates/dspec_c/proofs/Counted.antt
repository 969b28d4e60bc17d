-- What a closed session tells of one CPU.
use Rattle.std.proofs.Common.{◌≡◌, ℕ, ◌<◌, List, [], ◌∷◌, length, Option, Some, None, suc, zero, refl, sym, subst, arith}
use Rattle.std.specs.Prelude.{slice_get}
use Rattle.dspec_c.specs.{Words.Report, Words.Left, Words.TellsCountsOf, Words.TellsReport, declared.reports.CReport.CReport}
use Rattle.dspec_c.proofs.Options.{if_some}

is_there : (xs : List Left) (c : ℕ) → c < length xs → slice_get xs c ≡ None → ⊥
is_there [] c small e = absurd (omega arith)
is_there (x ∷ xs) zero small e = subst (λ (o : Option Left). if_some o) e tt
is_there (x ∷ xs) (suc c) small e = is_there xs c (omega arith) e

told_of : (o : Option Left) (p : Option ℕ) (n : ℕ) (r : Report) (before now : CReport) → (o ≡ None → ⊥) → p ≡ Some n → ((l : Left) → o ≡ Some l → r ≡ l.report) → TellsReport now r n
    → TellsCountsOf o p 0 before now
told_of None p n r before now there e is tells = absurd (there refl)
told_of (Some l) p n r before now there e is tells = subst (λ (q : Option ℕ). TellsCountsOf (Some l) q 0 before now) (sym e) (refl, subst (λ (x : Report). TellsReport now x n) (is l refl) tells)

-- the counts of a CPU that there is
pub told_counts : (xs : List Left) (c : ℕ) (p : Option ℕ) (n : ℕ) (r : Report) (before now : CReport) → c < length xs → p ≡ Some n → ((l : Left) → slice_get xs c ≡ Some l → r ≡ l.report)
    → TellsReport now r n → TellsCountsOf (slice_get xs c) p 0 before now
told_counts xs c p n r before now small e is tells = told_of (slice_get xs c) p n r before now (is_there xs c small) e is tells
