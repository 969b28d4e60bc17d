-- Whether a CPU's principal buffer would take its block of a speculation, and a commit that was made where it would.
use Rattle.std.proofs.Common.{◌≡◌, ℕ, Bool, true, false, ◌&&◌, ◌||◌, List, [], ◌∷◌, Option, sym, ap, ◌∙◌, arith}
use Rattle.std.proofs.lemmas.Bool.Decides.{nat_tests}
use Rattle.dspec_cpu.specs.Words.{Record, block, Speculation, fits_principal, contents, held, CpuRow, IsOwn, commit, cpu_block_fits, HasList, DecidesOne, is_lost_block, made_all_calls, identity}
use Rattle.dspec_cpu.specs.Words.{Shape, Config, Decided, Deed, Release}
use Rattle.dspec_cpu.specs.declared.parts.CpuParts.{CpuParts as Cpu}
use Rattle.dspec_deeds.proofs.{ReportBounds.AreFitted, ReportBounds.IsFitted, ReportBounds.active_within, TestLemmas.or_tells}

module _ (shape : ℕ → Option Shape) (k : Config) where
  fitted_row : (d : Deed) (p : List Deed) → CpuRow shape k p d → IsFitted shape k p d
  fitted_row (Release s) p row = tt
  fitted_row d p row = row

  fitted : (c : ℕ) (p : List Deed) → IsOwn shape k c p → AreFitted shape k p
  fitted c [] own = tt
  fitted c (d ∷ p) own = (fitted c p own.0, fitted_row d p own.2)

  -- where the CPU holds nothing of the speculation, its block always fits
  pub nothing_fits : (c : ℕ) (id : Speculation) (p : List Deed) → IsOwn shape k c p → held c id p ≡ [] → true ≡ fits_principal shape k c (block (contents (held c id p))) p
  nothing_fits c id p own none =
      sym (ap (λ os. fits_principal shape k c (block (contents os)) p) none ∙ ap (λ b. b && true) (active_within shape k c p (fitted c p own)))

-- by what each schema has
module _ {S : Type 0} (shape_of : S → ℕ → Option Shape) (accepted : S → Record → Bool) (text : S → Record → List ℕ) where
  abbrev pub has : Cpu S → List Deed → Type 0
  has cpu p = HasList (shape_of cpu.schema) (accepted cpu.schema) (text cpu.schema) cpu p

  -- a commit that was worn, or whose block fits, loses none
  pub none_lost : (old new : Cpu S) (id : Speculation) (a : Decided) → identity new ≡ identity old → DecidesOne has commit id a old new
      → (p : List Deed) → has old p → (made_all_calls old || cpu_block_fits (shape_of old.schema) old id p) ≡ true → is_lost_block a ≡ false
  none_lost = grind (arith, nat_tests, or_tells)
