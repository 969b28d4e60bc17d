-- Serves proofs. Whose each deed of the list is.
use Rattle.std.specs.Prelude.{ℕ, ◌≡◌, List, ◌∷◌, ◌++◌}
use mathlib.Core.Option.{some}
use lib.ListN.{get_elem?}
use Rattle.dspec_table.specs.{Holders.Holder, Holders.doer, Holders.part_of, Last.In, Rule.holdings, Rule.held_in_all, Words.Outside.Deed, declared.rule.View.View}

-- the deed, which was done after these, stands at its place among this holder's
abbrev pub Holds : Deed → List Deed → (Holder × List Deed) → Type 0
Holds d before p = (p.0 ≡ doer d before) × ((newer : List Deed) × (p.1 ≡ newer ++ d ∷ part_of p.0 before))

-- a seat has the deed among its own, or among those of a seat that was joined into it, and its author has no second one
pub record HasOneSeat (views : List View) (d : Deed) (before : List Deed) : Type 0 where
  pub by : ℕ
  pub view : View
  pub at : get_elem? views by ≡ some view
  pub holding : Holder × List Deed
  pub among : In holding (holdings view)
  pub holds : Holds d before holding
  pub one : held_in_all (doer d before) views ≡ 1
