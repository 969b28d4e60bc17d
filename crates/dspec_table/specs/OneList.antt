-- Serves proofs. What holds between any two steps at the shared words: there is one list of deeds.
use Rattle.std.specs.Prelude.{ℕ, ◌≡◌, List}
use mathlib.Core.Option.{some}
use lib.ListN.{get_elem?}
use Rattle.atomic_table.specs.Table.{State}
use Rattle.dspec_table.specs.{Holders.part_of, Showing.Shows, Since.Since, Words.Outside.Config, Words.Outside.Deed, Words.Outside.owed, Words.Outside.IsSound, Words.Outside.HasAuthors}
use Rattle.dspec_table.specs.{declared.rule.View.View}

-- Of the words and of what each seat knows: the list is legal in its common part and owes no release, each of its deeds is of one that the
-- session has, the words show it; each seat's own deeds are its part of it, and it goes on from what each seat has seen.
pub record ShowOneList (k : Config) (st : State ℕ View) : Type 0 where
  pub list : List Deed
  pub sound : IsSound k list
  pub rests : owed list ≡ 0
  pub authors : HasAuthors k list
  pub shows : Shows k st.words list
  pub own : (by : ℕ) (v : View) → get_elem? st.views by ≡ some v → part_of v.who list ≡ v.own
  pub since : (by : ℕ) (v : View) → get_elem? st.views by ≡ some v → Since v.who v.seen list
