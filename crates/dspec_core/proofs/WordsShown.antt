-- The words show the list still after a deed that touches them, or touches none.
use Rattle.std.proofs.Common.{◌≡◌, ℕ, ◌-◌, ◌≤◌, false, List, ◌∷◌, Some, sym, ap, ◌∙◌, arith}
use Rattle.std.proofs.lemmas.{Bool.Decides.nat_tests, List.length-set}
use Rattle.std.specs.Prelude.{slice_set}
use Rattle.dspec_core.specs.Words.{SlotState, word_at, ShowsWords, Config, Deed}
use Rattle.dspec_deeds.proofs.{Places.got_set, Places.got_other, TestLemmas.same_number, TestLemmas.numbers_differ, WordChanges.touches, WordChanges.untouched, WordChanges.slot_of}
use Rattle.dspec_deeds.proofs.{WordChanges.elsewhere}

-- a deed that touches no word leaves the words
pub words_stay : (k : Config) (d : Deed) (h : List Deed) (words : List SlotState) → ((t : ℕ) → touches t d ≡ false) → ShowsWords k h words → ShowsWords k (d ∷ h) words
words_stay k d h words none was = record { count = was.count; slots = λ s slot. was.slots s slot ∙ ap (λ w. Some w) (sym (untouched s d h (none s))) }

-- the words once that of the deed's slot is what the deed leaves
pub words_set : (k : Config) (d : Deed) (h : List Deed) (words : List SlotState) (w : SlotState) → 1 ≤ slot_of d → slot_of d ≤ k.nspec → w ≡ word_at (slot_of d) (d ∷ h)
    → ShowsWords k h words → ShowsWords k (d ∷ h) (slice_set words (slot_of d - 1) w)
words_set k d h words w least most is was = grind (arith, nat_tests, length-set, slot_of, got_set, same_number, numbers_differ, got_other, elsewhere)
