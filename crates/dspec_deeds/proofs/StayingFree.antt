-- A slot that is free keeps its word until it is given out.
use Rattle.std.proofs.{Common.arith, Common.◌≡◌, Common.◌⊎◌, Common.ℕ, Common.true, Common.false, Common.List, Common.◌∷◌, lemmas.Bool.Decides.nat_tests}
use Rattle.dspec_deeds.specs.Words.{Speculation, SlotState, is_inactive, releases, present, opens, opens_slot, opened, opened_since, word_at, same_actor, author, IsSound}
use Rattle.dspec_deeds.specs.declared.{calls.Actor.TheVariants.Cpu, config.Config.Config, deed.Deed.Deed}
use Rattle.dspec_deeds.proofs.{SoundLists.unseen, StayingOwn.is_scan_other, TestLemmas.or_true, TestLemmas.same_number, WordCodes.code_inactive}

-- where the slot is not given out, none of its speculations is
not_opened : (s : ℕ) (d : Deed) (j : Speculation) → j.slot ≡ s → opens_slot s d ≡ false → opens j d ≡ false
not_opened s d j h1 h2 = grind arith

-- a slot that was not given out is not released
pub free_unreleased : (k : Config) (s : ℕ) (d : Deed) (h : List Deed) → IsSound k (d ∷ h) → opened (present s h) h ≡ false → releases s d ≡ false
free_unreleased k s d h h1 h2 = grind (arith, nat_tests, same_number, unseen)

-- a free slot that is not given out keeps its word
pub free_stays : (k : Config) (s : ℕ) (d : Deed) (h : List Deed) → IsSound k (d ∷ h) → opened (present s h) h ≡ false → opens_slot s d ≡ false → word_at s (d ∷ h) ≡ word_at s h
free_stays k s d h sound un shut = grind (arith, nat_tests, free_unreleased, not_opened)

-- another's deed leaves the word of a free slot, or the slot was given out since
pub free_or_taken : (k : Config) (c s : ℕ) (w : SlotState) (d : Deed) (h : List Deed) → IsSound k (d ∷ h) → same_actor (Cpu c) (author d h) ≡ false → is_inactive w.code ≡ true
    → (word_at s h ≡ w) ⊎ (opened_since c s h ≡ true) → (word_at s (d ∷ h) ≡ w) ⊎ (opened_since c s (d ∷ h) ≡ true)
free_or_taken k c s w d h sound other inactive was = grind (arith, nat_tests, is_scan_other, code_inactive, free_stays, or_true)
