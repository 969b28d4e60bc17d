-- Each deed changes one word at most, to a word that it tells.
use Rattle.std.proofs.{Common.arith, Common.◌≡◌, Common.ℕ, Common.true, Common.List, Common.◌∷◌, lemmas.Bool.Decides.nat_tests}
use Rattle.dspec_deeds.specs.Words.{Code, SlotState, word_at, ack, IsSound, touches, word_made, word_after, ack_after}
use Rattle.dspec_deeds.specs.declared.{config.Config.Config, deed.Deed.Deed}
use Rattle.dspec_deeds.proofs.{PresentIds.open_present, TestLemmas.and_tells, TestLemmas.same_number, WordChanges.untouched, WordChanges.granted_open, WordChanges.commit_open}
use Rattle.dspec_deeds.proofs.{WordChanges.discard_open, WordChanges.opened_word, WordChanges.granted_word, WordChanges.committed_word, WordChanges.discarded_word, WordChanges.released_word}

-- the same word by the identifier's own issue
issued : {m n : ℕ} (c : Code) → m ≡ n → ◌≡◌ {A = SlotState} record { issue = m; code = c } record { issue = n; code = c }
issued c e = λ i. record { issue = e i; code = c }

-- the word of the slot that a deed touches
made : (k : Config) (t : ℕ) (d : Deed) (h : List Deed) → IsSound k (d ∷ h) → touches t d ≡ true → word_at t (d ∷ h) ≡ word_made d h
made k t d h h1 h2 =
    grind (arith, nat_tests, same_number, opened_word, issued, and_tells, open_present, granted_open, granted_word, commit_open, committed_word, discard_open, discarded_word, released_word)

-- each word after a deed
pub words_made : (k : Config) (s : ℕ) (d : Deed) (h : List Deed) → IsSound k (d ∷ h) → word_at s (d ∷ h) ≡ word_after s d h
words_made k s d h sound = grind (arith, nat_tests, made, untouched)

-- each acknowledgement after a deed
pub acks_made : (k : Config) (c s : ℕ) (d : Deed) (h : List Deed) → IsSound k (d ∷ h) → ack c s (d ∷ h) ≡ ack_after c s d h
acks_made k c s d h sound = grind arith
