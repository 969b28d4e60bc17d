-- The words that the list shows never fall.
use Rattle.std.proofs.{Common.◌≡◌, Common.ℕ, Common.◌≤◌, Common.List, Common.◌∷◌, Common.Some, Common.refl, Common.ap, Common.◌∙◌, Common.arith, lemmas.Bool.Decides.nat_tests}
use Rattle.dspec_deeds.specs.Words.{Speculation, word_number, code_number, issue, present, committed, callers, joined, standing, active_code, code_at, word_at, IsSound, Code}
use Rattle.dspec_deeds.specs.declared.{config.Config.Config, deed.Deed.Deed}
use Rattle.dspec_word.proofs.Numbers.{code_below}
use Rattle.dspec_deeds.proofs.PresentIds.{IsPresent, open_present}
use Rattle.dspec_deeds.proofs.TestLemmas.{and_tells, not_false, same_number}
use Rattle.dspec_deeds.proofs.WordChanges.{touches, untouched, granted_open, commit_open, discard_open, opened_word, granted_word, committed_word, discarded_word, released_word}

-- the greatest code of an open speculation
active_bound : (cs : List ℕ) → code_number (active_code cs) ≤ 3
active_bound cs = grind arith

-- one more caller
joins_rise : (c : ℕ) (cs : List ℕ) → code_number (active_code cs) ≤ code_number (active_code (joined (Some c) cs))
joins_rise c cs = grind arith

-- the least code of a commit
commit_rises : (c : ℕ) (cs : List ℕ) → 4 ≤ code_number (standing (committed c) cs)
commit_rises c cs = grind arith

-- the word of an open speculation
open_word : (id : Speculation) (h : List Deed) → IsPresent id h → code_at (present id.slot h) h ≡ active_code (callers id h)
open_word id h at = let given = at.given in let free = at.free in ap (λ j. code_at j h) at.is ∙ (let codes : code_at id h ≡ active_code (callers id h) = rw (given, free) refl in codes)

-- of the same issue, with a code that is no less
rise : (t : ℕ) (d : Deed) (h : List Deed) (old new : Code) → code_at (present t h) h ≡ old → word_at t (d ∷ h) ≡ record { issue = issue t h; code = new } → code_number old ≤ code_number new
    → word_number (word_at t h) ≤ word_number (word_at t (d ∷ h))
rise t d h old new h1 h2 h3 = grind arith

-- no deed makes a word's number less
pub words_rise : (k : Config) (t : ℕ) (d : Deed) (h : List Deed) → IsSound k (d ∷ h) → word_number (word_at t h) ≤ word_number (word_at t (d ∷ h))
words_rise k t d h s =
    grind (
      arith,
      nat_tests,
      touches,
      untouched,
      not_false,
      same_number,
      rise,
      opened_word,
      and_tells,
      open_word,
      open_present,
      granted_open,
      granted_word,
      joins_rise,
      commit_open,
      committed_word,
      active_bound,
      commit_rises,
      discard_open,
      discarded_word,
      code_below,
      released_word,
    )
