-- A slot's word only grows, so an exchange that fails shows a greater one.
use Rattle.std.proofs.{Common.◌≡◌, Common.◌≢◌, Common.ℕ, Common.◌≤◌, Common.◌<◌, Common.List, Common.◌∷◌, Common.arith, lemmas.Bool.Decides.nat_tests}
use Rattle.dspec_table.specs.Words.{SlotState, word_number, Holder, word_at, IsSound, Since, here, more, Found, Config, Deed}
use Rattle.dspec_table.specs.declared.rule.View.{View}
use Rattle.dspec_word.proofs.Numbers.{one_word}
use Rattle.dspec_deeds.proofs.WordsRise.{words_rise}

pub word_rises : (k : Config) (w : Holder) (seen log : List Deed) (s : ℕ) → IsSound k log → Since w seen log → word_number (word_at s seen) ≤ word_number (word_at s log)
word_rises k w seen _ s sound here = omega arith
word_rises k w seen (d ∷ h) s sound (more rest other) = let a = word_rises k w seen h s sound.0 rest in let b = words_rise k s d h sound in omega arith

-- another word than the one last seen is greater
pub shown_greater : (v : View) (log : List Deed) (s : ℕ) (from shown : SlotState) → from ≡ word_at s v.seen → Found v log → shown ≡ word_at s log → shown ≢ from → word_number from < word_number shown
shown_greater v log s from shown was found is apart = grind (arith, nat_tests, word_rises, one_word)
