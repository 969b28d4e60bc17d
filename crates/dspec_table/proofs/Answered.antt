-- What a call answers, from the number that its exchange found.
use Rattle.std.proofs.{Common.arith, Common.◌≡◌, Common.◌≢◌, Common.ℕ, Common.true, Common.false, Common.◌==◌, Common.sym, Common.◌∙◌, Common.subst, lemmas.Bool.Decides.nat_tests}
use Rattle.dspec_table.specs.{Words.SlotState, Words.word_number, Words.TriedNumber, Words.TriedWord, Words.ReapedNumber, Words.ReapedWord, declared.doing.Doing.Doing, declared.rule.View.View}
use Rattle.dspec_word.proofs.Numbers.{one_word}
use Rattle.dspec_deeds.proofs.TestLemmas.{number_is_itself, other_number}

pub tried_hit : (doing : Doing) (slot : ℕ) (v w : View) (new n : ℕ) (from : SlotState) → n ≡ word_number from → TriedNumber doing slot v new n (n == word_number from) w
    → TriedWord doing slot v from true w
tried_hit doing slot v w new n from is t = grind (arith, nat_tests, number_is_itself (word_number from), one_word t.0 from (sym t.1 ∙ is))

pub tried_miss : (doing : Doing) (slot : ℕ) (v w : View) (new n : ℕ) (from got : SlotState) → n ≢ word_number from → word_number got ≡ n
    → TriedNumber doing slot v new n (n == word_number from) w → TriedWord doing slot v got false w
tried_miss doing slot v w new n from got no_hit is t =
    subst (λ (x : SlotState). TriedWord doing slot v x false w) (one_word t.0 got (sym t.1 ∙ sym is)) (subst (λ b. TriedWord doing slot v t.0 b w) (other_number n (word_number from) no_hit) t.2)

-- an exchange that succeeded has left its word
pub left_word : (n : ℕ) (from to shown : SlotState) → n ≡ word_number from → ((n == word_number from) ≡ true → word_number to ≡ word_number shown) → shown ≡ to
left_word = grind (arith, nat_tests)

pub reaped_hit : (slot : ℕ) (v w : View) (n old : ℕ) (from : SlotState) → n ≡ old → old ≡ word_number from → ReapedNumber slot v n (n == old) w → ReapedWord slot v from true w
reaped_hit slot v w n old from is at t = grind (arith, nat_tests, number_is_itself, one_word)
