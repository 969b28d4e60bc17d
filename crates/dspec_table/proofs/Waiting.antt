-- A word that waits for every CPU stands until the consumer releases it.
use Rattle.std.proofs.Common.{arith, ◌≡◌, ℕ, true, false, List, ◌∷◌, None, refl, ap, ◌∙◌, subst}
use Rattle.std.proofs.lemmas.Bool.Decides.{nat_tests}
use Rattle.dspec_table.specs.Words.{word_number, awaits, opened, present, verdict, is_undecided, releases, solo, same_actor, author, word_at, IsSound, of_consumer, Since, here, more, Found}
use Rattle.dspec_table.specs.Words.{ReapedNumber, Config, Consumer, Deed}
use Rattle.dspec_table.specs.declared.rule.View.{View}
use Rattle.dspec_deeds.proofs.{Awaiting.awaiting, StayingDecided.decided_stands, TestLemmas.or_true}
use Rattle.dspec_table.proofs.Settlements.{sound_since}

record Waits (s : ℕ) (h : List Deed) : Type 0 where
  given : opened (present s h) h ≡ true
  ruled : is_undecided (verdict (present s h) h) ≡ false
  alone : solo (present s h) h ≡ None

unreleased : (s : ℕ) (d : Deed) (h : List Deed) → same_actor Consumer (author d h) ≡ false → Waits s h → releases s d ≡ false
unreleased = grind (arith, nat_tests)

waits_on : (k : Config) (s : ℕ) (seen log : List Deed) → IsSound k log → Waits s seen → Since of_consumer seen log → (word_at s log ≡ word_at s seen) × Waits s log
waits_on k s seen _ sound held here = (refl, held)
waits_on k s seen (d ∷ h) sound held (more rest other) = grind (arith, nat_tests, waits_on k s seen h sound.0 held rest, decided_stands, unreleased, or_true)

-- by what a step of the consumer found
pub awaited_stands : (v : View) (log : List Deed) (s : ℕ) → v.who ≡ of_consumer → Found v log → awaits (word_at s v.seen).code ≡ true → word_at s log ≡ word_at s v.seen
awaited_stands v log s who found waits =
    let since : Since of_consumer v.seen log = subst (λ x. Since x v.seen log) who found.since in
    let is = awaiting v.config s v.seen (word_at s v.seen).code (sound_since v.config of_consumer v.seen log found.sound since) found.calm refl waits in
    (waits_on v.config s v.seen log found.sound (record { given = is.given; ruled = is.ruled; alone = is.alone }) since).0

-- the exchange that releases it finds it
pub reaped_found : (v : View) (w : View) (s n : ℕ) (hit : Rattle.std.proofs.Common.Bool) → v.who ≡ of_consumer → awaits (word_at s v.seen).code ≡ true
    → ReapedNumber s v n hit w → n ≡ word_number (word_at s v.seen)
reaped_found v w s n hit who waits step = step.1 ∙ ap word_number (step.2.2 ∙ awaited_stands v step.2.0 s who step.2.1 waits)
