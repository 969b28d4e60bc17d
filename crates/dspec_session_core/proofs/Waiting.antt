-- A word that waits for every CPU stands until the consumer releases it.
use Rattle.std.proofs.{Common.arith, Common.◌≡◌, Common.ℕ, Common.true, Common.false, Common.List, Common.◌∷◌, Common.refl, Common.◌∙◌, lemmas.Bool.Decides.nat_tests}
use Rattle.dspec_session_core.specs.Words.{Code, Config, Deed, releases, present, opened, verdict, is_undecided, solo, word_at, IsSound, of_consumer, same_holder, doer, Since, here, more}
use Rattle.dspec_deeds.proofs.{Awaiting.IsAwaiting, StayingDecided.decided_stands, TestLemmas.same_number, TestLemmas.or_true}

-- the present speculation of the slot is decided, and by no CPU alone
pub record Waits (s : ℕ) (h : List Deed) : Type 0 where
  pub given : opened (present s h) h ≡ true
  pub ruled : is_undecided (verdict (present s h) h) ≡ false
  pub alone : solo (present s h) h ≡ Rattle.std.specs.Prelude.None

pub awaited_waits : (s : ℕ) (h : List Deed) (c : Code) → IsAwaiting s h c → Waits s h
awaited_waits s h c w = record { given = w.given; ruled = w.ruled; alone = w.alone }

-- another's deed doesn't release it
unreleased : (s : ℕ) (d : Deed) (h : List Deed) → same_holder of_consumer (doer d h) ≡ false → Waits s h → releases s d ≡ false
unreleased s d h h1 h2 = grind (arith, nat_tests, same_number)

stands_once : (k : Config) (s : ℕ) (d : Deed) (h : List Deed) → IsSound k (d ∷ h) → same_holder of_consumer (doer d h) ≡ false → Waits s h → Waits s (d ∷ h) × (word_at s (d ∷ h) ≡ word_at s h)
stands_once k s d h sound other w = grind (arith, nat_tests, decided_stands, unreleased, or_true)

-- what goes on by deeds of others than the consumer leaves it
pub waits_since : (k : Config) (s : ℕ) (seen log : List Deed) → IsSound k log → Since of_consumer seen log → Waits s seen → Waits s log × (word_at s log ≡ word_at s seen)
waits_since k s seen _ sound here w = (w, refl)
waits_since k s seen (d ∷ h) sound (more rest other) w =
    let before = waits_since k s seen h sound.0 rest w in
    let now = stands_once k s d h sound other before.0 in
    (now.0, now.1 ∙ before.1)
