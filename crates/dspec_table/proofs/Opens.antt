-- The exchange that gives out a speculation.
use Rattle.std.proofs.Common.{arith, ◌≡◌, ◌≢◌, ◌⊎◌, ℕ, ◌≤◌, true, false, ◌==◌, List, [], ◌∷◌, refl, sym, ap, ◌∙◌, subst, inl}
use Rattle.std.proofs.lemmas.Bool.Decides.{nat_tests}
use prog.Atomic.{either}
use Rattle.atomic_table.specs.Table.{Allows, Me}
use Rattle.dspec_table.specs.Words.{SlotState, word_number, open_at, is_inactive, slot_place, of_cpu, scan, owed, present, opened_since, word_at, IsSound, Follows, WordsRule, Since, here, more}
use Rattle.dspec_table.specs.Words.{number_of, MayOpen, OpenedNumber, at_exchange, nothing, Attempt, Config, Deed, Opened}
use Rattle.dspec_table.specs.declared.rule.View.{View}
use Rattle.dspec_deeds.specs.declared.calls.CpuOp.TheVariants as op
use Rattle.dspec_deeds.proofs.{StayingFree.free_or_taken, WordChanges.opened_word, WordCodes.open_attempt, WordCodes.open_inactive, WordCodes.busy_is}
use Rattle.dspec_table.proofs.{Changes.Changes, Changes.one_change, Changes.exchanges_in_call, InFlight.open_of, Keeps.Owes, Keeps.idle_log}
use Rattle.dspec_interleaving.proofs.StepDeeds.{missed_deeds}

-- the word that was seen free stands, or the slot was given out since
taken_since : (k : Config) (c s : ℕ) (seen log : List Deed) → IsSound k log → is_inactive (word_at s seen).code ≡ true → Since (of_cpu c) seen log
    → (word_at s log ≡ word_at s seen) ⊎ (opened_since c s log ≡ true)
taken_since k c s seen _ sound inactive here = inl refl
taken_since k c s seen (d ∷ h) sound inactive (more rest other) = free_or_taken k c s (word_at s seen) d h sound other inactive (taken_since k c s seen h sound.0 inactive rest)

given_out : (k : Config) (c s : ℕ) (log : List Deed) (new : SlotState) → IsSound k log → owed log ≡ 0 → 1 ≤ s → scan k c log ≡ s → open_at (word_at s log) k.max_issues ≡ Attempt new
    → Changes k (of_cpu c) s (word_number new) log (Opened c (present s log) ∷ [])
given_out k c s log new sound rests one at e =
    let r = open_attempt k log s new e in
    let d : Deed = Opened c (present s log) in
    let follows : Follows k log d = (rests, (at, one, r.0, refl)) in
    one_change k c log d new follows refl refl (r.1 ∙ sym (opened_word k c (present s log) log (sound, follows))) refl (λ a t. refl)

missed : (k : Config) (c s : ℕ) (log seen : List Deed) → IsSound k log → owed log ≡ 0 → 1 ≤ s → scan k c log ≡ s → is_inactive (word_at s seen).code ≡ true
    → Since (of_cpu c) seen log → word_at s log ≢ word_at s seen
    → Owes k (of_cpu c) log (at_exchange k c nothing s (word_at s log) false op.Speculation)
missed k c s log seen sound rests one at inactive since apart = grind (arith, nat_tests, Owes, missed_deeds, taken_since, busy_is)

pub opens_word : (k : Config) (slots id c slot : ℕ) (me : Me ℕ View) (from to : SlotState) → 1 ≤ slot → slot ≤ k.nspec → me.0.who ≡ of_cpu c → me.0.also ≡ [] → MayOpen k me.0 c slot from to
    → Allows (WordsRule k) slots id me (slot_place slot) (λ n. either (n == word_number from) (word_number to) n)
    (λ n w. OpenedNumber slot me.0 (word_number to) n (n == word_number from) w.0 × (w.1 ≡ me.1))
opens_word k slots id c slot me from to one most who alone may =
    exchanges_in_call k slots id c slot me nothing op.Speculation from to one most who alone
    (λ st kept at same. given_out k c slot kept.log to kept.sound kept.rests one (idle_log k st kept id me.0 c at who may.0) (ap (λ w. open_at w k.max_issues) same ∙ may.2))
    (λ st kept at other. missed k c slot kept.log me.0.seen kept.sound kept.rests one (idle_log k st kept id me.0 c at who may.0)
    (ap (λ (w : SlotState). is_inactive w.code) (sym may.1) ∙ open_inactive from to k.max_issues may.2)
    (subst (λ x. Since x me.0.seen kept.log) who (kept.knows id me.0 at).since) (λ e. other (e ∙ sym may.1)))
    (λ w hit. open_of k me.0 c nothing slot me.0.config (number_of me.0.who) w hit may.3)
