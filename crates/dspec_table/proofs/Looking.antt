-- Loads that enter nothing.
use Rattle.std.proofs.Common.{◌≡◌, ℕ, ◌≤◌, ◌<◌, true, [], refl, ap, ◌∙◌, subst}
use Rattle.std.specs.Prelude.{slice_index}
use mathlib.Core.Option.{some}
use lib.ListN.{get_elem?}
use Rattle.atomic_table.specs.Table.{State, keeps, Allows, Me}
use Rattle.dspec_table.specs.Words.{Config, same_holder, word_at, WordsRule, slot_place, activity_place, ack_place, acted, Looked, LookedNumber, LoadedAckAt}
use Rattle.dspec_table.specs.declared.rule.View.{View}
use Rattle.dspec_table.proofs.Keeps.{none_owed, acts_owed, finds, its_config}

-- a load that enters nothing keeps the rule
looks : (k : Config) (slots id i : ℕ) (me : Me ℕ View) (T : ℕ → View → Type 0) → same_holder me.0.who me.0.who ≡ true → me.0.also ≡ []
    → ((st : State ℕ View) (kept : WordsRule k st) → get_elem? st.views id ≡ some me.0 → T (slice_index st.words i) (acted i me.0 kept.log []))
    → Allows (WordsRule k) slots id me i (λ n. n) (λ n w. T n w.0 × (w.1 ≡ me.1))
looks k slots id i me T who alone step st kept homes at bound =
    (acted i me.0 kept.log [], keeps, tt, acts_owed k st kept id me.0 me.1 at alone who [] i me.0.flight (none_owed k me.0.who kept.log kept.rests), (step st kept at, refl))

module _ (k : Config) (slots id : ℕ) (me : Me ℕ View) (who : same_holder me.0.who me.0.who ≡ true) (alone : me.0.also ≡ []) where
  pub looks_up : Allows (WordsRule k) slots id me activity_place (λ n. n) (λ n w. Looked activity_place me.0 w.0 × (w.1 ≡ me.1))
  looks_up = looks k slots id activity_place me (λ n w. Looked activity_place me.0 w) who alone (λ st kept at. (kept.log, finds k st kept id me.0 at who, refl))

  pub looks_word : (slot : ℕ) → 1 ≤ slot → slot ≤ k.nspec → Allows (WordsRule k) slots id me (slot_place slot) (λ n. n) (λ n w. LookedNumber slot me.0 n w.0 × (w.1 ≡ me.1))
  looks_word slot one most = looks k slots id (slot_place slot) me (LookedNumber slot me.0) who alone
      (λ st kept at. (word_at slot kept.log, kept.shows.slots slot one most, (kept.log, finds k st kept id me.0 at who, refl, refl)))

  -- an acknowledgement, of the CPU and the slot that the word is of
  pub looks_ack : (i : ℕ) → Allows (WordsRule k) slots id me i (λ n. n) (λ n w. LoadedAckAt i me.0 n w.0 × (w.1 ≡ me.1))
  looks_ack i = looks k slots id i me (LoadedAckAt i me.0) who alone
      (λ st kept at.
      let same = its_config k kept.log me.0 who (kept.knows id me.0 at) in (
        kept.log,
        finds k st kept id me.0 at who,
        (λ c s lt one most is. ap (λ j. slice_index st.words j) (is ∙ ap (λ (x : Config). ack_place x c s) same)
            ∙ kept.shows.acks c s (subst (λ (x : Config). c < x.cpus) same lt) one (subst (λ (x : Config). s ≤ x.nspec) same most)),
        refl,
      ))
