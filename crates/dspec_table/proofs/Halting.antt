-- The consumer stops the session.
use Rattle.std.proofs.{Common.◌≡◌, Common.ℕ, Common.Bool, Common.true, Common.false, Common.List, Common.[], Common.◌++◌, Common.Option, Common.refl, Common.sym, Common.subst, Common.arith}
use Rattle.std.proofs.{Math.ListN.length-set, lemmas.Bool.Decides.nat_tests, lemmas.List.get_or-set_same, lemmas.List.get_or-set_other}
use Rattle.std.specs.Prelude.{slice_set}
use Rattle.atomic_table.specs.Table.{keeps, Allows, Me}
use Rattle.dspec_table.specs.Words.{Config, Deed, of_consumer, same_holder, halted, owed, WordsRule, Shows, activity_place, acted, StoredActivity, at_stop, AreOf, CpuOp}
use Rattle.dspec_table.specs.declared.rule.View.{View}
use Rattle.dspec_table.proofs.{Adding.Adds, Changes.leaves_asks, Keeps.acts, Keeps.enters, Keeps.finds, Places.before_groups}

stop_shows : (k : Config) (words : List ℕ) (log : List Deed) (b : Bool) → halted log ≡ b → Shows k words log → Shows k (slice_set words activity_place 1) (at_stop b ++ log)
stop_shows k words log b is sh = grind (arith, nat_tests, length-set, get_or-set_same, get_or-set_other, before_groups)

stops_log : (k : Config) (log : List Deed) (b : Bool) → halted log ≡ b → owed log ≡ 0 → Adds k of_consumer log (at_stop b) × (owed (at_stop b ++ log) ≡ 0)
stops_log k log true e rests = (tt, rests)
stops_log k log false e rests = ((tt, (rests, e), refl), refl)

stop_of : (flight : Option CpuOp) (b : Bool) → AreOf flight (at_stop b)
stop_of flight true = tt
stop_of flight false = (tt, tt)

pub stops : (k : Config) (slots id : ℕ) (me : Me ℕ View) → me.0.who ≡ of_consumer → me.0.also ≡ []
    → Allows (WordsRule k) slots id me activity_place (λ _. 1) (λ _ w. StoredActivity me.0 w.0 × (w.1 ≡ me.1))
stops k slots id me who alone st kept homes at bound =
    let v = me.0 in
    let log = kept.log in
    let is_me : same_holder v.who v.who ≡ true = subst (λ x. same_holder x x ≡ true) (sym who) refl in
    let owe = stops_log k log (halted log) refl kept.rests in
    let adds : Adds k v.who log (at_stop (halted log)) = subst (λ x. Adds k x log (at_stop (halted log))) (sym who) owe.0 in (
      acted activity_place v log (at_stop (halted log)),
      keeps,
      tt,
      acts k st kept id v me.1 at alone is_me (at_stop (halted log)) activity_place 1 adds owe.1 (stop_shows k st.words log (halted log) refl kept.shows)
          (leaves_asks k st.words activity_place 1 (omega arith)),
      ((log, finds k st kept id v at is_me, enters k st kept id v at is_me (at_stop (halted log)) activity_place adds owe.1 (stop_of v.flight (halted log))), refl),
    )
