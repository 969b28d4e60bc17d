-- The load of activity.
use Rattle.std.proofs.Common.{◌≡◌, ℕ, ◌≤◌, Bool, true, false, ◌==◌, not, if◌then◌else◌, List, [], ◌++◌, Some, refl, sym, ap, ◌∙◌, subst, arith}
use Rattle.std.proofs.lemmas.Bool.Decides.{nat_tests}
use Rattle.std.specs.Prelude.{slice_index}
use Rattle.atomic_table.specs.Table.{keeps, Allows, Me}
use Rattle.dspec_table.specs.Words.{Speculation, CpuStep, Holder, of_cpu, halted, late, scan, owed, is_open, in_range, IsSound, WordsRule, activity, activity_place, flight_after, calling, acted}
use Rattle.dspec_table.specs.Words.{Entered, LoadedActivity, at_activity, number_of, Config, Deed, Inactive, CpuOp}
use Rattle.dspec_table.specs.declared.{doing.Doing.Doing, rule.View.View}
use Rattle.dspec_deeds.proofs.{SoundLists.opened_in_range, SoundLists.running_not_late, TestLemmas.off, TestLemmas.and_tells}
use Rattle.dspec_table.proofs.{Adding.sound_adds, Adding.part_adds, InFlight.activity_of, InFlight.service_begins, Keeps.Owes, Keeps.none_owed, Keeps.acts_owed, Keeps.finds, Keeps.idle_log}
use Rattle.dspec_table.proofs.{Keeps.is_cpu, Keeps.its_config}
use Rattle.dspec_interleaving.proofs.StepDeeds.{by_test}
use Rattle.dspec_deeds.specs.declared.calls.CpuOp.TheVariants as op

not_open : (k : Config) (log : List Deed) (id : Speculation) → 1 ≤ k.nspec → IsSound k log → in_range k id ≡ false → false ≡ is_open id log
not_open k log id n s out = grind (arith, nat_tests, and_tells, opened_in_range, off)

module _ (k : Config) (c : ℕ) (log : List Deed) (doing : Doing) (n : 1 ≤ k.nspec) (s : IsSound k log) (rests : owed log ≡ 0) (idle : scan k c log ≡ 0) where
  abbrev Does : List Deed → Type 0
  Does ds = Owes k (of_cpu c) log ds

  -- an identifier out of range is void, and the call ends
  void : (id : Speculation) (x y : CpuStep) → x.deeds ≡ [] → (late c log ≡ false → false ≡ is_open id log → Does y.deeds) → halted log ≡ false → Does (if in_range k id then x else y).deeds
  void id x y none out runs =
      by_test Does (in_range k id) x y (λ t. subst Does (sym none) (none_owed k (of_cpu c) log rests)) (λ f. out (running_not_late c log runs) (not_open k log id n s f))

  owes : (o : CpuOp) (b : Bool) → b ≡ halted log → Does (at_activity k c doing o b)
  owes (op.Trace r) true e = record { adds = (tt, (rests, (idle, e)), refl); rests = refl; quiet = record { active = refl; slots = λ s. refl; acks = λ a s. refl } }
  owes (op.Trace r) false e = by_test Does doing.fits _ _
      (λ t. record { adds = (tt, (rests, (idle, e)), refl); rests = refl; quiet = record { active = refl; slots = λ s. refl; acks = λ a s. refl } })
      (λ f. record { adds = (tt, (rests, (idle, e)), refl); rests = refl; quiet = record { active = refl; slots = λ s. refl; acks = λ a s. refl } })
  owes op.Speculation true e = record { adds = (tt, (rests, (idle, ap not e)), refl); rests = refl; quiet = record { active = refl; slots = λ s. refl; acks = λ a s. refl } }
  owes op.Speculation false e = record { adds = (tt, (rests, (idle, ap not e)), refl); rests = refl; quiet = record { active = refl; slots = λ s. refl; acks = λ a s. refl } }
  owes (op.Speculate id r) true e = record { adds = (tt, (rests, (idle, sym e)), refl); rests = refl; quiet = record { active = refl; slots = λ s. refl; acks = λ a s. refl } }
  owes (op.Speculate id r) false e = void id _ _ refl
      (λ early shut. record { adds = (tt, (rests, (idle, (early, shut))), refl); rests = refl; quiet = record { active = refl; slots = λ s. refl; acks = λ a s. refl } }) (sym e)
  owes (op.Commit id) true e = record { adds = (tt, (rests, (idle, refl, sym e)), refl); rests = refl; quiet = record { active = refl; slots = λ s. refl; acks = λ a s. refl } }
  owes (op.Commit id) false e = void id _ _ refl
      (λ early shut. record { adds = (tt, (rests, (idle, refl, (early, shut))), refl); rests = refl; quiet = record { active = refl; slots = λ s. refl; acks = λ a s. refl } }) (sym e)
  owes (op.Discard id) true e = record { adds = (tt, (rests, (idle, refl, sym e)), refl); rests = refl; quiet = record { active = refl; slots = λ s. refl; acks = λ a s. refl } }
  owes (op.Discard id) false e = void id _ _ refl
      (λ early shut. record { adds = (tt, (rests, (idle, refl, (early, shut))), refl); rests = refl; quiet = record { active = refl; slots = λ s. refl; acks = λ a s. refl } }) (sym e)
  owes op.Service b e = subst Does (sym (service_begins k c doing b (λ s. record { issue = 0; code = Inactive }) (λ s from. false))) (none_owed k (of_cpu c) log rests)

stopped_is : (log : List Deed) (m : ℕ) → m ≡ activity log → (m == 1) ≡ halted log
stopped_is log m e = grind (arith, nat_tests)

pub loads_activity : (k : Config) (slots id c : ℕ) (me : Me ℕ View) (doing : Doing) → 1 ≤ k.nspec → me.0.who ≡ of_cpu c → me.0.also ≡ [] → scan k c me.0.own ≡ 0
    → Allows (WordsRule k) slots id me activity_place (λ n. n) (λ n w. LoadedActivity doing me.0 (n == 1) w.0 × (w.1 ≡ me.1))
loads_activity k slots id c me doing nspec who alone idle st kept homes at bound =
    let v = me.0 in
    let log = kept.log in
    let m = slice_index st.words activity_place in
    let mine = kept.knows id v at in
    let owe : Owes k v.who log (at_activity v.config (number_of v.who) doing doing.op (m == 1)) =
    subst (λ (p : Config × Holder). Owes k p.1 log (at_activity p.0 (number_of p.1) doing doing.op (m == 1))) (λ i. (sym (its_config k log v (is_cpu v c who) mine) i, sym who i))
    (owes k c log doing nspec kept.sound kept.rests (idle_log k st kept id v c at who idle) doing.op (m == 1) (stopped_is log m kept.shows.active)) in
    let ds : List Deed = at_activity v.config (number_of v.who) doing doing.op (m == 1) in
    let called : Entered activity_place (calling doing.op v) log ds (acted activity_place (calling doing.op v) log ds) = record {
      sound = subst (λ (x : Config). IsSound x (ds ++ log)) (sym (its_config k log v (is_cpu v c who) mine)) (sound_adds k v.who log ds kept.sound owe.adds);
      rests = owe.rests;
      own = part_adds k v.who log ds (is_cpu v c who) owe.adds ∙ ap (λ l. ds ++ l) mine.parts.0;
      call = activity_of v.config (number_of v.who) doing doing.op (m == 1);
      view = refl;
    } in (
      acted activity_place (calling doing.op v) log (at_activity v.config (number_of v.who) doing doing.op (m == 1)),
      keeps,
      tt,
      acts_owed k st kept id v me.1 at alone (is_cpu v c who) ds activity_place (flight_after v.config (Some doing.op) ds) owe,
      ((log, finds k st kept id v at (is_cpu v c who), stopped_is log m kept.shows.active, called), refl),
    )
