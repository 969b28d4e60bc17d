-- A call in flight on an identifier, after each of its steps. No proof of this crate cites it; those of the crates above do.
use Rattle.std.proofs.Common.{arith, Option, inr, ◌≡◌, ℕ, ◌+◌, ◌≤◌, Bool, true, false, List, [], ◌∷◌, sym, ap, ◌∙◌, subst}
use Rattle.std.proofs.lemmas.Bool.Decides.{nat_tests}
use Rattle.dspec_table.specs.Words.{Void, Attempt, Speculation, SlotState, is_among, callers, scan, late, in_range, mark, of_cpu, number_of, at_activity, at_word, IsOn, IsInFlight, MayLoad, MayTry}
use Rattle.dspec_table.specs.Words.{Attempts, calling, flight_after, activity_place, slot_place, acted, Entered, EnteredIn, LoadedActivity, LoadedWord, idle_progress, shown, shown_scan, open_at}
use Rattle.dspec_table.specs.Words.{is_decided, Deed, Config, CpuOp, Miss}
use Rattle.dspec_table.specs.declared.{doing.Doing.Doing, rule.View.View}
use Rattle.dspec_deeds.specs.declared.calls.CpuOp.TheVariants as op
use Rattle.dspec_deeds.proofs.SoundLists.{running_not_late}
use Rattle.dspec_interleaving.proofs.StepDeeds.{missed_deeds}
use Rattle.dspec_table.proofs.Keeps.{late_since}

-- what is in flight after a deed doesn't ask what was before
pub flight_by_last : (k : Config) (f g : Option CpuOp) (d : Deed) (ds es : List Deed) → flight_after k f (d ∷ ds) ≡ flight_after k g (d ∷ es)
flight_by_last k f g d ds es = grind (arith, nat_tests)

-- a load of activity as a step of a chain
pub activity_enters : (doing : Doing) (v : View) (stopped : Bool) (w : View) (ds : List Deed) (step : LoadedActivity doing v stopped w)
    → at_activity v.config (number_of v.who) doing doing.op stopped ≡ ds → EnteredIn activity_place v step.0 ds w
activity_enters doing v stopped w ds step e =
    inr (doing, sym e ∙ ap (at_activity v.config (number_of v.who) doing doing.op) step.2, subst (λ x. Entered activity_place (calling doing.op v) step.0 x w) e step.3)

-- a load of activity that is running enters nothing
pub quiet_activity : (k : Config) (c : ℕ) (doing : Doing) (id : Speculation) (o : CpuOp) → in_range k id ≡ true → IsOn id o → at_activity k c doing o false ≡ []
quiet_activity = grind (arith, nat_tests)

-- a call of speculation at a slot: where the table opens nothing it misses it, and else tries next
pub misses_slot : (k : Config) (c : ℕ) (doing : Doing) (slot : ℕ) (w : SlotState) → open_at w k.max_issues ≡ Void → at_word k c doing slot w op.Speculation ≡ Miss c slot (is_decided w.code) ∷ []
misses_slot k c doing slot w void = ap (λ a. (shown_scan k c (shown doing w false) idle_progress slot w a).deeds) void ∙ missed_deeds k c (shown doing w false) idle_progress slot w

pub tries_slot : (k : Config) (c : ℕ) (doing : Doing) (slot : ℕ) (w to : SlotState) → open_at w k.max_issues ≡ Attempt to → at_word k c doing slot w op.Speculation ≡ []
tries_slot k c doing slot w to free = ap (λ a. (shown_scan k c (shown doing w false) idle_progress slot w a).deeds) free

-- a word that is attempted enters nothing, loaded or shown by an exchange that failed
pub quiet_word : (k : Config) (c slot : ℕ) (doing : Doing) (w to : SlotState) (o : CpuOp) → Attempts doing w to o → at_word k c doing slot w o ≡ []
quiet_word = grind (arith, nat_tests)

may_load : (k : Config) (v : View) (c slot : ℕ) (doing : Doing) (id : Speculation) (o : CpuOp) → IsOn id o → IsInFlight k v c doing id slot → MayLoad k v c doing slot o
may_load = grind (arith, nat_tests)

-- the call may load the word of its slot
pub loads_next : (k : Config) (v : View) (c slot : ℕ) (doing : Doing) (id : Speculation) → IsOn id doing.op → IsInFlight k v c doing id slot → MayLoad k v c doing slot doing.op
loads_next k v c slot doing id on f = may_load k v c slot doing id doing.op on f

-- after a load of activity that is running
pub in_flight : (k : Config) (v w : View) (c : ℕ) (doing : Doing) (id : Speculation) → v.config ≡ k → in_range k id ≡ true → IsOn id doing.op → scan k c v.own ≡ 0
    → (mark c id.slot v.own ≤ id.issue + 1 → doing.mine ≡ is_among c (callers id v.own)) → LoadedActivity doing v false w → IsInFlight k w c doing id id.slot
in_flight k v w c doing id config inside on idle mine step = grind (arith, nat_tests, quiet_activity, running_not_late)

-- after a load of the word, or an exchange that failed, that showed a word which the table attempts
goes_on : (k : Config) (v w : View) (c slot : ℕ) (doing : Doing) (log : List Deed) (o : CpuOp) → (to shown : SlotState) → w ≡ acted (slot_place slot) v log [] → late c log ≡ late c v.seen
    → MayLoad k v c doing slot o → Attempts doing shown to o → MayLoad k w c doing slot o
goes_on k v w c slot doing log o to shown view early may attempts = grind (arith, nat_tests)

on_time : (k : Config) (v : View) (c slot : ℕ) (doing : Doing) (o : CpuOp) (to shown : SlotState) → MayLoad k v c doing slot o → Attempts doing shown to o → late c v.seen ≡ false
on_time = grind (arith, nat_tests)

pub tries_again : (k : Config) (v w : View) (c slot : ℕ) (doing : Doing) (shown to : SlotState) → v.who ≡ of_cpu c → MayLoad k v c doing slot doing.op
    → LoadedWord doing slot v shown w → Attempts doing shown to doing.op → MayTry k w c doing slot shown to × (w.own ≡ v.own)
tries_again k v w c slot doing shown to who may step attempts = grind (arith, nat_tests, quiet_word, on_time, late_since, goes_on)

pub tries_next : (k : Config) (v w : View) (c slot : ℕ) (doing : Doing) (id : Speculation) (shown to : SlotState) → v.who ≡ of_cpu c → IsOn id doing.op → IsInFlight k v c doing id slot
    → LoadedWord doing slot v shown w → Attempts doing shown to doing.op → MayTry k w c doing slot shown to
tries_next k v w c slot doing id shown to who on f step attempts = (tries_again k v w c slot doing shown to who (may_load k v c slot doing id doing.op on f) step attempts).0
