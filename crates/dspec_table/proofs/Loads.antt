-- The load of a slot's word.
use Rattle.std.proofs.Common.{arith, ◌≡◌, ℕ, ◌≤◌, ◌+◌, ◌==◌, Bool, true, false, if◌then◌else◌, List, [], ◌∷◌, Some, refl, sym, ap, ◌∙◌, subst, inl, true≢false}
use Rattle.std.proofs.lemmas.Bool.Decides.{nat_tests}
use mathlib.Core.Option.{some}
use lib.ListN.{get_elem?}
use Rattle.atomic_table.specs.Table.{State, Allows, Me}
use Rattle.dspec_table.specs.Words.{Speculation, SlotState, halted, word_number, speculate_at, commit_at, commit_act, discard_at, discard_act, open_at, spoken_granted, Record, slot_place, Holder}
use Rattle.dspec_table.specs.Words.{of_cpu, part_of, issue, scan, owed, late, present, code_at, word_at, is_among, callers, joined, verdict, standing, is_open, IsSound, mark, WordsRule, Since}
use Rattle.dspec_table.specs.Words.{number_of, at_word, IsInFlight, MayLoad, LoadedNumber, Measured, idle_progress, settle_at, shown, shown_scan, shown_speculate, shown_commit, shown_discard}
use Rattle.dspec_table.specs.Words.{StopsOrActs, Act, Code, Void, Granted, Attempt, Idle, Config, SpeculateFate, Deed, Speculate, CpuOp}
use Rattle.dspec_table.specs.declared.{doing.Doing.Doing, rule.View.View}
use Rattle.dspec_deeds.proofs.{Marks.mark_tells, Marks.mark_part, SoundLists.granted_goes, TestLemmas.same_number, WordActs.speculate_void, WordActs.speculate_granted, WordActs.commit_void}
use Rattle.dspec_deeds.proofs.{WordActs.discard_void, WordCodes.busy_is, WordCodes.open_void}
use Rattle.dspec_table.proofs.{InFlight.word_of, InFlight.looks, Keeps.Owes, Keeps.none_owed, Keeps.loads, Keeps.finds, Keeps.idle_log, Keeps.late_since, Keeps.enters_owed, Keeps.is_cpu}
use Rattle.dspec_table.proofs.{Keeps.its_config, OwnReading.has_part}
use Rattle.dspec_interleaving.proofs.StepDeeds.{by_test, missed_deeds}
use Rattle.dspec_interleaving.proofs.StepsWords.{is_plain, speculate_not_idle, commit_plain, discard_plain, open_plain}
use Rattle.dspec_deeds.specs.declared.deed.SpeculateFate.TheVariants as spoken
use Rattle.dspec_deeds.specs.declared.calls.CpuOp.TheVariants as op

-- one more caller that changes no code changes no word
granted_quiet : (h : List Deed) (c : ℕ) (id : Speculation) (r : Record) (f : SpeculateFate) → spoken_granted f ≡ true
    → standing (verdict id h) (joined (Some c) (callers id h)) ≡ standing (verdict id h) (callers id h)
    → (j : Speculation) → code_at j (Speculate c id r f ∷ h) ≡ code_at j h
granted_quiet h c id r f is same j = grind (arith, nat_tests)

-- what is known of a call in flight on an identifier
pub record Flies (k : Config) (log : List Deed) (c slot : ℕ) (doing : Doing) (id : Speculation) : Type 0 where
  pub at : id.slot ≡ slot
  pub idle : scan k c log ≡ 0
  pub early : late c log ≡ false
  pub mine : issue id.slot log ≡ id.issue → doing.mine ≡ is_among c (callers id log)

module _ (k : Config) (c : ℕ) (log : List Deed) (doing : Doing) (s : IsSound k log) (rests : owed log ≡ 0) (slot : ℕ) where
  abbrev its : Measured
  its = shown doing (word_at slot log) false

  -- what is done to an open speculation may be done
  pub acts : (id : Speculation) (stopped done : Bool) → Flies k log c slot doing id → is_open id log ≡ true → stopped ≡ false → done ≡ true
      → StopsOrActs (halted log) (late c log) (is_open id log) stopped done
  acts id true done f now goes does = absurd (true≢false goes)
  acts id false done f now goes does = (f.early, does ∙ sym now)

  -- a table that ends a call, or attempts, enters nothing where it attempts
  plain : (F : Act → List Deed) (a : Act) → is_plain a ≡ true → ((w : SlotState) → F (Attempt w) ≡ []) → (a ≡ Void → Owes k (of_cpu c) log (F Void)) → Owes k (of_cpu c) log (F a)
  plain F Void is none void = void refl
  plain F (Attempt w) is none void = subst (Owes k (of_cpu c) log) (sym (none w)) (none_owed k (of_cpu c) log rests)
  plain F a is none void = absurd (true≢false (sym is))

  missed : 1 ≤ slot → scan k c log ≡ slot → Owes k (of_cpu c) log (shown_scan k c its idle_progress slot (word_at slot log) (open_at (word_at slot log) k.max_issues)).deeds
  missed one at = plain (λ a. (shown_scan k c its idle_progress slot (word_at slot log) a).deeds) (open_at (word_at slot log) k.max_issues) (open_plain _ k.max_issues) (λ w. refl)
      (λ e. subst (Owes k (of_cpu c) log) (sym (missed_deeds k c its idle_progress slot (word_at slot log)))
      (record { adds = (tt, (rests, (at, one, inl (open_void k log slot e), busy_is k log slot s)), refl); rests = refl; quiet = record { active = refl; slots = λ s. refl; acks = λ a s. refl } }))

  granted : (id : Speculation) (r : Record) (f : SpeculateFate) → spoken_granted f ≡ true → Flies k log c slot doing id → is_open id log ≡ true
      → standing (verdict id log) (joined (Some c) (callers id log)) ≡ standing (verdict id log) (callers id log) → Owes k (of_cpu c) log (Speculate c id r f ∷ [])
  granted id r f grants flies now same = record {
    adds = (tt, (rests, (flies.idle, acts id _ _ flies now (granted_goes f grants) grants)), refl);
    rests = refl;
    quiet = record
        { active = refl; slots = λ t. ap (λ x. word_number record { issue = issue t log; code = x }) (granted_quiet log c id r f grants same (present t log)); acks = λ a s. refl };
  }

  spoken_at : (id : Speculation) (r : Record) → Flies k log c slot doing id → (a : Act) → speculate_at (word_at id.slot log) id (is_among c (callers id log)) ≡ a
      → Owes k (of_cpu c) log (shown_speculate k c its idle_progress id r (word_at slot log) a).deeds
  spoken_at id r f Void e = grind (arith, nat_tests, speculate_void)
  spoken_at id r f Granted e =
      let g = speculate_granted k log id c s e in
      by_test (Owes k (of_cpu c) log) doing.fits _ _ (λ t. granted id r spoken.Kept refl f g.0 g.1) (λ t. granted id r spoken.Dropped refl f g.0 g.1)
  spoken_at id r f (Attempt w) e = none_owed k (of_cpu c) log rests
  spoken_at id r f Idle e = absurd (speculate_not_idle (word_at id.slot log) id (is_among c (callers id log)) e)

  commit_at_word : (id : Speculation) → Flies k log c slot doing id
      → Owes k (of_cpu c) log (shown_commit k c its idle_progress id (word_at slot log) (commit_at (word_at id.slot log) id (is_among c (callers id log)))).deeds
  commit_at_word id f = plain (λ a. (shown_commit k c its idle_progress id (word_at slot log) a).deeds) (commit_at (word_at id.slot log) id _) (commit_plain _ id _) (λ w. refl)
      (λ e. record { adds = (tt, (rests, (f.idle, refl, (f.early, sym (commit_void k log id _ s e)))), refl); rests = refl; quiet = record { active = refl; slots = λ s. refl; acks = λ a s. refl } })

  discard_at_word : (id : Speculation) → Flies k log c slot doing id
      → Owes k (of_cpu c) log (shown_discard k c its idle_progress id (word_at slot log) (discard_at (word_at id.slot log) id (is_among c (callers id log)))).deeds
  discard_at_word id f = plain (λ a. (shown_discard k c its idle_progress id (word_at slot log) a).deeds) (discard_at (word_at id.slot log) id _) (discard_plain _ id _) (λ w. refl)
      (λ e. record { adds = (tt, (rests, (f.idle, refl, (f.early, sym (discard_void k log id _ s e)))), refl); rests = refl; quiet = record { active = refl; slots = λ s. refl; acks = λ a s. refl } })

-- at a word of another issue it doesn't matter who the callers are
pub like : {A : Type 0} (b : Bool) (f : Bool → A) (v : A) (m n : Bool) → (b ≡ true → m ≡ n) → (if b then f m else v) ≡ (if b then f n else v)
like true f v m n e = ap f (e refl)
like false f v m n e = refl

pub at_like : (k : Config) (log : List Deed) (c slot : ℕ) (doing : Doing) (id : Speculation) (act : ℕ → Bool → Code → Act) → Flies k log c slot doing id
    → (if issue slot log == id.issue then act (issue slot log) doing.mine (word_at slot log).code else Void)
    ≡ (if issue id.slot log == id.issue then act (issue id.slot log) (is_among c (callers id log)) (word_at id.slot log).code else Void)
at_like k log c slot doing id act f = ap (λ t. if issue t log == id.issue then act (issue t log) doing.mine (word_at t log).code else Void) (sym f.at)
    ∙ like (issue id.slot log == id.issue) (λ m. act (issue id.slot log) m (word_at id.slot log).code) Void _ _ (λ t. f.mine (same_number (issue id.slot log) id.issue t))

-- what a call may load a word for, said of the log
abbrev pub IsReady : Config → ℕ → List Deed → Doing → ℕ → CpuOp → Type 0
IsReady k c log doing slot op.Speculation = scan k c log ≡ slot
IsReady k c log doing slot (op.Speculate id r) = Flies k log c slot doing id
IsReady k c log doing slot (op.Commit id) = Flies k log c slot doing id
IsReady k c log doing slot (op.Discard id) = Flies k log c slot doing id
IsReady k c log doing slot o = Unit {0}

looked : (k : Config) (c : ℕ) (log : List Deed) (doing : Doing) (slot : ℕ) → owed log ≡ 0 → Owes k (of_cpu c) log (at_word k c doing slot (word_at slot log) op.Service)
looked k c log doing slot rests =
    subst (Owes k (of_cpu c) log) (sym (looks k c (shown doing (word_at slot log) false) idle_progress slot record { sealed = false; settled = 0 } (word_at slot log) (settle_at (word_at slot log) 0)))
    (none_owed k (of_cpu c) log rests)

pub owes : (k : Config) (c : ℕ) (log : List Deed) (doing : Doing) (slot : ℕ) → IsSound k log → owed log ≡ 0 → 1 ≤ slot → (o : CpuOp) → IsReady k c log doing slot o
    → Owes k (of_cpu c) log (at_word k c doing slot (word_at slot log) o)
owes k c log doing slot s rests one op.Speculation f = missed k c log doing s rests slot one f
owes k c log doing slot s rests one (op.Speculate id r) f = grind (arith, nat_tests, Owes, at_like, spoken_at)
owes k c log doing slot s rests one (op.Commit id) f =
    subst (λ a. Owes k (of_cpu c) log (shown_commit k c (shown doing (word_at slot log) false) idle_progress id (word_at slot log) a).deeds) (sym (at_like k log c slot doing id commit_act f))
    (commit_at_word k c log doing s rests slot id f)
owes k c log doing slot s rests one (op.Discard id) f =
    subst (λ a. Owes k (of_cpu c) log (shown_discard k c (shown doing (word_at slot log) false) idle_progress id (word_at slot log) a).deeds) (sym (at_like k log c slot doing id discard_act f))
    (discard_at_word k c log doing s rests slot id f)
owes k c log doing slot s rests one o f = looked k c log doing slot rests

-- what a seat knows of its call holds of the log
pub flies : (k : Config) (st : State ℕ View) (kept : WordsRule k st) (by : ℕ) (v : View) (c slot : ℕ) (doing : Doing) (id : Speculation) → get_elem? st.views by ≡ some v
    → v.who ≡ of_cpu c → IsInFlight k v c doing id slot → Flies k kept.log c slot doing id
flies k st kept by v c slot doing id at who f =
    let mine = kept.knows by v at in
    let own : part_of (of_cpu c) kept.log ≡ v.own = ap (λ x. part_of x kept.log) (sym who) ∙ mine.parts.0 in
    record {
      at = f.0;
      idle = idle_log k st kept by v c at who f.1;
      early = late_since c v.seen kept.log f.2 (subst (λ x. Since x v.seen kept.log) who mine.since);
      mine = λ now.
          let is : present id.slot kept.log ≡ id = λ i. record { issue = now i; slot = id.slot } in
          let marks : mark c id.slot v.own ≡ mark c id.slot kept.log = ap (mark c id.slot) (sym own) ∙ mark_part c id.slot kept.log in
          let bound = (mark_tells k c id.slot kept.log kept.sound).bound in
          let recent : mark c id.slot v.own ≤ id.issue + 1 = subst (λ (m : ℕ). m ≤ id.issue + 1) (sym marks) (subst (λ (i : ℕ). mark c id.slot kept.log ≤ i + 1) now bound) in
          f.4 recent ∙ (ap (λ l. is_among c (callers id l)) (sym own) ∙ has_part k c id kept.log);
    }

pub ready : (k : Config) (st : State ℕ View) (kept : WordsRule k st) (by : ℕ) (v : View) (c slot : ℕ) (doing : Doing) → get_elem? st.views by ≡ some v → v.who ≡ of_cpu c
    → (o : CpuOp) → MayLoad k v c doing slot o → IsReady k c kept.log doing slot o
ready = grind (arith, nat_tests, idle_log, flies)

pub loads_word : (k : Config) (slots id c slot : ℕ) (me : Me ℕ View) (doing : Doing) → 1 ≤ slot → slot ≤ k.nspec → me.0.who ≡ of_cpu c → me.0.also ≡ [] → MayLoad k me.0 c doing slot doing.op
    → Allows (WordsRule k) slots id me (slot_place slot) (λ n. n) (λ n w. LoadedNumber doing slot me.0 n w.0 × (w.1 ≡ me.1))
loads_word k slots id c slot me doing one most who alone may = loads k slots id c (slot_place slot) me (LoadedNumber doing slot me.0) who alone
    (λ st kept at.
    let v = me.0 in
    let log = kept.log in
    let mine = kept.knows id v at in
    let w = word_at slot log in
    let owe : Owes k v.who log (at_word v.config (number_of v.who) doing slot w doing.op) =
    subst (λ (p : Config × Holder). Owes k p.1 log (at_word p.0 (number_of p.1) doing slot w doing.op)) (λ i. (sym (its_config k log v (is_cpu v c who) mine) i, sym who i))
    (owes k c log doing slot kept.sound kept.rests one doing.op (ready k st kept id v c slot doing at who doing.op may)) in (
      at_word v.config (number_of v.who) doing slot w doing.op,
      owe,
      (
        w,
        kept.shows.slots slot one most,
        (
          log,
          finds k st kept id v at (is_cpu v c who),
          refl,
          enters_owed k st kept id v at (is_cpu v c who) _ (slot_place slot) owe
              (word_of k v c doing slot v.config (number_of v.who) (word_at slot log) doing.op refl may),
        ),
      ),
    ))
