-- The exchanges of speculate, commit and discard.
use Rattle.std.proofs.Common.{arith, ◌≡◌, ℕ, ◌+◌, ◌≤◌, Bool, true, false, ◌==◌, if◌then◌else◌, List, [], ◌∷◌, Some, refl, sym, ◌∙◌, subst, ⊎_elim}
use Rattle.std.proofs.lemmas.Bool.Decides.{nat_tests}
use prog.Atomic.{either}
use Rattle.atomic_table.specs.Table.{Allows, Me}
use Rattle.dspec_table.specs.Words.{Speculation, SlotState, word_number, speculate_at, speculate_act, commit_at, commit_act, discard_at, discard_act, Record, slot_place, of_cpu, issue, owed}
use Rattle.dspec_table.specs.Words.{verdict, is_open, discarded, callers, is_among, is_sole, word_at, solo, IsSound, WordsRule, Follows, spoken_granted, is_commit, number_of, at_exchange, Attempts}
use Rattle.dspec_table.specs.Words.{MayTry, TriedNumber, committed_fate, Measured, idle_progress, shown, discarded_by, is_discard, Attempt, Inactive, Discarding, Config, Deed, SpeculateFate}
use Rattle.dspec_table.specs.Words.{DecideFate, Speculate, Commit, Discard, Release, Cpu, CpuOp}
use Rattle.dspec_table.specs.declared.{doing.Doing.Doing, rule.View.View}
use Rattle.dspec_deeds.proofs.{PresentIds.IsPresent, PresentIds.open_present, SoundLists.granted_goes, SoundLists.commit_goes, TestLemmas.either_way, TestLemmas.id_is_itself}
use Rattle.dspec_deeds.proofs.{WordActs.speculate_attempt, WordActs.commit_attempt, WordActs.discard_attempt, WordChanges.granted_word, WordChanges.committed_word, WordChanges.discarded_word}
use Rattle.dspec_deeds.proofs.{WordChanges.released_word, WordChanges.elsewhere}
use Rattle.dspec_table.proofs.{Changes.Changes, Changes.one_change, Changes.exchanges_in_call, InFlight.exchange_of, Keeps.Owes, Loads.Flies, Loads.IsReady, Loads.ready, Loads.owes, Loads.acts}
use Rattle.dspec_table.proofs.{Loads.at_like}
use Rattle.dspec_interleaving.proofs.StepDeeds.{by_test, committed_deeds}
use Rattle.dspec_deeds.specs.declared.deed.SpeculateFate.TheVariants as spoken
use Rattle.dspec_deeds.specs.declared.deed.DecideFate.TheVariants as decided
use Rattle.dspec_deeds.specs.declared.calls.CpuOp.TheVariants as op

discarded_now : (c n : ℕ) (id : Speculation) (log : List Deed) → verdict id (Discard c id (decided.Thrown n) ∷ log) ≡ discarded c
discarded_now c n id log = rw (id_is_itself id) refl

solo_now : (c n : ℕ) (id : Speculation) (log : List Deed) → is_sole c (callers id log) ≡ true → solo id (Discard c id (decided.Thrown n) ∷ log) ≡ Some c
solo_now c n id log sole = rw (id_is_itself id, sole) refl

pub same_cpu : (c a : ℕ) → Cpu c ≡ Cpu a → c ≡ a
same_cpu c a e = cc

module _ (k : Config) (c : ℕ) (log : List Deed) (doing : Doing) (s : IsSound k log) (rests : owed log ≡ 0) (slot : ℕ) where
  abbrev its : Measured
  its = shown doing (word_at slot log) true

  -- what the word of the slot becomes by a deed to its open speculation
  joins : (id : Speculation) (r : Record) (f : SpeculateFate) (new : SlotState) → spoken_granted f ≡ true → Flies k log c slot doing id
      → speculate_at (word_at id.slot log) id (is_among c (callers id log)) ≡ Attempt new
      → Changes k (of_cpu c) id.slot (word_number new) log (Speculate c id r f ∷ [])
  joins id r f new grants flies e =
      let did = speculate_attempt k log id c new s e in
      let follows : Follows k log (Speculate c id r f) = (rests, (flies.idle, acts k c log doing s rests slot id _ _ flies did.1 (granted_goes f grants) grants)) in
      one_change k c log (Speculate c id r f) new follows refl refl (did.2 ∙ sym (granted_word k c id r f log (s, follows) grants)) refl (λ a t. refl)

  commits : (id : Speculation) (b : Bool) (n : ℕ) (new : SlotState) → Flies k log c slot doing id → commit_at (word_at id.slot log) id (is_among c (callers id log)) ≡ Attempt new
      → Changes k (of_cpu c) id.slot (word_number new) log (Commit c id (if b then decided.Copied n else decided.Lost n) ∷ [])
  commits id b n new flies e = go b
    where
      by : (f : DecideFate) → is_commit f ≡ true → is_discard f ≡ false → Changes k (of_cpu c) id.slot (word_number new) log (Commit c id f ∷ [])
      by f decides none =
          let did = commit_attempt k log id c new s e in
          let follows : Follows k log (Commit c id f) = (rests, (flies.idle, none, acts k c log doing s rests slot id _ _ flies did.1 (commit_goes f decides) decides)) in
          one_change k c log (Commit c id f) new follows refl refl (did.2 ∙ sym (committed_word k c id f log (s, follows) decides)) refl (λ a t. refl)

      go : (b : Bool) → Changes k (of_cpu c) id.slot (word_number new) log (Commit c id (if b then decided.Copied n else decided.Lost n) ∷ [])
      go true = by (decided.Copied n) refl refl
      go false = by (decided.Lost n) refl refl

  -- a discard by the one caller, and its release
  released : (id : Speculation) (n : ℕ) → Flies k log c slot doing id → IsPresent id log → is_open id log ≡ true → is_sole c (callers id log) ≡ true
      → Changes k (of_cpu c) id.slot (word_number record { issue = issue id.slot log + 1; code = Inactive }) log (Release id.slot ∷ Discard c id (decided.Thrown n) ∷ [])
  released id n f at now sole = grind (arith, nat_tests, solo_now, discarded_now, same_cpu, released_word, elsewhere)

  discards : (id : Speculation) (new : SlotState) → Flies k log c slot doing id → discard_at (word_at id.slot log) id (is_among c (callers id log)) ≡ Attempt new
      → Changes k (of_cpu c) id.slot (word_number new) log (discarded_by k c its idle_progress id (Attempt new)).deeds
  discards id new f e =
      let did = discard_attempt k log id c new s e in
      let at = open_present k log id s did.1 in
      let Goal : SlotState → Type 0 = λ w. Changes k (of_cpu c) id.slot (word_number w) log (discarded_by k c its idle_progress id (Attempt w)).deeds in
      ⊎_elim
      (λ (sole : is_sole c (callers id log) ≡ true).
      let is : new ≡ record { issue = issue id.slot log + 1; code = Inactive } = did.2 ∙ rw sole refl in
      subst Goal (sym is) (released id doing.count f at did.1 sole))
      (λ (not_sole : is_sole c (callers id log) ≡ false).
      let is : new ≡ record { issue = issue id.slot log; code = Discarding } = did.2 ∙ rw not_sole refl in
      let d : Deed = Discard c id (decided.Thrown doing.count) in
      let follows : Follows k log d = (rests, (f.idle, refl, (f.early, sym did.1))) in
      subst Goal (sym is) (one_change k c log d record { issue = issue id.slot log; code = Discarding } follows refl (rw not_sole refl)
      (sym (discarded_word k c id (decided.Thrown doing.count) log (s, follows) refl)) refl (λ a t. refl)))
      (either_way (is_sole c (callers id log)))

hits : (k : Config) (c : ℕ) (log : List Deed) (doing : Doing) (slot : ℕ) (new : SlotState) → IsSound k log → owed log ≡ 0 → (o : CpuOp) → IsReady k c log doing slot o
    → Attempts doing (word_at slot log) new o
    → Changes k (of_cpu c) slot (word_number new) log (at_exchange k c doing slot (word_at slot log) true o)
hits k c log doing slot new s rests (op.Speculate id r) f e =
    let e' : speculate_at (word_at id.slot log) id (is_among c (callers id log)) ≡ Attempt new = sym (at_like k log c slot doing id speculate_act f) ∙ e in
    by_test (Changes k (of_cpu c) slot (word_number new) log) doing.fits _ _
    (λ t. subst (λ t. Changes k (of_cpu c) t (word_number new) log (Speculate c id r spoken.Kept ∷ [])) f.at (joins k c log doing s rests slot id r spoken.Kept new refl f e'))
    (λ t. subst (λ t. Changes k (of_cpu c) t (word_number new) log (Speculate c id r spoken.Dropped ∷ [])) f.at (joins k c log doing s rests slot id r spoken.Dropped new refl f e'))
hits k c log doing slot new s rests (op.Commit id) f e =
    let e' : commit_at (word_at id.slot log) id (is_among c (callers id log)) ≡ Attempt new = sym (at_like k log c slot doing id commit_act f) ∙ e in
    subst (Changes k (of_cpu c) slot (word_number new) log) (sym (committed_deeds k c (shown doing (word_at slot log) true) idle_progress id (commit_at (word_at slot log) id doing.mine)))
    (subst (λ t. Changes k (of_cpu c) t (word_number new) log (Commit c id (committed_fate doing.fits doing.count) ∷ [])) f.at
    (commits k c log doing s rests slot id doing.fits doing.count new f e'))
hits k c log doing slot new s rests (op.Discard id) f e =
    let e' : discard_at (word_at id.slot log) id (is_among c (callers id log)) ≡ Attempt new = sym (at_like k log c slot doing id discard_act f) ∙ e in
    subst (λ a. Changes k (of_cpu c) slot (word_number new) log (discarded_by k c (shown doing (word_at slot log) true) idle_progress id a).deeds) (sym e)
    (subst (λ t. Changes k (of_cpu c) t (word_number new) log (discarded_by k c (shown doing (word_at slot log) true) idle_progress id (Attempt new)).deeds) f.at
    (discards k c log doing s rests slot id new f e'))
hits k c log doing slot new s rests o f e = absurd e

-- an exchange that misses shows a word, as a load does
missing : (k : Config) (c : ℕ) (log : List Deed) (doing : Doing) (slot : ℕ) (from to : SlotState) → IsSound k log → owed log ≡ 0 → 1 ≤ slot → (o : CpuOp) → Attempts doing from to o
    → IsReady k c log doing slot o
    → Owes k (of_cpu c) log (at_exchange k c doing slot (word_at slot log) false o)
missing k c log doing slot from to s rests one (op.Speculate id r) a f = owes k c log doing slot s rests one (op.Speculate id r) f
missing k c log doing slot from to s rests one (op.Commit id) a f = owes k c log doing slot s rests one (op.Commit id) f
missing k c log doing slot from to s rests one (op.Discard id) a f = owes k c log doing slot s rests one (op.Discard id) f
missing k c log doing slot from to s rests one o a f = absurd a

pub tries_word : (k : Config) (slots id c slot : ℕ) (me : Me ℕ View) (doing : Doing) (from to : SlotState) → 1 ≤ slot → slot ≤ k.nspec → me.0.who ≡ of_cpu c → me.0.also ≡ []
    → MayTry k me.0 c doing slot from to
    → Allows (WordsRule k) slots id me (slot_place slot) (λ n. either (n == word_number from) (word_number to) n)
    (λ n w. TriedNumber doing slot me.0 (word_number to) n (n == word_number from) w.0 × (w.1 ≡ me.1))
tries_word k slots id c slot me doing from to one most who alone may =
    exchanges_in_call k slots id c slot me doing doing.op from to one most who alone
    (λ st kept at same. hits k c kept.log doing slot to kept.sound kept.rests doing.op (ready k st kept id me.0 c slot doing at who doing.op may.0)
    (subst (λ w. Attempts doing w to doing.op) (sym same) may.1))
    (λ st kept at other. missing k c kept.log doing slot from to kept.sound kept.rests one doing.op may.1 (ready k st kept id me.0 c slot doing at who doing.op may.0))
    (λ w hit. exchange_of k me.0 c doing slot me.0.config (number_of me.0.who) w hit doing.op refl may.0)
