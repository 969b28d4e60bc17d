-- A CPU settles, and stores its acknowledgement.
use Rattle.std.proofs.Common.{◌≡◌, ◌≢◌, ℕ, ◌+◌, ◌≤◌, ◌<◌, Bool, true, false, ◌&&◌, ◌==◌, List, [], ◌∷◌, length, None, refl, sym, ap, ◌∙◌, subst, ⊎_elim, inr, arith, true≢false}
use Rattle.std.proofs.Math.ListN.{length-set}
use Rattle.std.proofs.lemmas.{Bool.Decides.nat_tests, List.get_or-set_same, List.get_or-set_other}
use Rattle.std.specs.Prelude.{slice_index, slice_set, nat_le, not}
use Rattle.atomic_table.specs.Table.{keeps, Allows, Me}
use Rattle.dspec_table.specs.Words.{Speculation, SlotState, awaits, Holder, of_cpu, part_of, issue, part, present, settled, solo, verdict, ack, word_at, IsSound, SettlesAs, settle_at, settled_fate}
use Rattle.dspec_table.specs.Words.{WordsRule, Shows, Since, here, more, slot_place, activity_place, group_place, ack_place, ask_place, acted, Found, Entered, StoredAck, number_of, MaySettle, Code}
use Rattle.dspec_table.specs.Words.{CommittingMany, Discarding, Config, Deed, Settle, Cpu, Granted}
use Rattle.dspec_table.specs.declared.{doing.Doing.Doing, rule.View.View}
use Rattle.dspec_deeds.proofs.{Acked.ack_tells, Awaiting.awaiting, Awaiting.goes_with, StayingOwn.settled_other, StayingOwn.ack_other, TestLemmas.either_way, TestLemmas.and_tells}
use Rattle.dspec_deeds.proofs.{TestLemmas.same_number, TestLemmas.number_is_itself}
use Rattle.dspec_table.proofs.{Adding.Adds, Keeps.LeavesAsks, Keeps.acts, Keeps.enters, Keeps.finds, Keeps.is_cpu, Keeps.idle_log, OwnReading.ack_part, Places.before_groups, Places.ack_within}
use Rattle.dspec_table.proofs.{Places.one_group, Places.no_ask, Releases.held_since}

-- only this acknowledgement changes
record IsAck (c s n : ℕ) (log new : List Deed) : Type 0 where
  pub active : Rattle.dspec_table.specs.Showing.activity new ≡ Rattle.dspec_table.specs.Showing.activity log
  pub slots : (t : ℕ) → Rattle.dspec_table.specs.Showing.word t new ≡ Rattle.dspec_table.specs.Showing.word t log
  pub now : n ≡ ack c s new
  pub others : (d t : ℕ) → ((d == c) && (t == s)) ≡ false → ack d t new ≡ ack d t log

ack_shows : (k : Config) (words : List ℕ) (c s n : ℕ) (log new : List Deed) → c < k.cpus → 1 ≤ s → s ≤ k.nspec → IsAck c s n log new → Shows k words log
    → Shows k (slice_set words (ack_place k c s) n) new
ack_shows k words c s n log new lt one most ch sh =
    let after = before_groups k c in
    let place : ℕ = ack_place k c s in
    record {
      count = length-set words place n ∙ sh.count;
      active = (let apart : activity_place ≢ place = (λ e. let e' : activity_place ≡ group_place k c + s = e in omega arith) in get_or-set_other words place
          activity_place n 0 apart) ∙ (sh.active ∙ sym ch.active);
      slots = λ t a b. let apart : slot_place t ≢ place = (λ e. let e' : slot_place t ≡ group_place k c + s = e in omega arith) in
          get_or-set_other words place (slot_place t) n 0 apart ∙ (sh.slots t a b ∙ sym (ch.slots t));
      acks = λ d t x a b. ⊎_elim
          (λ (e : ((d == c) && (t == s)) ≡ true).
          let both = and_tells (d == c) (t == s) e in
          let long : place < length words = (let within = ack_within k c s lt most in let count = sh.count in subst (λ (m : ℕ). place < m) (sym count) within) in
          subst (λ (p : ℕ × ℕ). slice_index (slice_set words place n) (ack_place k p.0 p.1) ≡ ack p.0 p.1 new) (λ i. (sym (same_number d c both.0) i, sym (same_number t s both.1) i))
          (get_or-set_same words place n 0 long ∙ ch.now))
          (λ (e : ((d == c) && (t == s)) ≡ false).
          let apart : ack_place k d t ≢ place = (λ q.
          let cs = one_group k d c t s b most q in
          let ts : t ≡ s = (let g : ℕ = group_place k c in let q' : g + t ≡ g + s = subst (λ (z : ℕ). group_place k z + t ≡ group_place k c + s) cs q in omega arith) in
          let hit : ((d == c) && (t == s)) ≡ true = grind (arith, nat_tests) in
          true≢false (sym hit ∙ e)) in
          get_or-set_other words place (ack_place k d t) n 0 apart ∙ (sh.acks d t x a b ∙ sym (ch.others d t e)))
          (either_way ((d == c) && (t == s)));
    }

-- an acknowledgement is no ask
pub leaves_all_asks : (k : Config) (words : List ℕ) (c s n : ℕ) → 1 ≤ s → s ≤ k.nspec → LeavesAsks k words (slice_set words (ack_place k c s) n)
leaves_all_asks k words c s n one most d lt = get_or-set_other words (ack_place k c s) (ask_place k d) n 0 (λ e. no_ask k c d s one most (sym e))

pub sound_since : (k : Config) (w : Holder) (seen log : List Deed) → IsSound k log → Since w seen log → IsSound k seen
sound_since k w seen _ s here = s
sound_since k w seen (d ∷ h) s (more rest other) = sound_since k w seen h s.0 rest

settle_granted : (w : SlotState) (acked : ℕ) → settle_at w acked ≡ Granted → (awaits w.code ≡ true) × (nat_le acked w.issue ≡ true)
settle_granted w acked e = grind (arith, nat_tests)

fate_is : (doing : Doing) (code : Code) → awaits code ≡ true → goes_with code (settled_fate code doing.fits doing.count) ≡ true
fate_is doing Discarding e = refl
fate_is doing CommittingMany e = grind (arith, nat_tests)
fate_is doing x e = absurd (true≢false (sym e))

pub settles_word : (k : Config) (slots id c : ℕ) (me : Me ℕ View) (doing : Doing) (spec : Speculation) → c < k.cpus → me.0.who ≡ of_cpu c → me.0.also ≡ [] → MaySettle k me.0 c spec
    → Allows (WordsRule k) slots id me (ack_place k c spec.slot) (λ _. spec.issue + 1) (λ _ w. ((log : List Deed) × Found me.0 log
    × Entered (ack_place k c spec.slot) me.0 log (Settle (number_of me.0.who) spec (settled_fate (word_at spec.slot me.0.seen).code doing.fits doing.count) ∷ []) w.0) × (w.1 ≡ me.1))
settles_word k slots id c me doing spec lt who alone may st kept homes at bound =
    let v = me.0 in
    let log = kept.log in
    let s = spec.slot in
    let code = (word_at s v.seen).code in
    let mine = kept.knows id v at in
    let one : 1 ≤ s = may.low in
    let most : s ≤ k.nspec = may.high in
    let seen_by : Since (of_cpu c) v.seen log = subst (λ x. Since x v.seen log) who mine.since in
    let sound_seen = sound_since k v.who v.seen log kept.sound mine.since in
    let p : present s v.seen ≡ spec = λ i. record { issue = may.issue i; slot = s } in
    let due = settle_granted (word_at s v.seen) (ack c s v.own) may.granted in
    let waits = awaiting k s v.seen code sound_seen mine.calm refl due.0 in
    let own : part (Cpu c) log ≡ v.own = ap (λ x. part_of x log) (sym who) ∙ mine.parts.0 in
    let acks : ack c s v.own ≡ ack c s v.seen = ap (λ l. ack c s l) (sym own) ∙ (ack_part k c s log ∙ ack_since c s v.seen log seen_by) in
    let untold : nat_le (ack c s v.seen) (issue s v.seen) ≡ true = subst (λ (m : ℕ). nat_le m (issue s v.seen) ≡ true) acks due.1 in
    let not_seen : settled c (present s v.seen) v.seen ≡ false = not_yet (settled c (present s v.seen) v.seen) (sym (ack_tells k c s v.seen sound_seen) ∙ untold) in
    let held = held_since k c s v.seen log lt kept.sound seen_by (record { given = waits.given; ruled = waits.ruled; waits = inr (waits.alone, not_seen) }) in
    let q : present s log ≡ spec = (λ i. record { issue = held.1.issues i; slot = s }) ∙ p in
    let f = settled_fate code doing.fits doing.count in
    let unsettled : settled c spec log ≡ false = settled_since c spec v.seen log seen_by ∙ (ap (λ j. settled c j v.seen) (sym p) ∙ not_seen) in
    let fate : SettlesAs (verdict spec log) f = subst (λ x. SettlesAs x f) (sym held.1.verdicts ∙ ap (λ j. verdict j log) q) (waits.fate f (fate_is doing code due.0)) in
    let none : solo spec log ≡ None = sym (ap (λ j. solo j log) q) ∙ (held.1.solos ∙ waits.alone) in
    let issues : spec.issue ≡ issue s log = sym (ap (λ (j : Speculation). j.issue) q) in
    let ds : List Deed = Settle (number_of v.who) spec f ∷ [] in
    let adds : Adds k v.who log ds = subst (λ x. Adds k x log (Settle (number_of x) spec f ∷ [])) (sym who)
    (tt, (kept.rests, (idle_log k st kept id v c at who may.idle, (issues, fate, none, unsettled))), refl) in
    let shows : Shows k (slice_set st.words (ack_place k c s) (spec.issue + 1)) (Settle (number_of v.who) spec f ∷ log) =
    subst (λ (x : Holder). Shows k (slice_set st.words (ack_place k c s) (spec.issue + 1)) (Settle (number_of x) spec f ∷ log)) (sym who)
    (ack_shows k st.words c s (spec.issue + 1) log (Settle c spec f ∷ log) lt one most
    (record { active = refl; slots = λ t. refl; now = rw (number_is_itself c, number_is_itself s) refl; others = λ d t e. rw e refl })
    kept.shows) in (
      acted (ack_place k c s) v log ds,
      keeps,
      tt,
      acts k st kept id v me.1 at alone (is_cpu v c who) ds (ack_place k c s) (spec.issue + 1) adds refl shows (leaves_all_asks k st.words c s (spec.issue + 1) one most),
      ((log, finds k st kept id v at (is_cpu v c who), enters k st kept id v at (is_cpu v c who) ds (ack_place k c s) adds refl (tt, tt)), refl),
    )
  where
    not_yet : (b : Bool) → not b ≡ true → b ≡ false
    not_yet true e = absurd (true≢false (sym e))
    not_yet false e = refl

    settled_since : (c : ℕ) (j : Speculation) (seen log : List Deed) → Since (of_cpu c) seen log → settled c j log ≡ settled c j seen
    settled_since c j seen _ here = refl
    settled_since c j seen (d ∷ h) (more rest other) = settled_other c j d h other ∙ settled_since c j seen h rest

    ack_since : (c s : ℕ) (seen log : List Deed) → Since (of_cpu c) seen log → ack c s log ≡ ack c s seen
    ack_since c s seen _ here = refl
    ack_since c s seen (d ∷ h) (more rest other) = ack_other c s d h other ∙ ack_since c s seen h rest

-- the same, where the speculation is read off the word and the number stored
pub stores_ack : (k : Config) (slots id c : ℕ) (me : Me ℕ View) (doing : Doing) (spec : Speculation) → me.0.config ≡ k → c < k.cpus → me.0.who ≡ of_cpu c → me.0.also ≡ [] → MaySettle k me.0 c spec
    → Allows (WordsRule k) slots id me (ack_place k c spec.slot) (λ _. spec.issue + 1) (λ _ w. StoredAck doing (ack_place k c spec.slot) me.0 (spec.issue + 1) w.0 × (w.1 ≡ me.1))
stores_ack k slots id c me doing spec config lt who alone may st kept homes at bound =
    let v = me.0 in
    let r = settles_word k slots id c me doing spec lt who alone may st kept homes at bound in
    let deed : Speculation → Deed = λ x. Settle (number_of v.who) x (settled_fate (word_at x.slot v.seen).code doing.fits doing.count) in (
      r.0,
      r.1,
      r.2,
      r.3,
      (
        (
          r.4.0.0,
          deed spec,
          r.4.0.1,
          (λ j place n.
              let g : ℕ = group_place k c in
              let place' : g + spec.slot ≡ g + j.slot = place ∙ (λ i. ack_place (config i) (number_of (who i)) j.slot) in
              let slot : spec.slot ≡ j.slot = omega arith in
              let issue : spec.issue ≡ j.issue = omega arith in
              let same : spec ≡ j = λ i. record { issue = issue i; slot = slot i } in
              ap deed same),
          r.4.0.2,
        ),
        r.4.1,
      ),
    )
