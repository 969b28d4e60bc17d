-- The consumer releases what every CPU has settled.
use Rattle.std.proofs.Common.{◌≡◌, ℕ, ◌≤◌, ◌<◌, true, ◌==◌, List, [], ◌∷◌, refl, sym, ap, ◌∙◌, subst, inl, inr, arith, ◌^◌}
use Rattle.std.proofs.lemmas.Bool.Decides.{nat_tests}
use prog.Atomic.{either}
use Rattle.atomic_table.specs.Table.{Allows, Me}
use Rattle.dspec_table.specs.Words.{SlotState, word_number, released, slot_place, Holder, of_consumer, same_holder, issue, ack, present, settled, releaser, word_at, WordsRule, Since, here, more}
use Rattle.dspec_table.specs.Words.{MayReap, ReapedNumber, IsSound, CanBeReleased, awaits, Config, Deed, Release}
use Rattle.dspec_table.specs.declared.rule.View.{View}
use Rattle.dspec_word.proofs.Numbers.{one_word}
use Rattle.dspec_deeds.proofs.{Acked.acked, Acked.acks_rise, Awaiting.awaiting, WordChanges.released_word, WordChanges.elsewhere}
use Rattle.dspec_table.proofs.{Changes.Changes, Changes.exchanges, Keeps.finds, Keeps.none_owed}
use Rattle.std.specs.Prelude.{Some}

pub acked_since : (k : Config) (w : Holder) (c s : ℕ) (seen log : List Deed) → IsSound k log → Since w seen log → ack c s seen ≤ ack c s log
acked_since k w c s seen _ sound here = omega arith
acked_since k w c s seen (d ∷ h) sound (more rest other) = let a = acked_since k w c s seen h sound.0 rest in let b = acks_rise k c s d h sound in omega arith

-- a word that waits for every CPU is within the limit
pub awaited_below : (w : SlotState) → CanBeReleased w → awaits w.code ≡ true → w.issue < 2 ^ 57
awaited_below w can waits = grind (arith, nat_tests)

pub reaps : (k : Config) (slots id slot : ℕ) (me : Me ℕ View) (from : SlotState) → me.0.who ≡ of_consumer → me.0.also ≡ [] → MayReap k me.0 slot from
    → Allows (WordsRule k) slots id me (slot_place slot) (λ n. either (n == word_number from) (word_number (released from.issue)) n)
    (λ n w. ReapedNumber slot me.0 n (n == word_number from) w.0 × (w.1 ≡ me.1))
reaps k slots id s me from who alone may =
    let v = me.0 in
    let is_me : same_holder v.who v.who ≡ true = subst (λ x. same_holder x x ≡ true) (sym who) refl in
    exchanges k slots id s (word_number from) (word_number (released from.issue)) me (ReapedNumber s v) is_me alone may.low may.high
    (λ st kept at found.
    let log = kept.log in
    let shown : word_at s log ≡ from = one_word (word_at s log) from (sym (kept.shows.slots s may.low may.high) ∙ found) in
    let waits = awaiting k s log from.code kept.sound kept.rests (ap (λ (w : SlotState). w.code) shown) may.waits in
    let issues : issue s log ≡ from.issue = ap (λ (w : SlotState). w.issue) shown in
    let all : (c : ℕ) → c < k.cpus → settled c (present s log) log ≡ true =
    λ c lt. acked k c s log kept.sound (let up = acked_since k v.who c s v.seen log kept.sound (kept.knows id v at).since in let was = may.acked c lt in omega arith) in (
      Release s ∷ [],
      subst (λ x. Changes k x s (word_number (released from.issue)) log (Release s ∷ [])) (sym who) (record {
        adds = (tt, (inl kept.rests, ((waits.ruled, inr all), λ a is. absurd (cc (sym (ap releaser waits.alone) ∙ is)))), ap (λ o. Some (releaser o)) waits.alone);
        rests = refl;
        now = ap word_number (ap released (sym issues) ∙ sym (released_word k s log kept.sound));
        change = record { active = refl; others = λ t apart. ap word_number (elsewhere t (Release s) log apart); acks = λ a t. refl };
      }),
      (tt, tt),
      (λ left. (word_at s log, kept.shows.slots s may.low may.high, (log, finds k st kept id v at is_me, refl, left))),
    ))
    (λ st kept at other. ([], none_owed k v.who kept.log kept.rests, tt, (λ left. (word_at s kept.log, kept.shows.slots s may.low may.high, (kept.log, finds k st kept id v at is_me, refl, left)))))
