-- Deeds that change the word of one slot.
use Rattle.std.proofs.Common.{◌≡◌, ◌≢◌, ℕ, ◌≤◌, ◌<◌, Bool, true, false, ◌==◌, List, [], ◌∷◌, ◌++◌, refl, sym, ap, ◌∙◌, subst, ⊎_elim, arith, true≢false}
use Rattle.std.proofs.Math.ListN.{length-set}
use Rattle.std.proofs.lemmas.{Bool.Decides.nat_tests, List.get_or-set_same, List.get_or-set_other}
use Rattle.std.specs.Prelude.{slice_index, slice_set}
use mathlib.Core.Option.{some}
use lib.ListN.{get_elem?}
use prog.Atomic.{either}
use Rattle.atomic_table.specs.Table.{State, keeps, Allows, Me, stepped}
use Rattle.dspec_table.specs.Words.{Config, Deed, SlotState, word_number, word_at, Follows, Holder, of_cpu, doer, same_holder, ack, owed, WordsRule, Shows, activity, word, slot_place, group_place}
use Rattle.dspec_table.specs.Words.{AreOf, Found, number_of, at_exchange, flight_after, acted, Entered, CpuOp}
use Rattle.dspec_table.specs.declared.{doing.Doing.Doing, rule.View.View}
use Rattle.dspec_deeds.proofs.{TestLemmas.either_way, TestLemmas.same_number, WordChanges.slot_of}
use Rattle.dspec_table.proofs.{Adding.Adds, Keeps.Owes, Keeps.LeavesAsks, Keeps.acts, Keeps.acts_owed, Keeps.enters, Keeps.enters_owed, Keeps.finds, Keeps.is_cpu, Keeps.its_config}
use Rattle.dspec_table.proofs.{Places.slot_within}
use Rattle.dspec_word.proofs.Numbers.{one_word}

-- only the word of this slot changes
pub record IsChange (s : ℕ) (log new : List Deed) : Type 0 where
  pub active : activity new ≡ activity log
  pub others : (t : ℕ) → t ≢ s → word t new ≡ word t log
  pub acks : (c t : ℕ) → ack c t new ≡ ack c t log

pub change_shows : (k : Config) (words : List ℕ) (s n : ℕ) (log new : List Deed) → 1 ≤ s → s ≤ k.nspec → n ≡ word s new → IsChange s log new → Shows k words log
    → Shows k (slice_set words (slot_place s) n) new
change_shows k words s n log new one most is ch sh = grind (arith, nat_tests, length-set, get_or-set_other, same_number, slot_within, get_or-set_same)

-- a word before the asks is none of them
pub leaves_asks : (k : Config) (words : List ℕ) (i n : ℕ) → i < group_place k 0 → LeavesAsks k words (slice_set words i n)
leaves_asks k words i n before = grind (arith, nat_tests, get_or-set_other)

-- what deeds owe that change one word
pub record Changes (k : Config) (w : Holder) (s n : ℕ) (log ds : List Deed) : Type 0 where
  pub adds : Adds k w log ds
  pub rests : owed (ds ++ log) ≡ 0
  pub now : n ≡ word s (ds ++ log)
  pub change : IsChange s log (ds ++ log)

-- one deed of a CPU changes the word of its slot alone
pub one_change : (k : Config) (c : ℕ) (log : List Deed) (d : Deed) (new : SlotState) → Follows k log d → doer d log ≡ of_cpu c → owed (d ∷ log) ≡ 0 → new ≡ word_at (slot_of d) (d ∷ log)
    → activity (d ∷ log) ≡ activity log → ((a t : ℕ) → ack a t (d ∷ log) ≡ ack a t log) → Changes k (of_cpu c) (slot_of d) (word_number new) log (d ∷ [])
one_change k c log d new follows by rests is active acks = grind (arith, nat_tests)

-- an exchange of a slot's word keeps the rule: where it hits, the deeds change that word, and else they change none
pub exchanges : (k : Config) (slots id s old new : ℕ) (me : Me ℕ View) (T : ℕ → Bool → View → Type 0) → same_holder me.0.who me.0.who ≡ true → me.0.also ≡ [] → 1 ≤ s → s ≤ k.nspec
    → ((st : State ℕ View) (kept : WordsRule k st) → get_elem? st.views id ≡ some me.0 → slice_index st.words (slot_place s) ≡ old
    → (ds : List Deed) × Changes k me.0.who s new kept.log ds × AreOf me.0.flight ds × (Entered (slot_place s) me.0 kept.log ds (acted (slot_place s) me.0 kept.log ds)
    → T (slice_index st.words (slot_place s)) true (acted (slot_place s) me.0 kept.log ds)))
    → ((st : State ℕ View) (kept : WordsRule k st) → get_elem? st.views id ≡ some me.0 → slice_index st.words (slot_place s) ≢ old
    → (ds : List Deed) × Owes k me.0.who kept.log ds × AreOf me.0.flight ds
    × (Entered (slot_place s) me.0 kept.log ds (acted (slot_place s) me.0 kept.log ds)
    → T (slice_index st.words (slot_place s)) false (acted (slot_place s) me.0 kept.log ds)))
    → Allows (WordsRule k) slots id me (slot_place s) (λ n. either (n == old) new n) (λ n w. T n (n == old) w.0 × (w.1 ≡ me.1))
exchanges k slots id s old new me T who alone one most hit miss st kept homes at bound =
    let n = slice_index st.words (slot_place s) in
    let Goal : Bool → Type 0 = λ b. (w : View) × (a : Rattle.atomic_table.specs.Table.Act ℕ) × Rattle.atomic_table.specs.Table.Valid st.homes me.1 a
    × WordsRule k (stepped st (slot_place s) (either b new n) id me.1 w a) × (T n b w × (Rattle.atomic_table.specs.Table.carried_after me.1 a ≡ me.1)) in
    ⊎_elim
    (λ (t : (n == old) ≡ true).
    let r = hit st kept at (same_number n old t) in
    let owe = r.1 in
    let done : Goal true = (
      acted (slot_place s) me.0 kept.log r.0,
      keeps,
      tt,
      acts k st kept id me.0 me.1 at alone who r.0 (slot_place s) new owe.adds owe.rests
          (change_shows k st.words s new kept.log (r.0 ++ kept.log) one most owe.now owe.change kept.shows)
          (leaves_asks k st.words (slot_place s) new (omega arith)),
      (r.3 (enters k st kept id me.0 at who r.0 (slot_place s) owe.adds owe.rests r.2), refl),
    ) in
    subst Goal (sym t) done)
    (λ (f : (n == old) ≡ false).
    let apart : n ≢ old = grind (arith, nat_tests) in
    let r = miss st kept at apart in
    let done : Goal false = (
      acted (slot_place s) me.0 kept.log r.0,
      keeps,
      tt,
      acts_owed k st kept id me.0 me.1 at alone who r.0 (slot_place s) (flight_after me.0.config me.0.flight r.0) r.1,
      (r.3 (enters_owed k st kept id me.0 at who r.0 (slot_place s) r.1 r.2), refl),
    ) in
    subst Goal (sym f) done)
    (either_way (n == old))

-- what an exchange in a call of that kind shows, and leaves
abbrev IsExchanged : Doing → CpuOp → ℕ → View → ℕ → ℕ → Bool → View → Type 0
IsExchanged doing o slot v new n hit w =
    (shown : SlotState) × (n ≡ word_number shown)
    × ((log : List Deed) × Found v log × (shown ≡ word_at slot log) × Entered (slot_place slot) v log (at_exchange v.config (number_of v.who) doing slot shown hit o) w)
    × (hit ≡ true → new ≡ word_number (word_at slot w.seen))

-- an exchange in a call of a CPU, by what the table of steps enters at the word that is shown
pub exchanges_in_call : (k : Config) (slots id c slot : ℕ) (me : Me ℕ View) (doing : Doing) (o : CpuOp) (from to : SlotState) → 1 ≤ slot → slot ≤ k.nspec → me.0.who ≡ of_cpu c → me.0.also ≡ []
    → ((st : State ℕ View) (kept : WordsRule k st) → get_elem? st.views id ≡ some me.0 → word_at slot kept.log ≡ from
    → Changes k (of_cpu c) slot (word_number to) kept.log (at_exchange k c doing slot (word_at slot kept.log) true o))
    → ((st : State ℕ View) (kept : WordsRule k st) → get_elem? st.views id ≡ some me.0 → word_at slot kept.log ≢ from
    → Owes k (of_cpu c) kept.log (at_exchange k c doing slot (word_at slot kept.log) false o))
    → ((w : SlotState) (hit : Bool) → AreOf me.0.flight (at_exchange me.0.config (number_of me.0.who) doing slot w hit o))
    → Allows (WordsRule k) slots id me (slot_place slot) (λ n. either (n == word_number from) (word_number to) n)
    (λ n w. IsExchanged doing o slot me.0 (word_number to) n (n == word_number from) w.0 × (w.1 ≡ me.1))
exchanges_in_call k slots id c slot me doing o from to one most who alone hits misses calls =
    exchanges k slots id slot (word_number from) (word_number to) me (IsExchanged doing o slot me.0 (word_number to)) (is_cpu me.0 c who) alone one most
    (λ st kept at found.
    let x = word_at slot kept.log in
    let same : x ≡ from = one_word x from (sym (kept.shows.slots slot one most) ∙ found) in
    let does = its st kept at (λ j w a. Changes k w slot (word_number to) kept.log (at_exchange j a doing slot x true o)) (hits st kept at same) in
    (_, does, calls x true, (λ left. (x, kept.shows.slots slot one most, (kept.log, finds k st kept id me.0 at (is_cpu me.0 c who), refl, left), λ hit. does.now))))
    (λ st kept at other.
    let x = word_at slot kept.log in
    let apart : x ≢ from = (λ e. other (kept.shows.slots slot one most ∙ ap word_number e)) in
    let owe = its st kept at (λ j w a. Owes k w kept.log (at_exchange j a doing slot x false o)) (misses st kept at apart) in
    (_, owe, calls x false, (λ left. (x, kept.shows.slots slot one most, (kept.log, finds k st kept id me.0 at (is_cpu me.0 c who), refl, left), λ hit. absurd (true≢false (sym hit))))))
  where
    -- the seat has the configuration, and is the CPU's
    its : (st : State ℕ View) (kept : WordsRule k st) → get_elem? st.views id ≡ some me.0 → (P : Config → Holder → ℕ → Type 0) → P k (of_cpu c) c → P me.0.config me.0.who (number_of me.0.who)
    its st kept at P = subst (λ (p : Config × Holder). P p.0 p.1 (number_of p.1)) (λ i. (sym (its_config k kept.log me.0 (is_cpu me.0 c who) (kept.knows id me.0 at)) i, sym who i))
