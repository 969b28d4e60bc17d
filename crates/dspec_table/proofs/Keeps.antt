-- A seat's own deeds, added to the list, keep the rule, where the words show the longer list.
use Rattle.std.proofs.Common.{arith, ◌≡◌, ℕ, ◌≤◌, ◌<◌, true, false, List, [], ◌∷◌, ◌++◌, refl, sym, ap, ◌∙◌, subst, ⊎_elim, Option, true≢false}
use Rattle.std.proofs.lemmas.{Bool.Decides.nat_tests, List.set-get_or}
use Rattle.std.specs.Prelude.{slice_index, slice_set}
use mathlib.Core.Option.{some}
use lib.ListN.{get_elem?}
use Rattle.atomic_table.specs.Table.{State, keeps, Allows, Me, stepped}
use Rattle.dspec_table.specs.Words.{Config, CpuOp, Deed, Holder, of_cpu, of_nobody, part_of, same_holder, owed, scan, late, IsSound, Shows, Since, here, more, Each, Least, Knows, KnowsAsks}
use Rattle.dspec_table.specs.Words.{activity, word, ack, WordsRule, ask_place, AreOf, flight_after, acted, Found, Entered}
use Rattle.dspec_table.specs.declared.rule.{Past.Past, View.View}
use Rattle.dspec_table.proofs.{Adding.Adds, Adding.acts_asking, Adding.flying, Adding.part_adds, Adding.sound_adds, OwnReading.scan_part, Pasts.each_map}
use Rattle.dspec_deeds.proofs.TestLemmas.{number_is_itself}

-- the longer list shows in the same words
pub record IsQuiet (log new : List Deed) : Type 0 where
  pub active : activity new ≡ activity log
  pub slots : (s : ℕ) → word s new ≡ word s log
  pub acks : (c s : ℕ) → ack c s new ≡ ack c s log

quiet_shows : (k : Config) (words : List ℕ) (log new : List Deed) → IsQuiet log new → Shows k words log → Shows k words new
quiet_shows k words log new q sh = grind (arith, nat_tests)

pub same_words : (words : List ℕ) (i : ℕ) → slice_set words i (slice_index words i) ≡ words
same_words words i = set-get_or words i 0

-- the step moves no ask
abbrev pub LeavesAsks : Config → List ℕ → List ℕ → Type 0
LeavesAsks k words new = (c : ℕ) → c < k.cpus → slice_index new (ask_place k c) ≡ slice_index words (ask_place k c)

pub least_left : (k : Config) (words new asks : List ℕ) → LeavesAsks k words new → Least k words asks → Least k new asks
least_left k words new asks left least c lt = subst (λ (m : ℕ). slice_index asks c ≤ m) (sym (left c lt)) (least c lt)

past_left : (k : Config) (words new : List ℕ) (ps : List Past) → LeavesAsks k words new → Each (λ p. Least k words p.asks) ps → Each (λ p. Least k new p.asks) ps
past_left k words new ps left all = each_map (λ p. Least k words p.asks) (λ p. Least k new p.asks) (λ p least. least_left k words new p.asks left least) ps all

pub same_asks : (k : Config) (words new : List ℕ) (u : View) → LeavesAsks k words new → KnowsAsks k words u → KnowsAsks k new u
same_asks k words new u left knows = grind (arith, nat_tests, least_left, past_left)

-- the same where it knows the asks that it knew
acts_flying : (k : Config) (st : State ℕ View) (kept : WordsRule k st) (by : ℕ) (v : View) (carried : List (ℕ × ℕ)) → get_elem? st.views by ≡ some v → v.also ≡ [] → same_holder v.who v.who ≡ true
    → (ds : List Deed) (i n : ℕ) (f : Option CpuOp) → Adds k v.who kept.log ds → owed (ds ++ kept.log) ≡ 0 → Shows k (slice_set st.words i n) (ds ++ kept.log)
    → LeavesAsks k st.words (slice_set st.words i n)
    → WordsRule k (stepped st i n by carried (flying f (acted i v kept.log ds)) keeps)
acts_flying k st kept by v carried at alone me ds i n f adds rests shows left =
    let new = slice_set st.words i n in
    let mine = kept.asks by v at in
    acts_asking k st kept by v carried at alone me ds i n v.asks f adds rests shows
    (record {
      least = least_left k st.words new v.asks left mine.least;
      past = past_left k st.words new v.past left mine.past;
      exact = λ is c lt. mine.exact is c lt ∙ sym (left c lt);
    })
    (λ u other knows. same_asks k st.words new u left knows)

-- and the call that its deeds leave in flight
pub acts : (k : Config) (st : State ℕ View) (kept : WordsRule k st) (by : ℕ) (v : View) (carried : List (ℕ × ℕ)) → get_elem? st.views by ≡ some v → v.also ≡ [] → same_holder v.who v.who ≡ true
    → (ds : List Deed) (i n : ℕ) → Adds k v.who kept.log ds → owed (ds ++ kept.log) ≡ 0 → Shows k (slice_set st.words i n) (ds ++ kept.log) → LeavesAsks k st.words (slice_set st.words i n)
    → WordsRule k (stepped st i n by carried (acted i v kept.log ds) keeps)
acts k st kept by v carried at alone me ds i n = acts_flying k st kept by v carried at alone me ds i n (flight_after v.config v.flight ds)

-- the seat of an actor has the configuration
pub its_config : (k : Config) (log : List Deed) (v : View) → same_holder v.who v.who ≡ true → Knows k log v → v.config ≡ k
its_config k log v me mine = ⊎_elim (λ (t : v.who ≡ of_nobody). absurd (true≢false (sym (subst (λ x. same_holder x x ≡ true) t me)))) (λ e. e) mine.config

-- a CPU is somebody
pub is_cpu : (v : View) (c : ℕ) → v.who ≡ of_cpu c → same_holder v.who v.who ≡ true
is_cpu v c who = subst (λ x. same_holder x x ≡ true) (sym who) (number_is_itself c)

-- what the step found
pub finds : (k : Config) (st : State ℕ View) (kept : WordsRule k st) (by : ℕ) (v : View) → get_elem? st.views by ≡ some v → same_holder v.who v.who ≡ true → Found v kept.log
finds k st kept by v at who =
    let mine = kept.knows by v at in record {
      since = mine.since;
      told = mine.told;
      sound = subst (λ (x : Config). IsSound x kept.log) (sym (its_config k kept.log v who mine)) kept.sound;
      rests = kept.rests;
      own = mine.parts.0;
      calm = mine.calm;
    }

-- what deeds owe that move no word
pub record Owes (k : Config) (w : Holder) (log ds : List Deed) : Type 0 where
  pub adds : Adds k w log ds
  pub rests : owed (ds ++ log) ≡ 0
  pub quiet : IsQuiet log (ds ++ log)

pub none_owed : (k : Config) (w : Holder) (log : List Deed) → owed log ≡ 0 → Owes k w log []
none_owed k w log rests = record { adds = tt; rests = rests; quiet = record { active = refl; slots = λ s. refl; acks = λ a s. refl } }

-- what a step on the word i leaves
pub enters : (k : Config) (st : State ℕ View) (kept : WordsRule k st) (by : ℕ) (v : View) → get_elem? st.views by ≡ some v → same_holder v.who v.who ≡ true
    → (ds : List Deed) (i : ℕ) → Adds k v.who kept.log ds → owed (ds ++ kept.log) ≡ 0 → AreOf v.flight ds → Entered i v kept.log ds (acted i v kept.log ds)
enters k st kept by v at who ds i adds rests call = grind (arith, nat_tests, its_config, sound_adds, part_adds)

pub enters_owed : (k : Config) (st : State ℕ View) (kept : WordsRule k st) (by : ℕ) (v : View) → get_elem? st.views by ≡ some v → same_holder v.who v.who ≡ true
    → (ds : List Deed) (i : ℕ) → Owes k v.who kept.log ds → AreOf v.flight ds → Entered i v kept.log ds (acted i v kept.log ds)
enters_owed k st kept by v at who ds i owe call = enters k st kept by v at who ds i owe.adds owe.rests call

pub acts_owed : (k : Config) (st : State ℕ View) (kept : WordsRule k st) (by : ℕ) (v : View) (carried : List (ℕ × ℕ)) → get_elem? st.views by ≡ some v → v.also ≡ [] → same_holder v.who v.who ≡ true
    → (ds : List Deed) (i : ℕ) (f : Option CpuOp) → Owes k v.who kept.log ds → WordsRule k (stepped st i (slice_index st.words i) by carried (flying f (acted i v kept.log ds)) keeps)
acts_owed k st kept by v carried at alone me ds i f owe =
    acts_flying k st kept by v carried at alone me ds i (slice_index st.words i) f owe.adds owe.rests
    (subst (λ ws. Shows k ws (ds ++ kept.log)) (sym (same_words st.words i)) (quiet_shows k st.words kept.log (ds ++ kept.log) owe.quiet kept.shows))
    (λ c lt. ap (λ ws. slice_index ws (ask_place k c)) (same_words st.words i))

-- a CPU that is in no call of speculation by its own list is in none by the log
pub idle_log : (k : Config) (st : State ℕ View) (kept : WordsRule k st) (by : ℕ) (v : View) (c : ℕ) → get_elem? st.views by ≡ some v → v.who ≡ of_cpu c → {n : ℕ}
    → scan k c v.own ≡ n → scan k c kept.log ≡ n
idle_log k st kept by v c at who {n} idle =
    let mine = kept.knows by v at in
    sym (scan_part k c kept.log) ∙ (ap (λ l. scan k c l) (ap (λ x. part_of x kept.log) (sym who) ∙ mine.parts.0) ∙ idle)

pub late_since : (c : ℕ) (seen log : List Deed) → late c seen ≡ false → Since (of_cpu c) seen log → late c log ≡ false
late_since c seen _ e here = e
late_since c seen (d ∷ h) e (more s other) = grind (arith, nat_tests, late_since c seen h e s)

-- a load keeps the rule, where what it adds moves no word
pub loads : (k : Config) (slots id c i : ℕ) (me : Me ℕ View) (T : ℕ → View → Type 0) → me.0.who ≡ of_cpu c → me.0.also ≡ []
    → ((st : State ℕ View) (kept : WordsRule k st) → get_elem? st.views id ≡ some me.0 → (ds : List Deed) × Owes k me.0.who kept.log ds × T (slice_index st.words i) (acted i me.0 kept.log ds))
    → Allows (WordsRule k) slots id me i (λ n. n) (λ n w. T n w.0 × (w.1 ≡ me.1))
loads k slots id c i me T who alone step st kept homes at bound =
    let r = step st kept at in
    (acted i me.0 kept.log r.0, keeps, tt, acts_owed k st kept id me.0 me.1 at alone (is_cpu me.0 c who) r.0 i (flight_after me.0.config me.0.flight r.0) r.1, (r.2, refl))
