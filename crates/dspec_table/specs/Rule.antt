-- Serves proofs. The rule of the words: one list of deeds, which the words show, and of which each seat knows its own part.
use Rattle.std.specs.Prelude.{ℕ, zero, suc, ◌≡◌, ◌⊎◌, ◌<◌, ◌≤◌, ◌+◌, List, [], ◌∷◌, slice_index, if◌then◌else◌, None}
use mathlib.Core.Option.{some}
use lib.ListN.{get_elem?}
use Rattle.atomic_table.specs.Table.{State}
use Rattle.dspec_table.specs.{Holders.Holder, Holders.of_cpu, Holders.of_consumer, Holders.of_nobody, Holders.part_of, Holders.same_holder, Layout.ask_place, Showing.Shows, Since.Since}
use Rattle.dspec_table.specs.{Words.Outside.Config, Words.Outside.Deed, Words.Outside.owed, Words.Outside.IsSound, Words.Outside.HasAuthors, declared.rule.Past.Past, declared.rule.View.View}

-- whose deeds a seat has, and which
abbrev pub holdings : View → List (Holder × List Deed)
holdings v = (v.who, v.own) ∷ v.also

-- how often w stands among them
abbrev pub times_among : Holder → List (Holder × List Deed) → ℕ
times_among w [] = 0
times_among w (p ∷ ps) = (if same_holder w p.0 then 1 else 0) + times_among w ps

abbrev pub held_in_all : Holder → List View → ℕ
held_in_all w [] = 0
held_in_all w (v ∷ vs) = times_among w (holdings v) + held_in_all w vs

abbrev pub Parts : List Deed → List (Holder × List Deed) → Type 0
Parts log [] = Unit {0}
Parts log (p ∷ ps) = (part_of p.0 log ≡ p.1) × Parts log ps

abbrev pub Each : (Past → Type 0) → List Past → Type 0
Each P [] = Unit {0}
Each P (p ∷ ps) = P p × Each P ps

-- what a seat had seen when it was joined has all its deeds, and the list goes on from it
pub record Remembers (log : List Deed) (p : Past) : Type 0 where
  pub since : Since of_nobody p.seen log
  pub own : part_of p.who p.seen ≡ p.own

-- a note, or a seat that was joined into another, is nobody's
pub record Knows (k : Config) (log : List Deed) (v : View) : Type 0 where
  pub config : (v.who ≡ of_nobody) ⊎ (v.config ≡ k)
  pub parts : Parts log (holdings v)
  pub since : Since v.who v.seen log
  pub told : Since of_nobody v.told log
  pub calm : owed v.seen ≡ 0
  pub past : Each (Remembers log) v.past

-- asks that are no more than what stands
abbrev pub Least : Config → List ℕ → List ℕ → Type 0
Least k words asks = (c : ℕ) → c < k.cpus → slice_index asks c ≤ slice_index words (ask_place k c)

-- what a seat knows of the asks: no more than what stands, as those joined into it did, and the consumer knows each
pub record KnowsAsks (k : Config) (words : List ℕ) (v : View) : Type 0 where
  pub least : Least k words v.asks
  pub past : Each (λ p. Least k words p.asks) v.past
  pub exact : v.who ≡ of_consumer → (c : ℕ) → c < k.cpus → slice_index v.asks c ≡ slice_index words (ask_place k c)

-- each actor of the session has exactly one seat, its own or one that it was joined into, and no other CPU has any
pub record HaveSeats (k : Config) (views : List View) : Type 0 where
  pub cpus : (c : ℕ) → c < k.cpus → held_in_all (of_cpu c) views ≡ 1
  pub consumer : held_in_all of_consumer views ≡ 1
  pub beyond : (c : ℕ) → k.cpus ≤ c → held_in_all (of_cpu c) views ≡ 0

pub record WordsRule (k : Config) (st : State ℕ View) : Type 0 where
  pub log : List Deed
  pub sound : IsSound k log
  pub rests : owed log ≡ 0
  pub authors : HasAuthors k log
  pub shows : Shows k st.words log
  pub knows : (by : ℕ) (v : View) → get_elem? st.views by ≡ some v → Knows k log v
  pub seats : HaveSeats k st.views
  pub asks : (by : ℕ) (v : View) → get_elem? st.views by ≡ some v → KnowsAsks k st.words v

-- n CPUs from a on, with no deed
abbrev pub cpus_from : ℕ → ℕ → List (Holder × List Deed)
cpus_from a zero = []
cpus_from a (suc n) = (of_cpu a, []) ∷ cpus_from (suc a) n

abbrev pub newcomer : Config → View
newcomer k = record { config = k; who = of_consumer; own = []; also = cpus_from 0 k.cpus; seen = []; told = []; flight = None; steps = 0; touched = []; asks = []; past = [] }
