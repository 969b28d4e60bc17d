-- What deeds that are added to the list of all leave of what each seat has seen.
use Rattle.std.proofs.Common.{◌≡◌, ◌≢◌, ℕ, ◌+◌, ◌≤◌, ◌<◌, true, false, if◌then◌else◌, List, [], ◌∷◌, ◌++◌, set, refl, sym, ap, ◌∙◌, subst, ⊎_elim, arith, Option, Some}
use Rattle.std.proofs.lemmas.Bool.Decides.{nat_tests}
use Rattle.std.specs.Prelude.{slice_set}
use mathlib.Core.Option.{some}
use lib.ListN.{get_elem?}
use Rattle.atomic_table.specs.Table.{State, keeps, stepped}
use Rattle.atomic_table.proofs.Lists.{at_set}
use Rattle.dspec_table.specs.Words.{Config, CpuOp, Deed, Holder, of_cpu, of_nobody, doer, part_of, same_holder, owed, IsSound, Follows, HasAuthors, Shows, Since, here, more, holdings, times_among}
use Rattle.dspec_table.specs.Words.{Parts, Each, Remembers, Knows, KnowsAsks, WordsRule, with_asks}
use Rattle.dspec_table.specs.declared.rule.{Past.Past, View.View}
use Rattle.dspec_table.proofs.{HolderTests.same_holder_tells, Pasts.each_map, Totals.total_two, Totals.total_set, Totals.one_seat, Totals.same_seats, Totals.of_session}

-- the deeds may follow one another, the first one last, and all are w's
abbrev pub Adds : Config → Holder → List Deed → List Deed → Type 0
Adds k w log [] = Unit {0}
Adds k w log (d ∷ ds) = Adds k w log ds × Follows k (ds ++ log) d × (doer d (ds ++ log) ≡ w)

pub sound_adds : (k : Config) (w : Holder) (log ds : List Deed) → IsSound k log → Adds k w log ds → IsSound k (ds ++ log)
sound_adds k w log [] s a = s
sound_adds k w log (d ∷ ds) s a = (sound_adds k w log ds s a.0, a.1)

pub part_adds : (k : Config) (w : Holder) (log ds : List Deed) → same_holder w w ≡ true → Adds k w log ds → part_of w (ds ++ log) ≡ ds ++ part_of w log
part_adds k w log [] me a = refl
part_adds k w log (d ∷ ds) me a = grind (arith, nat_tests, part_adds k w log ds me a.0)

pub part_others : (k : Config) (x w : Holder) (log ds : List Deed) → same_holder x w ≡ false → Adds k w log ds → part_of x (ds ++ log) ≡ part_of x log
part_others k x w log [] free a = refl
part_others k x w log (d ∷ ds) free a = grind (arith, nat_tests, part_others k x w log ds free a.0)

pub since_adds : (k : Config) (x w : Holder) (seen log ds : List Deed) → same_holder x w ≡ false → Adds k w log ds → Since x seen log → Since x seen (ds ++ log)
since_adds k x w seen log [] free a s = s
since_adds k x w seen log (d ∷ ds) free a s = more (since_adds k x w seen log ds free a.0 s) (subst (λ y. same_holder x y ≡ false) (sym a.2) free)

authors_add : (k : Config) (w : Holder) (log ds : List Deed) → ((c : ℕ) → w ≡ of_cpu c → c < k.cpus) → Adds k w log ds → HasAuthors k log → HasAuthors k (ds ++ log)
authors_add k w log [] within a authors = authors
authors_add k w log (d ∷ ds) within a authors = (authors_add k w log ds within a.0 authors, λ c by. within c (sym a.2 ∙ ap (λ x. Some x) by))

-- everything goes on from nothing
pub since_nothing : (log : List Deed) → Since of_nobody [] log
since_nothing [] = here
since_nothing (d ∷ h) = more (since_nothing h) refl

pub same_turned : (v w : Holder) → same_holder v w ≡ true → same_holder w v ≡ true
same_turned v w e = let p = same_holder_tells v w e in subst (λ x. same_holder w x ≡ true) (sym p) (subst (λ x. same_holder x w ≡ true) p e)

-- whom the others do not hold is another
not_held : (w x : Holder) (n : ℕ) → (if same_holder w x then 1 else 0) + n ≡ 0 → same_holder x w ≡ false
not_held w x n free = grind (arith, nat_tests)

parts_others : (k : Config) (w : Holder) (log ds : List Deed) (ps : List (Holder × List Deed)) → Adds k w log ds → times_among w ps ≡ 0 → Parts log ps → Parts (ds ++ log) ps
parts_others k w log ds [] a free p = tt
parts_others k w log ds (x ∷ xs) a free p = (part_others k x.0 w log ds (not_held w x.0 (times_among w xs) free) a ∙ p.0, parts_others k w log ds xs a (omega arith) p.1)

pub nobody_since : (k : Config) (w : Holder) (seen log ds : List Deed) → Adds k w log ds → Since of_nobody seen log → Since of_nobody seen (ds ++ log)
nobody_since k w seen log ds a s = since_adds k of_nobody w seen log ds refl a s

-- what seats had seen goes on
past_adds : (k : Config) (w : Holder) (log ds : List Deed) (ps : List Past) → Adds k w log ds → Each (Remembers log) ps → Each (Remembers (ds ++ log)) ps
past_adds k w log ds ps a all = each_map (Remembers log) (Remembers (ds ++ log)) (λ p r. record { since = nobody_since k w p.seen log ds a r.since; own = r.own }) ps all

-- the view, with such a call in flight
abbrev pub flying : Option CpuOp → View → View
flying f v = record v { flight = f }

-- a step of a seat with deeds of its own, after which it knows these asks
pub acts_asking : (k : Config) (st : State ℕ View) (kept : WordsRule k st) (by : ℕ) (v : View) (carried : List (ℕ × ℕ)) → get_elem? st.views by ≡ some v → v.also ≡ [] → same_holder v.who v.who ≡ true
    → (ds : List Deed) (i n : ℕ) (asks : List ℕ) (f : Option CpuOp) → Adds k v.who kept.log ds → owed (ds ++ kept.log) ≡ 0 → Shows k (slice_set st.words i n) (ds ++ kept.log)
    → KnowsAsks k (slice_set st.words i n) (flying f (with_asks i v kept.log ds asks))
    → ((u : View) → same_holder u.who v.who ≡ false → KnowsAsks k st.words u → KnowsAsks k (slice_set st.words i n) u)
    → WordsRule k (stepped st i n by carried (flying f (with_asks i v kept.log ds asks)) keeps)
acts_asking k st kept by v carried at alone me ds i n asks f adds rests shows own_asks other_asks =
    let log = kept.log in
    let w = flying f (with_asks i v log ds asks) in
    let mine = kept.knows by v at in
    record {
      log = ds ++ log;
      sound = sound_adds k v.who log ds kept.sound adds;
      rests = rests;
      shows = shows;
      knows = λ j u e. ⊎_elim
          (λ (t : (j ≡ by) × (w ≡ u)). subst (Knows k (ds ++ log)) t.1 (record {
            config = mine.config;
            parts = (part_adds k v.who log ds me adds ∙ ap (λ l. ds ++ l) mine.parts.0, subst (Parts (ds ++ log)) (sym alone) tt);
            since = here;
            told = since_nothing (ds ++ log);
            calm = rests;
            past = past_adds k v.who log ds v.past adds mine.past;
          }))
          (λ (t : (j ≢ by) × (get_elem? st.views j ≡ some u)).
          let theirs = kept.knows j u t.1 in
          let both = total_two v.who st.views by j v u (λ q. t.0 (sym q)) at t.1 in
          let one = one_seat k st.views kept.seats v.who in
          let mine_once : 1 ≤ times_among v.who (holdings v) = subst (λ b. 1 ≤ (if b then 1 else 0) + times_among v.who v.also) (sym me) (omega arith) in
          let none : times_among v.who (holdings u) ≡ 0 = omega arith in
          record {
            config = theirs.config;
            parts = parts_others k v.who log ds (holdings u) adds none theirs.parts;
            since = since_adds k u.who v.who u.seen log ds
                (not_held v.who u.who (times_among v.who u.also) none) adds theirs.since;
            told = nobody_since k v.who u.told log ds adds theirs.told;
            calm = theirs.calm;
            past =
                past_adds k v.who log ds u.past adds theirs.past;
          })
          (at_set st.views by j w u e);
      authors = authors_add k v.who log ds (of_session k st.views kept.seats by v at me) adds kept.authors;
      seats = same_seats k st.views (set st.views by w) (λ x. let r = total_set x st.views by v w at in omega arith) kept.seats;
      asks = λ j u e. ⊎_elim
          (λ (t : (j ≡ by) × (w ≡ u)). subst (KnowsAsks k (slice_set st.words i n)) t.1 own_asks)
          (λ (t : (j ≢ by) × (get_elem? st.views j ≡ some u)).
          let both = total_two v.who st.views by j v u (λ q. t.0 (sym q)) at t.1 in
          let one = one_seat k st.views kept.seats v.who in
          let mine_once : 1 ≤ times_among v.who (holdings v) = subst (λ b. 1 ≤ (if b then 1 else 0) + times_among v.who v.also) (sym me) (omega arith) in
          let none : times_among v.who (holdings u) ≡ 0 = omega arith in
          other_asks u (not_held v.who u.who (times_among v.who u.also) none) (kept.asks j u t.1))
          (at_set st.views by j w u e);
    }
