-- Cutting a seat in two, and joining two, keeps the rule.
use Rattle.std.proofs.Common.{◌≡◌, ◌≢◌, ℕ, zero, suc, ◌+◌, ◌≤◌, true, false, if◌then◌else◌, List, [], ◌∷◌, ◌++◌, set, refl, sym, ap, ◌∙◌, subst, ⊎_elim, inl, inr, arith, true≢false}
use Rattle.std.proofs.lemmas.Bool.Decides.{nat_tests}
use Rattle.std.specs.Prelude.{slice_index}
use mathlib.Core.Option.{some}
use lib.ListN.{get_elem?}
use Rattle.atomic_table.specs.Table.{State, Splits, Joins}
use Rattle.atomic_table.proofs.Lists.{at_set, at_snoc}
use Rattle.dspec_table.specs.Words.{Config, Deed, Holder, of_cpu, of_consumer, of_nobody, doer, part_of, same_holder, Since, here, more, holdings, times_among, held_in_all, Parts, Each, Remembers}
use Rattle.dspec_table.specs.Words.{Least, Knows, KnowsAsks, WordsRule, ask_place, nobody, without, dealt, greater, note, heard, answered, past_of, gathered}
use Rattle.dspec_table.specs.declared.rule.View.{View}
use Rattle.dspec_deeds.proofs.TestLemmas.{either_way}
use Rattle.dspec_table.proofs.{Adding.since_nothing, HolderTests.part_next, Keeps.its_config, Pasts.each_append, Pasts.since_part, Totals.total_set, Totals.total_snoc}

-- new views, known of the same log
with_views : (k : Config) (st : State ℕ View) (kept : WordsRule k st) (views : List View) → ((j : ℕ) (u : View) → get_elem? views j ≡ some u → Knows k kept.log u)
    → ((w : Holder) → held_in_all w views ≡ held_in_all w st.views)
    → ((j : ℕ) (u : View) → get_elem? views j ≡ some u → KnowsAsks k st.words u)
    → WordsRule k record { words = st.words; homes = st.homes; views = views }
with_views k st kept views knows same asks = grind (arith, nat_tests)

-- who is nobody knows what he was told of the asks
nobody_asks : (k : Config) (words : List ℕ) (v : View) → v.who ≡ of_nobody → Least k words v.asks → Each (λ p. Least k words p.asks) v.past → KnowsAsks k words v
nobody_asks k words v who least past = record { least = least; past = past; exact = λ is. absurd (true≢false (ap (same_holder of_consumer) (sym is ∙ who))) }

no_asks : (k : Config) (words : List ℕ) (v : View) → v.who ≢ of_consumer → v.asks ≡ [] → Each (λ p. Least k words p.asks) v.past → KnowsAsks k words v
no_asks k words v who none past = record
    { past = past; least = λ c lt. subst (λ (l : List ℕ). slice_index l c ≤ slice_index words (ask_place k c)) (sym none) (omega arith); exact = λ is. absurd (who is) }

-- what holds of all views, and of the two that a seat is cut into
split_all : (P : View → Type 0) (views : List View) (id : ℕ) (left right : View) → P left → P right → ((j : ℕ) (u : View) → get_elem? views j ≡ some u → P u)
    → (j : ℕ) (u : View) → get_elem? (set views id left ++ right ∷ []) j ≡ some u → P u
split_all P views id left right l r all j u e = grind (arith, nat_tests, at_set, at_snoc)

-- what holds of all views, and of one that took in another, and of the other then
join_all : (P : View → Type 0) (views : List View) (id other : ℕ) (both spent : View) → P both → P spent → ((j : ℕ) (u : View) → get_elem? views j ≡ some u → P u)
    → (j : ℕ) (u : View) → get_elem? (set (set views id both) other spent) j ≡ some u → P u
join_all P views id other both spent b n all j u e = grind (arith, nat_tests, at_set)

since_of_part : (w : Holder) (log : List Deed) → part_of w log ≡ [] → Since w [] log
since_of_part w [] e = here
since_of_part w (d ∷ h) e = ⊎_elim
    (λ (t : same_holder w (doer d h) ≡ true). absurd (cc (subst (λ b. (if b then d ∷ part_of w h else part_of w h) ≡ []) t (sym (part_next w d h) ∙ e))))
    (λ (f : same_holder w (doer d h) ≡ false). more (since_of_part w h (subst (λ b. (if b then d ∷ part_of w h else part_of w h) ≡ []) f (sym (part_next w d h) ∙ e))) f)
    (either_way (same_holder w (doer d h)))

-- what goes on by others' deeds goes on
since_nobody : (w : Holder) (seen log : List Deed) → Since w seen log → Since of_nobody seen log
since_nobody w seen _ here = here
since_nobody w seen (d ∷ h) (more s e) = more (since_nobody w seen h s) refl

nobody_part : (log : List Deed) → part_of of_nobody log ≡ []
nobody_part log = refl

nobody_known : (k : Config) (log : List Deed) → Knows k log nobody
nobody_known k log = record { config = inl refl; parts = (nobody_part log, tt); since = since_nothing log; told = since_nothing log; calm = refl; past = tt }

-- dealing out the seat of a CPU that has done nothing
pub deals : (k : Config) (id : ℕ) (v : View) (c : ℕ) (rest : List (Holder × List Deed)) → same_holder v.who v.who ≡ true → v.also ≡ (of_cpu c, []) ∷ rest
    → Splits (WordsRule k) id v (without v) (dealt v)
deals k id v c rest me also st kept at =
    let mine = kept.knows id v at in
    let config = its_config k kept.log v me mine in
    let parts : Parts kept.log ((of_cpu c, []) ∷ rest) = subst (Parts kept.log) also mine.parts.1 in
    let left : Knows k kept.log (without v) =
    record {
      config = mine.config;
      parts = (mine.parts.0, subst (λ l. Parts kept.log (Rattle.dspec_table.specs.Notes.others l)) (sym also) parts.1);
      since = mine.since;
      told = mine.told;
      calm = mine.calm;
      past = mine.past;
    } in
    let right : Knows k kept.log (dealt v) =
    subst (λ l. Knows k kept.log (Rattle.dspec_table.specs.Notes.first_of_those v.config l)) (sym also)
    (record { config = inr config; parts = (parts.0, tt); since = since_of_part (of_cpu c) kept.log parts.0; told = since_nothing kept.log; calm = refl; past = tt }) in
    let asks = kept.asks id v at in
    let left_asks : KnowsAsks k st.words (without v) = record { least = asks.least; past = asks.past; exact = asks.exact } in
    let right_asks : KnowsAsks k st.words (dealt v) =
    subst (λ l. KnowsAsks k st.words (Rattle.dspec_table.specs.Notes.first_of_those v.config l)) (sym also)
    (no_asks k st.words (Rattle.dspec_table.specs.Notes.first_of_those v.config ((of_cpu c, []) ∷ rest)) (λ e. absurd (cc e)) refl tt) in
    with_views k st kept (set st.views id (without v) ++ dealt v ∷ [])
    (split_all (Knows k kept.log) st.views id (without v) (dealt v) left right kept.knows)
    (λ w.
    let a = total_snoc w (set st.views id (without v)) (dealt v) in
    let b = total_set w st.views id v (without v) at in
    let same : times_among w (holdings v) ≡ times_among w (holdings (without v)) + times_among w (holdings (dealt v)) =
    subst (λ l. times_among w ((v.who, v.own) ∷ l) ≡ times_among w ((v.who, v.own) ∷ Rattle.dspec_table.specs.Notes.others l) + times_among w
    (holdings (Rattle.dspec_table.specs.Notes.first_of_those v.config l))) (sym also) (omega arith) in
    omega arith)
    (split_all (KnowsAsks k st.words) st.views id (without v) (dealt v) left_asks right_asks kept.asks)

nobody_times : (x : Holder) → times_among x ((of_nobody, []) ∷ []) ≡ 0
nobody_times x = grind (arith, nat_tests)

-- a note of what a seat has seen
pub tells : (k : Config) (id : ℕ) (v : View) → Splits (WordsRule k) id v v (note v)
tells k id v st kept at =
    let mine = kept.knows id v at in
    let right : Knows k kept.log (note v) = record
    { config = inl refl; parts = (nobody_part kept.log, tt); since = since_nobody v.who v.seen kept.log mine.since; told = since_nothing kept.log; calm = mine.calm; past = tt } in
    let asks = kept.asks id v at in
    with_views k st kept (set st.views id v ++ note v ∷ [])
    (split_all (Knows k kept.log) st.views id v (note v) mine right kept.knows)
    (λ w. let a = total_snoc w (set st.views id v) (note v) in let b = total_set w st.views id v v at in let none : times_among w (holdings (note v)) ≡ 0 = nobody_times w in omega arith)
    (split_all (KnowsAsks k st.words) st.views id v (note v) asks (nobody_asks k st.words (note v) refl asks.least tt) kept.asks)

was_at : (views : List View) (id other : ℕ) (x w : View) → other ≢ id → get_elem? (set views id x) other ≡ some w → get_elem? views other ≡ some w
was_at views id other x w apart e = ⊎_elim (λ (t : (other ≡ id) × (x ≡ w)). absurd (apart t.0)) (λ (t : (other ≢ id) × (get_elem? views other ≡ some w)). t.1) (at_set views id other x w e)

-- a join, where the one seat may know what it then does, and holds what both did
joining : (k : Config) (id : ℕ) (v : View) (other : ℕ) (w both : View)
    → ((log : List Deed) → Knows k log v → Knows k log w → Knows k log both) → ((words : List ℕ) → KnowsAsks k words v → KnowsAsks k words w → KnowsAsks k words both)
    → ((x : Holder) → times_among x (holdings both) ≡ times_among x (holdings v) + times_among x (holdings w))
    → Joins (WordsRule k) id v other w both nobody
joining k id v other w both knows asks counts st kept at apart there =
    let theirs_at = was_at st.views id other both w apart there in
    let mine = kept.knows id v at in
    let theirs = kept.knows other w theirs_at in
    with_views k st kept (set (set st.views id both) other nobody)
    (join_all (Knows k kept.log) st.views id other both nobody (knows kept.log mine theirs) (nobody_known k kept.log) kept.knows)
    (λ x.
    let a = total_set x (set st.views id both) other w nobody there in
    let b = total_set x st.views id v both at in
    let c = counts x in
    let none : times_among x (holdings nobody) ≡ 0 = nobody_times x in
    omega arith)
    (join_all (KnowsAsks k st.words) st.views id other both nobody (asks st.words (kept.asks id v at) (kept.asks other w theirs_at)) (no_asks k st.words nobody (λ e. absurd (cc e)) refl tt) kept.asks)

pub greater_left : (xs ys : List ℕ) (c : ℕ) → slice_index xs c ≤ slice_index (greater xs ys) c
greater_left [] ys c = omega arith
greater_left (x ∷ xs) [] c = omega arith
greater_left (x ∷ xs) (y ∷ ys) zero = omega arith
greater_left (x ∷ xs) (y ∷ ys) (suc c) = greater_left xs ys c

greater_least : (xs ys : List ℕ) (c n : ℕ) → slice_index xs c ≤ n → slice_index ys c ≤ n → slice_index (greater xs ys) c ≤ n
greater_least [] ys c n a b = b
greater_least (x ∷ xs) [] c n a b = a
greater_least (x ∷ xs) (y ∷ ys) zero n a b = omega arith
greater_least (x ∷ xs) (y ∷ ys) (suc c) n a b = greater_least xs ys c n a b

note_times : (x : Holder) (w : View) → w.who ≡ of_nobody → w.also ≡ [] → times_among x (holdings w) ≡ 0
note_times = grind (arith, nat_tests)

pub hears : (k : Config) (id : ℕ) (v : View) (other : ℕ) (w : View) → w.who ≡ of_nobody → w.also ≡ [] → Joins (WordsRule k) id v other w (heard v w) nobody
hears k id v other w who also = grind (arith, nat_tests, joining, since_nobody, greater_least, greater_left, note_times)

pub answers : (k : Config) (id : ℕ) (v : View) (other : ℕ) (w : View) → w.who ≡ of_nobody → w.also ≡ [] → Joins (WordsRule k) id v other w (answered v w) nobody
answers k id v other w who also = grind (arith, nat_tests, joining, since_nobody, note_times)

parts_append : (log : List Deed) (ps qs : List (Holder × List Deed)) → Parts log ps → Parts log qs → Parts log (ps ++ qs)
parts_append log [] qs p q = q
parts_append log (x ∷ xs) qs p q = (p.0, parts_append log xs qs p.1 q)

times_append : (x : Holder) (ps qs : List (Holder × List Deed)) → times_among x (ps ++ qs) ≡ times_among x ps + times_among x qs
times_append x [] qs = omega arith
times_append x (p ∷ ps) qs = let r = times_append x ps qs in omega arith

pub gathers : (k : Config) (id : ℕ) (v : View) (other : ℕ) (w : View) → Joins (WordsRule k) id v other w (gathered v w) nobody
gathers k id v other w = joining k id v other w (gathered v w)
    (λ log mine theirs. record {
      config = mine.config;
      parts = (mine.parts.0, parts_append log v.also (holdings w) mine.parts.1 theirs.parts);
      since = mine.since;
      told = mine.told;
      calm = mine.calm;
      past =
          each_append (Remembers log) v.past (past_of w ∷ w.past) mine.past
          (record { since = since_nobody w.who w.seen log theirs.since; own = since_part w.who w.seen log theirs.since ∙ theirs.parts.0 }, theirs.past);
    })
    (λ words mine theirs. record { least = mine.least; past = each_append (λ p. Least k words p.asks) v.past (past_of w ∷ w.past) mine.past (theirs.least, theirs.past); exact = mine.exact })
    (λ x. let r = times_append x v.also (holdings w) in omega arith)
