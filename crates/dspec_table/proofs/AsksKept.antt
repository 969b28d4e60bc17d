-- The asks: the consumer stores them, and a CPU loads its own.
use Rattle.std.proofs.Common.{◌≡◌, ◌≢◌, ℕ, zero, suc, ◌≤◌, ◌<◌, true, List, [], ◌∷◌, length, refl, sym, ap, ◌∙◌, subst, arith, true≢false}
use Rattle.std.proofs.Math.ListN.{length-set}
use Rattle.std.proofs.lemmas.{Bool.Decides.nat_tests, List.get_or-set_same, List.get_or-set_other}
use Rattle.std.specs.Prelude.{slice_index, slice_set}
use Rattle.atomic_table.specs.Table.{keeps, Allows, Me}
use Rattle.dspec_table.specs.{Words.Config, Words.Deed, Words.of_cpu, Words.of_consumer, Words.same_holder, Words.WordsRule, Words.Least, Words.KnowsAsks, Words.Shows, Words.slot_place}
use Rattle.dspec_table.specs.{Words.activity_place, Words.ack_place, Words.ask_place, Words.with_asks, Words.with_ask, Words.StoredAskAt, Words.LoadedAsk, Words.number_of, declared.rule.View.View}
use Rattle.dspec_table.proofs.{Adding.acts_asking, Keeps.same_words, Keeps.finds, Keeps.is_cpu, Keeps.its_config, Pasts.each_map, Places.before_groups, Places.ask_within, Places.one_ask}
use Rattle.dspec_table.proofs.{Places.no_ask}

pub with_ask_same : (xs : List ℕ) (c n : ℕ) → slice_index (with_ask xs c n) c ≡ n
with_ask_same [] zero n = refl
with_ask_same [] (suc c) n = with_ask_same [] c n
with_ask_same (x ∷ xs) zero n = refl
with_ask_same (x ∷ xs) (suc c) n = with_ask_same xs c n

pub with_ask_other : (xs : List ℕ) (c d n : ℕ) → d ≢ c → slice_index (with_ask xs c n) d ≡ slice_index xs d
with_ask_other [] zero zero n apart = absurd (apart refl)
with_ask_other [] zero (suc d) n apart = refl
with_ask_other [] (suc c) zero n apart = refl
with_ask_other [] (suc c) (suc d) n apart = with_ask_other [] c d n (λ e. apart (ap suc e))
with_ask_other (x ∷ xs) zero zero n apart = absurd (apart refl)
with_ask_other (x ∷ xs) zero (suc d) n apart = refl
with_ask_other (x ∷ xs) (suc c) zero n apart = refl
with_ask_other (x ∷ xs) (suc c) (suc d) n apart = with_ask_other xs c d n (λ e. apart (ap suc e))

-- one CPU's ask, and all others
at_ask : (P : ℕ → Type 0) (c : ℕ) → P c → ((d : ℕ) → d ≢ c → P d) → (d : ℕ) → P d
at_ask P c here there d = grind (arith, nat_tests)

-- an ask is no other word
ask_shows : (k : Config) (words : List ℕ) (c n : ℕ) (log : List Deed) → Shows k words log → Shows k (slice_set words (ask_place k c) n) log
ask_shows k words c n log sh =
    let after = before_groups k c in
    record {
      count = length-set words (ask_place k c) n ∙ sh.count;
      active = (let apart : activity_place ≢ ask_place k c = (λ e. omega arith) in get_or-set_other words (ask_place k c) activity_place n 0 apart) ∙ sh.active;
      slots = λ t a b. let apart : slot_place t ≢ ask_place k c = (λ e. omega arith) in get_or-set_other words (ask_place k c) (slot_place t) n 0 apart ∙ sh.slots t a b;
      acks = λ d t x a b. get_or-set_other words (ask_place k c) (ack_place k d t) n 0 (no_ask k d c t a b) ∙ sh.acks d t x a b;
    }

pub stores_ask : (k : Config) (slots id c n : ℕ) (me : Me ℕ View) → c < k.cpus → me.0.who ≡ of_consumer → me.0.also ≡ [] → slice_index me.0.asks c ≤ n
    → Allows (WordsRule k) slots id me (ask_place k c) (λ _. n) (λ _ w. StoredAskAt (ask_place k c) me.0 n w.0 × (w.1 ≡ me.1))
stores_ask k slots id c n me lt who alone rises st kept homes at bound =
    let v = me.0 in
    let log = kept.log in
    let is_me : same_holder v.who v.who ≡ true = subst (λ x. same_holder x x ≡ true) (sym who) refl in
    let same = its_config k log v is_me (kept.knows id v at) in
    let old = st.words in
    let new = slice_set old (ask_place k c) n in
    let asks = with_ask v.asks c n in
    let mine = kept.asks id v at in
    let long : ask_place k c < length old = subst (λ (m : ℕ). ask_place k c < m) (sym kept.shows.count) (ask_within k c lt) in
    let now : slice_index new (ask_place k c) ≡ n = get_or-set_same old (ask_place k c) n 0 long in
    let kept_at : (d : ℕ) → d ≢ c → slice_index new (ask_place k d) ≡ slice_index old (ask_place k d) =
    λ d apart. get_or-set_other old (ask_place k c) (ask_place k d) n 0 (λ e. apart (one_ask k d c e)) in
    let below : (xs : List ℕ) → Least k old xs → Least k new xs =
    λ xs least. at_ask (λ d. d < k.cpus → slice_index xs d ≤ slice_index new (ask_place k d)) c
    (λ l. let a = least c l in let b = mine.exact who c l in omega arith)
    (λ d apart l. let b = kept_at d apart in let m = least d l in omega arith) in (
      with_asks (ask_place k c) v log [] asks,
      keeps,
      tt,
      acts_asking k st kept id v me.1 at alone is_me [] (ask_place k c) n asks v.flight tt kept.rests (ask_shows k old c n log kept.shows)
          (record {
            past = each_map (λ p. Least k old p.asks) (λ p. Least k new p.asks) (λ p least. below p.asks least) v.past mine.past;
            least = at_ask (λ d. d < k.cpus → slice_index asks d ≤ slice_index new (ask_place k d)) c
                (λ l. let a = with_ask_same v.asks c n in omega arith)
                (λ d apart l. let a = with_ask_other v.asks c d n apart in let b = kept_at d apart in let m = mine.least d l in omega arith);
            exact = λ is. at_ask (λ d. d < k.cpus → slice_index asks d ≡ slice_index new (ask_place k d)) c
                (λ l. with_ask_same v.asks c n ∙ sym now)
                (λ d apart l. with_ask_other v.asks c d n apart ∙ (mine.exact is d l ∙ sym (kept_at d apart)));
          })
          (λ u other theirs. record {
            past = each_map (λ p. Least k old p.asks) (λ p. Least k new p.asks) (λ p least. below p.asks least) u.past theirs.past;
            least = below u.asks theirs.least;
            exact = λ is. absurd (true≢false (sym (λ i. same_holder (is i) (who i)) ∙ other));
          }),
      (
        (log, asks, finds k st kept id v at is_me, (λ d is. ap (λ (x : ℕ). with_ask v.asks x n) (one_ask k c d (is ∙ ap (λ (x : Config). ask_place x d) same))), refl),
        refl,
      ),
    )

pub loads_ask : (k : Config) (slots id c : ℕ) (me : Me ℕ View) → c < k.cpus → me.0.who ≡ of_cpu c → me.0.also ≡ []
    → Allows (WordsRule k) slots id me (ask_place k c) (λ n. n) (λ n w. LoadedAsk (number_of me.0.who) me.0 n w.0 × (w.1 ≡ me.1))
loads_ask k slots id c me lt who alone st kept homes at bound =
    let v = me.0 in
    let log = kept.log in
    let is_me = is_cpu v c who in
    let n = slice_index st.words (ask_place k c) in
    let c' : number_of v.who ≡ c = ap number_of who in
    let asks = with_ask v.asks (number_of v.who) n in
    let same = same_words st.words (ask_place k c) in
    let mine = kept.asks id v at in
    let its : ask_place k c ≡ ask_place v.config (number_of v.who) = λ i. ask_place (sym (its_config k log v is_me (kept.knows id v at)) i) (sym c' i) in
    let shown : slice_index v.asks (number_of v.who) ≤ n = subst (λ (x : ℕ). slice_index v.asks x ≤ n) (sym c') (mine.least c lt) in (
      with_asks (ask_place k c) v log [] asks,
      keeps,
      tt,
      acts_asking k st kept id v me.1 at alone is_me [] (ask_place k c) n asks v.flight tt kept.rests (subst (λ ws. Shows k ws log) (sym same) kept.shows)
          (subst (λ ws. KnowsAsks k ws (with_asks (ask_place k c) v log [] asks)) (sym same) (record {
            past = mine.past;
            least = subst (λ (x : ℕ). (d : ℕ) → d < k.cpus → slice_index (with_ask v.asks x n) d ≤ slice_index st.words (ask_place k d)) (sym c')
                (at_ask (λ d. d < k.cpus → slice_index (with_ask v.asks c n) d ≤ slice_index st.words (ask_place k d)) c
                (λ l. let a = with_ask_same v.asks c n in omega arith)
                (λ d apart l. let a = with_ask_other v.asks c d n apart in let m = mine.least d l in omega arith));
            exact = λ is. absurd (cc (sym who ∙ is));
          }))
          (λ u other theirs. subst (λ ws. KnowsAsks k ws u) (sym same) theirs),
      ((log, finds k st kept id v at is_me, shown, ap (λ (p : ℕ). with_asks p v log [] asks) its), refl),
    )
