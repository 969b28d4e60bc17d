-- What was dropped from each slot's buffer, after a record that was granted.
use Rattle.std.proofs.Common.{◌≡◌, ◌≢◌, ℕ, ◌+◌, ◌-◌, ◌==◌, ◌≤◌, ◌<◌, ◌^◌, Bool, true, false, List, ◌∷◌, length, Some, if◌then◌else◌, refl, sym, ap, ◌∙◌, ⊎_elim, arith, length-set}
use Rattle.std.proofs.lemmas.Bool.Decides.{nat_tests}
use Rattle.std.specs.Prelude.{slice_get, slice_set}
use Rattle.dspec_cpu_state.specs.Words.{Record, Speculation, spoken_granted, spoken_dropped, mark, calls, dropped_in, last_called, Config, SpeculateFate, Deed, Speculate}
use Rattle.dspec_deeds.specs.declared.deed.SpeculateFate.TheVariants as spoken
use Rattle.dspec_deeds.proofs.{Dropping.unmarked_drops, Dropping.dropped_called, TestLemmas.either_way, TestLemmas.same_number, TestLemmas.number_is_itself}
use Rattle.dspec_cpu_state.proofs.{Ones.last_is, Places.got_set, Places.got_other}

-- each slot's count is that of the speculation granted last
pub record AreDropped (k : Config) (c : ℕ) (drops : List ℕ) (p : List Deed) : Type 0 where
  pub count : length drops ≡ k.nspec
  pub each : (s : ℕ) → 1 ≤ s → s ≤ k.nspec → slice_get drops (s - 1) ≡ Some (dropped_in c (last_called c s p) p)

-- counts that hold each slot's but one, of which that one has so many
record AreBut (k : Config) (c : ℕ) (id : Speculation) (n : ℕ) (drops : List ℕ) (p : List Deed) : Type 0 where
  pub count : length drops ≡ k.nspec
  pub here : slice_get drops (id.slot - 1) ≡ Some n
  pub others : (s : ℕ) → 1 ≤ s → s ≤ k.nspec → s ≢ id.slot → slice_get drops (s - 1) ≡ Some (dropped_in c (last_called c s p) p)

module _ {k : Config} {c : ℕ} (p : List Deed) (id : Speculation) (low : 1 ≤ id.slot) (high : id.slot ≤ k.nspec) where
  -- where the CPU is a caller the slot's count is the speculation's
  pub counted_here : (drops : List ℕ) → AreDropped k c drops p → mark c id.slot p ≡ id.issue + 1 → slice_get drops (id.slot - 1) ≡ Some (dropped_in c id p)
  counted_here drops are m = are.each id.slot low high ∙ ap (λ j. Some (dropped_in c j p)) (last_is c id p m)

  -- with that one written
  written : (old new : List ℕ) (n : ℕ) → length old ≡ k.nspec → ((s : ℕ) → 1 ≤ s → s ≤ k.nspec → s ≢ id.slot → slice_get old (s - 1) ≡ Some (dropped_in c (last_called c s p) p))
      → new ≡ slice_set old (id.slot - 1) n → AreBut k c id n new p
  written old new n count others is = record {
    count = ap length is ∙ (length-set old (id.slot - 1) n ∙ count);
    here = ap (λ l. slice_get l (id.slot - 1)) is ∙ got_set old (id.slot - 1) n (omega arith);
    others = λ s one_low one_high apart.
        ap (λ l. slice_get l (s - 1)) is ∙ (got_other old (id.slot - 1) (s - 1) n (λ e. apart (omega arith)) ∙ others s one_low one_high apart);
  }

  module _ (mine : Bool) (marked : mine ≡ (mark c id.slot p == id.issue + 1)) where
    -- the speculation's count, from 0 where it is new to the CPU
    begun : (old new : List ℕ) → AreDropped k c old p → new ≡ (if mine then old else slice_set old (id.slot - 1) 0) → AreBut k c id (dropped_in c id p) new p
    begun old new was is = go mine refl
      where
        go : (b : Bool) → mine ≡ b → AreBut k c id (dropped_in c id p) new p
        go true t =
            let m = same_number (mark c id.slot p) (id.issue + 1) (sym marked ∙ t) in
            let same : new ≡ old = is ∙ ap (λ b. if b then old else slice_set old (id.slot - 1) 0) t in
            record {
              count = ap length same ∙ was.count;
              here = ap (λ l. slice_get l (id.slot - 1)) same ∙ counted_here old was m;
              others = λ s one_low one_high apart. ap (λ l. slice_get l (s - 1)) same ∙ was.each s one_low one_high;
            }
        go false f =
            let none : 0 ≡ dropped_in c id p = sym (unmarked_drops c id p (sym marked ∙ f)) in
            written old new (dropped_in c id p) was.count (λ s one_low one_high apart. was.each s one_low one_high)
            (is ∙ (ap (λ b. if b then old else slice_set old (id.slot - 1) 0) f ∙ ap (slice_set old (id.slot - 1)) none))

    -- a drop more
    dropped_more : (old begun_new new : List ℕ) → AreDropped k c old p → begun_new ≡ (if mine then old else slice_set old (id.slot - 1) 0) → calls c p + 1 < 2 ^ 64
        → ((n : ℕ) → slice_get begun_new (id.slot - 1) ≡ Some n → n + 1 < 2 ^ 64 → new ≡ slice_set begun_new (id.slot - 1) (n + 1))
        → AreBut k c id (dropped_in c id p + 1) new p
    dropped_more old between new was is few told =
        let b = begun old between was is in
        let le = dropped_called c id p in
        written between new (dropped_in c id p + 1) b.count b.others (told (dropped_in c id p) b.here (omega arith))

  -- after a record that was granted
  module _ (r : Record) (f : SpeculateFate) (drops : List ℕ) (granted : spoken_granted f ≡ true)
      (but : AreBut k c id (dropped_in c id p + (if spoken_dropped f then 1 else 0)) drops p) where
    abbrev now : List Deed
    now = Speculate c id r f ∷ p

    mark_now : (s : ℕ) → mark c s now ≡ (if s == id.slot then id.issue + 1 else mark c s p)
    mark_now s = rw (granted, number_is_itself c) refl

    traces_dropped_now : (j : Speculation) → dropped_in c j now
        ≡ (if j.slot == id.slot then (if j.issue == id.issue then dropped_in c j p + (if spoken_dropped f then 1 else 0) else 0) else dropped_in c j p)
    traces_dropped_now j = rw (granted, number_is_itself c) refl

    drops_here : dropped_in c id now ≡ dropped_in c id p + (if spoken_dropped f then 1 else 0)
    drops_here = traces_dropped_now id ∙ rw (number_is_itself id.slot, number_is_itself id.issue) refl

    granted_drops : AreDropped k c drops now
    granted_drops = record {
      count = but.count;
      each = λ s one_low one_high. ⊎_elim
          (λ (y : (s == id.slot) ≡ true).
          let same = same_number s id.slot y in
          let m : mark c s now ≡ id.issue + 1 = mark_now s ∙ ap (λ q. if q then id.issue + 1 else mark c s p) y in
          let issues : mark c s now - 1 ≡ id.issue = omega arith in
          let it : last_called c s now ≡ id = λ i. record { issue = issues i; slot = same i } in
          ap (λ x. slice_get drops (x - 1)) same ∙ (but.here ∙ ap Some (sym (ap (λ j. dropped_in c j now) it ∙ drops_here))))
          (λ (n : (s == id.slot) ≡ false).
          let apart : s ≢ id.slot = grind (arith, nat_tests) in
          let m : mark c s now ≡ mark c s p = mark_now s ∙ ap (λ q. if q then id.issue + 1 else mark c s p) n in
          let it : last_called c s now ≡ last_called c s p = ap (λ x. record { issue = x - 1; slot = s }) m in
          let last = last_called c s p in
          let stays : dropped_in c last now ≡ dropped_in c last p =
          traces_dropped_now last ∙ ap (λ q. if q then (if last.issue == id.issue then dropped_in c last p + (if spoken_dropped f then 1 else 0) else 0) else dropped_in c last p) n in
          but.others s one_low one_high apart ∙ ap Some (sym (ap (λ j. dropped_in c j now) it ∙ stays)))
          (either_way (s == id.slot));
    }

  -- a record that was kept, and one that was dropped
  module _ (mine : Bool) (marked : mine ≡ (mark c id.slot p == id.issue + 1)) (r : Record) (old new : List ℕ) (was : AreDropped k c old p) where
    pub kept_drops : new ≡ (if mine then old else slice_set old (id.slot - 1) 0) → AreDropped k c new (Speculate c id r spoken.Kept ∷ p)
    kept_drops is = granted_drops r spoken.Kept new refl (more (begun mine marked old new was is))
      where
        more : AreBut k c id (dropped_in c id p) new p → AreBut k c id (dropped_in c id p + 0) new p
        more b = record { count = b.count; here = b.here ∙ ap Some (omega arith); others = b.others }

    pub more_drops : (between : List ℕ) → between ≡ (if mine then old else slice_set old (id.slot - 1) 0) → calls c p + 1 < 2 ^ 64
        → ((n : ℕ) → slice_get between (id.slot - 1) ≡ Some n → n + 1 < 2 ^ 64 → new ≡ slice_set between (id.slot - 1) (n + 1))
        → AreDropped k c new (Speculate c id r spoken.Dropped ∷ p)
    more_drops between is few told = granted_drops r spoken.Dropped new refl (dropped_more mine marked old between new was is few told)
