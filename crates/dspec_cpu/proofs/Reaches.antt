-- How far a call on an identifier comes.
use Rattle.std.proofs.Common.{◌≡◌, ℕ, ◌+◌, ◌==◌, ◌≤◌, Bool, true, false, [], ◌++◌, Some, refl, sym, ap, ◌∙◌, subst, inl, inr, arith, true≢false}
use Rattle.std.proofs.lemmas.{Bool.Decides.nat_tests, List.append-nil}
use Rattle.std.specs.Prelude.{nat_le}
use Rattle.dspec_cpu.specs.Words.{Speculation, SlotState, in_range, part, scan, IsSound, mark, of_cpu, number_of, part_of, at_activity, at_exchange, IsOn, IsInFlight, calling, activity_place}
use Rattle.dspec_cpu.specs.Words.{slot_place, Entered, LoadedActivity, rests, steps, act_of, act_reached, is_reached, is_attempt, reached_deeds, releases_next, EndsAtWord, Reached, StopsWhereMet}
use Rattle.dspec_cpu.specs.Words.{is_stopped_reach, Touches, at_slot, of_slot, Act, Void, Granted, Config, CpuActor, View, Doing}
use Rattle.dspec_cpu.specs.declared.reaching.Reach.{Reach}
use Rattle.dspec_deeds.proofs.TestLemmas.{and_tells}
use Rattle.dspec_table.proofs.Flights.{quiet_activity, in_flight, activity_enters}
use Rattle.dspec_cpu.specs.declared.reaching.Reach.TheVariants as reach
use Rattle.dspec_cpu.proofs.{Mine.own_mine_tells, ReachDeeds.ended_deeds, ReachDeeds.goes_on, ReachDeeds.is_no_void, ReachDeeds.outside_deeds, ReachDeeds.reached_ends, ReachDeeds.reached_now}
use Rattle.dspec_cpu.proofs.{ReachDeeds.stopped_deeds, ReachDeeds.unstopped, Ready.stands_after, Ready.stands_called, Stopping.shown_stop, Stopping.shown_running, Touching.touched_more}
use Rattle.dspec_cpu.proofs.{Touching.touched_on, Touching.touched_one, Touching.touched_wider}

module _ (k : Config) (c : ℕ) (doing : Doing) (id : Speculation) (v : View) (config : v.config ≡ k) (who : v.who ≡ of_cpu c) (on : IsOn id doing.op) where
  -- it ended at the load of activity
  at_once : (r : Reach) (w : View) (stopped : Bool) → (step : LoadedActivity doing v stopped w)
      → at_activity v.config (number_of v.who) doing doing.op stopped ≡ reached_deeds c doing doing.op r → is_reached r ≡ false → act_reached r ≡ Void
      → is_stopped_reach r ≡ stopped → Reached k c doing id v r w
  at_once r w stopped step deeds none void answered =
      let entered : Entered activity_place (calling doing.op v) step.0 (reached_deeds c doing doing.op r) w = subst (λ ds. Entered activity_place (calling doing.op v) step.0 ds w) deeds step.3 in
      let no_grant : r ≡ reach.Granted → (word : SlotState) × (act_of doing.op word doing.mine ≡ Granted) = λ e. absurd (true≢false (sym (ap is_reached e) ∙ none)) in
      let one : w.steps ≡ v.steps + 1 = ap (λ (x : View). x.steps) entered.view in
      record {
        goes = steps w _ _ step.0 rests step.1 (activity_enters doing v stopped w _ step deeds) (sym (append-nil _));
        stands = stands_called k c doing.op v w _ (stands_after k c (calling doing.op v) w step.0 _ config who entered)
            (reached_ends k c doing id (Some doing.op) doing.op r on no_grant ∙ sym (reached_ends k c doing id v.flight doing.op r on no_grant));
        stops = subst (λ b. StopsWhereMet v false b w) (sym answered) (heeds stopped step);
        bounded = let no = ap releases_next void in omega arith;
        touches = touched_one (of_slot k id) v w activity_place (ap (λ (x : View). x.touched) entered.view) (inl refl);
        acts = λ t. absurd (true≢false (sym t ∙ none));
        present = λ t. absurd (true≢false (sym t ∙ none));
      }
    where
      heeds : (b : Bool) → LoadedActivity doing v b w → StopsWhereMet v false b w
      heeds true s = shown_stop doing v w s
      heeds false s = shown_running doing v w w s

  pub at_stop : (w : View) → LoadedActivity doing v true w → Reached k c doing id v reach.Stopped w
  at_stop w step = at_once reach.Stopped w true step (ap (λ n. at_activity v.config n doing doing.op true) (ap number_of who) ∙ stopped_deeds v.config c doing id doing.op on) refl refl refl

  pub outside : (w : View) → in_range k id ≡ false → LoadedActivity doing v false w → Reached k c doing id v reach.Void w
  outside w out step = at_once reach.Void w false step
      (ap (λ n. at_activity v.config n doing doing.op false) (ap number_of who) ∙ outside_deeds v.config c doing id doing.op on (ap (λ (x : Config). in_range x id) config ∙ out)) refl refl refl

  -- it goes on to the word
  pub flight : (u : View) → in_range k id ≡ true → scan k c v.own ≡ 0 → doing.mine ≡ (mark c id.slot v.own == id.issue + 1) → LoadedActivity doing v false u → IsInFlight k u c doing id id.slot
  flight u inside idle mine step =
      let sound : IsSound k step.0 = subst (λ (x : Config). IsSound x step.0) config step.1.sound in
      let its : part (CpuActor c) step.0 ≡ v.own = subst (λ x. part_of x step.0 ≡ v.own) who step.1.own in
      in_flight k v u c doing id config inside on idle (λ le. mine ∙ own_mine_tells k c id step.0 v.own sound its le) step

  pub reached_after : (u : View) → in_range k id ≡ true → LoadedActivity doing v false u → (r : Reach) (w : View) → EndsAtWord k c doing id id.slot u (act_reached r) w
      → (r ≡ reach.Stopped → ⊥) → Reached k c doing id v r w
  reached_after u inside step r w ended running =
      let quiet : at_activity v.config (number_of v.who) doing doing.op false ≡ [] =
      quiet_activity v.config (number_of v.who) doing id doing.op (ap (λ (x : Config). in_range x id) config ∙ inside) on in
      let first : Entered activity_place (calling doing.op v) step.0 [] u = subst (λ ds. Entered activity_place (calling doing.op v) step.0 ds u) quiet step.3 in
      let granted : r ≡ reach.Granted → (word : SlotState) × (act_of doing.op word doing.mine ≡ Granted) = λ e. (ended.word, ended.acts ∙ ap act_reached e) in
      let shown = ended.last in
      let b = shown.before in
      let b_config : b.config ≡ k = shown.config ∙ (ap (λ (x : View). x.config) first.view ∙ config) in
      let b_who : b.who ≡ of_cpu c = shown.who ∙ (ap (λ (x : View). x.who) first.view ∙ who) in
      let b_own : b.own ≡ v.own = shown.stays ∙ ap (λ (x : View). x.own) first.view in
      let log = shown.last.0 in
      let deeds : at_exchange b.config (number_of b.who) doing id.slot ended.word (is_attempt (act_reached r)) doing.op ≡ reached_deeds c doing doing.op r =
      ap (λ n. at_exchange b.config n doing id.slot ended.word (is_attempt (act_reached r)) doing.op) (ap number_of b_who)
      ∙ ended_deeds b.config c id.slot doing id ended.word doing.op r on ended.acts running in
      let entered : Entered (slot_place id.slot) b log (reached_deeds c doing doing.op r) w = subst (λ ds. Entered (slot_place id.slot) b log ds w) deeds shown.last.3 in
      let loaded : Touches (of_slot k id) v u = touched_one (of_slot k id) v u activity_place (ap (λ (x : View). x.touched) first.view) (inl refl) in
      let worked : Touches (of_slot k id) u b = touched_wider (at_slot id.slot) (of_slot k id) u b (λ p e. inr (inside, e)) shown.worked in
      let last = stands_after k c b w log (reached_deeds c doing doing.op r) b_config b_who entered in
      let one : u.steps ≡ v.steps + 1 = ap (λ (x : View). x.steps) first.view in
      record {
        goes = steps w (reached_deeds c doing doing.op r) (reached_deeds c doing doing.op r) log
            (goes_on (steps u [] [] step.0 rests step.1 (activity_enters doing v false u [] step quiet) refl) shown.waited) shown.last.1 (inl entered) (sym (append-nil _));
        stands = record {
          sound = last.sound;
          part_is = last.part_is;
          own = last.own ∙ ap (λ l. reached_deeds c doing doing.op r ++ l) b_own;
          config = last.config
              ∙ (b_config ∙ sym config);
          who = last.who ∙ (b_who ∙ sym who);
          rests = last.rests;
          flight =
              last.flight ∙ (reached_ends k c doing id b.flight doing.op r on granted ∙ sym (reached_ends k c doing id v.flight doing.op r on granted));
        };
        stops = subst (λ b. StopsWhereMet v false b w) (sym (unstopped r running)) (shown_running doing v u w step);
        bounded = let le = ended.bounded in omega arith;
        touches = touched_more (of_slot k id) v b w (slot_place id.slot) (touched_on (of_slot k id) v u b loaded worked) (ap (λ (x : View). x.touched) entered.view) (inr (inside, refl));
        acts = λ t. (ended.word, ended.acts);
        present = λ t. (
          record {
            log = log;
            sound = subst (λ (x : Config). IsSound x log) b_config shown.last.1.sound;
            its = subst (λ x. part_of x log ≡ b.own) b_who shown.last.1.own ∙ b_own;
            now = ap (λ (x : SlotState). x.issue) (sym shown.last.2) ∙ reached_now doing.op id ended.word doing.mine (act_reached r) on ended.acts (is_no_void r t);
          },
          inside,
        );
      }

pub slot_inside : (k : Config) (id : Speculation) → in_range k id ≡ true → (1 ≤ id.slot) × (id.slot ≤ k.nspec)
slot_inside k id e = let both = and_tells (nat_le 1 id.slot) (nat_le id.slot k.nspec) e in (let a = both.0 in grind (arith, nat_tests), let b = both.1 in grind (arith, nat_tests))

pub is_running : (r : Reach) → is_reached r ≡ true → r ≡ reach.Stopped → ⊥
is_running r t e = true≢false (sym t ∙ ap is_reached e)

pub void_running : reach.Void ≡ reach.Stopped → ⊥
void_running e = cc (e)

pub at_seat : (k : Config) (doing : Doing) (id : Speculation) (v : View) (act : Act) (w : View) (c d slot there : ℕ) → c ≡ d → slot ≡ there
    → EndsAtWord k c doing id slot v act w → EndsAtWord k d doing id there v act w
at_seat k doing id v act w c d slot there same at e = subst (λ (x : ℕ × ℕ). EndsAtWord k x.0 doing id x.1 v act w) (λ i. (same i, at i)) e
