-- What a call that counts keeps, by how it ended.
use Rattle.std.proofs.Common.{◌≡◌, ℕ, ◌+◌, ◌*◌, ◌<◌, ◌≤◌, Bool, true, false, if◌then◌else◌, refl, sym, ap, ◌∙◌, subst, inr, arith}
use Rattle.std.proofs.lemmas.Bool.Decides.{nat_tests}
use Rattle.dspec_cpu.specs.Words.{Stored, Speculation, SlotState, in_range, known, activity_place, slot_place, LoadedActivity, ReleasedWord, one_more_worn, is_stopped_opening, is_worn_decided}
use Rattle.dspec_cpu.specs.Words.{CallLeaves, Reached, is_committing, releases_next, turns, Scanned, is_worn_opening, StopsWhereMet, is_stopped_decided, is_stopped_reach, Touches, last_looked}
use Rattle.dspec_cpu.specs.Words.{of_activity, of_slot, of_slots, Committing, Attempt, Config, Decided, Opening, View, Doing, CpuSeat, Counts, CpuState}
use Rattle.dspec_cpu.specs.declared.{parts.CpuParts.CpuParts as Cpu, reaching.Reach.Reach}
use Rattle.dspec_cpu.specs.declared.reaching.Reach.TheVariants as reach
use Rattle.dspec_cpu.proofs.{Decisions.block_answer, Stopping.worn_out, Stopping.shown_stop, Stopping.shown_running, Stopping.heeded, Touching.none_touched, Touching.touched_more}
use Rattle.dspec_cpu.proofs.{Touching.touched_one}

-- it was worn
pub worn_leaves : {S : Type 0} {within : ℕ → Type 0} (cpu : Cpu S) (most : ℕ) (counts : Counts) → cpu.config.max_calls ≤ cpu.side.calls
    → counts ≡ record cpu.side.counts { worn = one_more_worn cpu.side.counts.worn } → CallLeaves true false most within cpu (record cpu { side = record cpu.side { counts = counts } })
worn_leaves = grind (arith, nat_tests, none_touched, worn_out)

-- it wasn't: it moved its seat and its side, which has as many batches sealed and as many calls worn
module _ {S : Type 0} (cpu : Cpu S) (fewer : cpu.side.calls < cpu.config.max_calls) (seat : CpuSeat) (side was : CpuState Stored) (is : side ≡ was)
    (seals : was.seals ≡ cpu.side.seals) (worn : was.counts.worn ≡ cpu.side.counts.worn) where
  pub unworn_leaves : (stopped : Bool) (most : ℕ) (within : ℕ → Type 0) → (known seat).steps ≤ (known cpu.seat).steps + most → Touches within (known cpu.seat) (known seat)
      → StopsWhereMet (known cpu.seat) false stopped (known seat) → CallLeaves false stopped most within cpu (record cpu { seat = seat; side = side })
  unworn_leaves stopped most within bounded touches stops = grind (arith, nat_tests)

  -- it loaded activity alone
  pub loaded_leaves : (doing : Doing) (stopped : Bool) → LoadedActivity doing (known cpu.seat) stopped (known seat)
      → CallLeaves false stopped 1 of_activity cpu (record cpu { seat = seat; side = side })
  loaded_leaves doing stopped step =
      let one : (known seat).steps ≡ (known cpu.seat).steps + 1 = ap (λ (x : View). x.steps) step.3.view in
      unworn_leaves stopped 1 of_activity (omega arith)
      (touched_one of_activity (known cpu.seat) (known seat) activity_place (ap (λ (x : View). x.touched) step.3.view) refl) (go stopped step)
    where
      go : (b : Bool) → LoadedActivity doing (known cpu.seat) b (known seat) → StopsWhereMet (known cpu.seat) false b (known seat)
      go true shown = shown_stop doing (known cpu.seat) (known seat) shown
      go false shown = shown_running doing (known cpu.seat) (known seat) (known seat) shown

  -- its scan came to this answer
  pub scanned_leaves : {k : Config} {c : ℕ} {busy : Bool} (a : Opening) (slots : ℕ) → Scanned k c (known cpu.seat) a busy (known seat) → k.nspec ≡ slots
      → CallLeaves (is_worn_opening a) (is_stopped_opening a) (1 + 2 * slots) (of_slots (last_looked slots a)) cpu (record cpu { seat = seat; side = side })
  scanned_leaves a slots got same = grind (arith, nat_tests, unworn_leaves)

  -- on an identifier it came so far
  pub reached_leaves : {k : Config} {c : ℕ} {doing : Doing} {id : Speculation} (r : Reach) (most : ℕ) → Reached k c doing id (known cpu.seat) r (known seat) → most ≡ 1 + turns doing.op
      → k ≡ cpu.config → CallLeaves false (is_stopped_reach r) most (of_slot cpu.config id) cpu (record cpu { seat = seat; side = side })
  reached_leaves = grind (arith, nat_tests, unworn_leaves)

  -- and released the slot after its exchange
  pub released_leaves : {k : Config} {c : ℕ} {doing : Doing} {id : Speculation} (to : SlotState) (w : View) (slot most : ℕ) → Reached k c doing id (known cpu.seat) (reach.Done to) w
      → to.code ≡ Committing → ReleasedWord slot w (known seat) → most ≡ 1 + turns doing.op → k ≡ cpu.config → slot ≡ id.slot
      → CallLeaves false false most (of_slot cpu.config id) cpu (record cpu { seat = seat; side = side })
  released_leaves {id = id} to w slot most got alone step same its there =
      let next : releases_next (Attempt to) ≡ 1 = ap (λ x. if is_committing x then 1 else 0) alone in
      let one : (known seat).steps ≡ w.steps + 1 = ap (λ (x : View). x.steps) step.2.view in
      let le = got.bounded in
      let inside = ap (λ (x : Config). in_range x id) (sym its) ∙ (got.present refl).1 in
      unworn_leaves false most (of_slot cpu.config id) (omega arith)
      (touched_more (of_slot cpu.config id) (known cpu.seat) w (known seat) (slot_place slot) (subst (λ (x : Config). Touches (of_slot x id) (known cpu.seat) w) its got.touches)
      (ap (λ (x : View). x.touched) step.2.view) (inr (inside, ap (λ (s : ℕ). slot_place s) there))) (heeded (known cpu.seat) w (known seat) got.stops)

-- it copied or lost a block
pub copied_leaves : {S : Type 0} {within : ℕ → Type 0} (a : Decided) (fit : Bool) (n most : ℕ) (old new : Cpu S) → a ≡ block_answer fit n → CallLeaves false false most within old new
    → CallLeaves (is_worn_decided a) (is_stopped_decided a) most within old new
copied_leaves = grind (arith, nat_tests, block_answer)
