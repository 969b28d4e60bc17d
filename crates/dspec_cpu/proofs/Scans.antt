-- The steps of a call of speculation.
use Rattle.std.proofs.Common.{◌≡◌, ℕ, ◌+◌, ◌*◌, ◌<◌, ◌≤◌, ◌==◌, Bool, true, false, ◌||◌, List, [], ◌∷◌, ◌++◌, length, if◌then◌else◌, Option, Some, None, refl, sym, ap, ◌∙◌, subst, ⊎_elim, inl}
use Rattle.std.proofs.Common.{arith}
use Rattle.std.proofs.lemmas.{Bool.Decides.nat_tests, List.append-nil}
use Rattle.dspec_cpu.specs.Words.{Speculation, scan, of_cpu, number_of, calling, flight_after, activity_place, Entered, LoadedActivity, Goes, rests, steps, Stands, StopsWhereMet, any_busy}
use Rattle.dspec_cpu.specs.Words.{LookedAtSlot, Scanned, misses, opening_deeds, IsOpening, is_worn_opening, Touches, of_slots, at_activity, Config, CpuOp, Opening, Deed, Scan, Miss, View}
use Rattle.dspec_deeds.specs.declared.calls.CpuOp.TheVariants as op
use Rattle.dspec_deeds.specs.declared.calls.Opening.TheVariants as opening
use Rattle.dspec_deeds.proofs.TestLemmas.{either_way, number_is_itself, other_number, same_number}
use Rattle.dspec_table.proofs.Flights.{activity_enters, flight_by_last}
use Rattle.dspec_cpu.specs.declared.scanning.Look.TheVariants as look
use Rattle.dspec_cpu.proofs.{ReachDeeds.goes_on, Ready.stands_after, Ready.stands_called, Slots.asked, Slots.stands_more, Stopping.shown_stop, Stopping.shown_running, Stopping.heeded}
use Rattle.dspec_cpu.proofs.{Touching.slot_touched, Touching.touched_one}

-- a scan came past so many slots, of which one was decided or none
pub record Came (k : Config) (c : ℕ) (v : View) (n : ℕ) (busy : Bool) (w : View) : Type 0 where
  pub missed : List Bool
  pub count : length missed ≡ n
  pub any : busy ≡ any_busy missed
  pub goes : Goes v (misses c missed ++ Scan c true ∷ []) w
  pub stands : Stands k c v (misses c missed ++ Scan c true ∷ []) w
  pub runs : StopsWhereMet v false false w
  pub bounded : w.steps ≤ v.steps + 1 + 2 * n
  pub touches : Touches (of_slots n) v w

once : (k : Config) (c : ℕ) (b : Bool) → at_activity k c asked op.Speculation b ≡ Scan c (if b then false else true) ∷ []
once k c true = refl
once k c false = refl

module _ (k : Config) (c : ℕ) (v : View) where
  -- the load of activity
  pub first : (b : Bool) (w : View) → v.config ≡ k → v.who ≡ of_cpu c → LoadedActivity asked v b w → (r : Bool) → (if b then false else true) ≡ r
      → (ds : List Deed) → ds ≡ Scan c r ∷ [] → Goes v ds w × Stands k c v ds w × (w.steps ≡ v.steps + 1) × (w.touched ≡ activity_place ∷ v.touched)
  first b w config who step r is ds e =
      let deeds : at_activity v.config (number_of v.who) asked op.Speculation b ≡ ds = once v.config (number_of v.who) b ∙ ap (λ n. Scan n (if b then false else true) ∷ []) (ap number_of who)
      ∙ (ap (λ x. Scan c x ∷ []) is ∙ sym e) in
      let entered : Entered activity_place (calling op.Speculation v) step.0 ds w = subst (λ x. Entered activity_place (calling op.Speculation v) step.0 x w) deeds step.3 in
      let same : flight_after k (Some op.Speculation) ds ≡ flight_after k v.flight ds =
      ap (flight_after k (Some op.Speculation)) e ∙ (flight_by_last k (Some op.Speculation) v.flight (Scan c r) [] [] ∙ ap (flight_after k v.flight) (sym e)) in (
        steps w ds ds step.0 rests step.1 (activity_enters asked v b w ds step deeds) (sym (append-nil ds)),
        stands_called k c op.Speculation v w ds (stands_after k c (calling op.Speculation v) w step.0 ds config who entered) same,
        ap (λ (x : View). x.steps) entered.view,
        ap (λ (x : View). x.touched) entered.view,
      )

  pub runs : (w : View) → v.config ≡ k → v.who ≡ of_cpu c → LoadedActivity asked v false w → Came k c v 0 false w
  runs w config who step =
      let r = first false w config who step true refl (Scan c true ∷ []) refl in
      let one = r.2 in
      record {
        missed = [];
        count = refl;
        any = refl;
        goes = r.0;
        stands = r.1;
        runs = shown_running asked v w w step;
        bounded = omega arith;
        touches = touched_one (of_slots 0) v w activity_place r.3 (inl refl);
      }

  pub stops : (w : View) → v.config ≡ k → v.who ≡ of_cpu c → LoadedActivity asked v true w → Scanned k c v opening.Stopped false w
  stops w config who step =
      let r = first true w config who step false refl (Scan c false ∷ []) refl in
      let one = r.2 in
      record {
        missed = [];
        any = refl;
        answer = refl;
        unworn = refl;
        goes = r.0;
        stands = r.1;
        stops = shown_stop asked v w step;
        bounded = omega arith;
        touches = touched_one (of_slots 0) v w activity_place r.3 (inl refl);
      }

  -- a slot was missed
  pub goes_by : (n : ℕ) (busy b : Bool) (u w : View) → Came k c v n busy u → LookedAtSlot k c (n + 1) u (look.Missed b) w → Came k c v (n + 1) (b || busy) w
  goes_by n busy b u w came looked =
      let bs = came.missed in
      let here : LookedAtSlot k c (length bs + 1) u (look.Missed b) w = subst (λ m. LookedAtSlot k c (m + 1) u (look.Missed b) w) (sym came.count) looked in
      let le = came.bounded in
      let two = looked.bounded in
      record {
        missed = b ∷ bs;
        count = let is = came.count in omega arith;
        any = ap (λ x. b || x) came.any;
        goes = goes_on came.goes here.goes;
        stands = stands_more k c v u w (Miss c (length bs + 1) b) (misses c bs ++ Scan c true ∷ []) came.stands here.stands;
        runs = heeded v u w came.runs;
        bounded = omega arith;
        touches = slot_touched n v u w came.touches looked.touches;
      }

  -- a slot was given out
  pub gives : (n : ℕ) (busy : Bool) (id : Speculation) (u w : View) → n < k.nspec → Came k c v n busy u → LookedAtSlot k c (n + 1) u (look.Given id) w → Scanned k c v (opening.Id id) busy w
  gives n busy id u w lt came looked = grind (arith, nat_tests, goes_on, stands_more, stops, heeded, slot_touched)

  -- all were missed
  pub ends : (n : ℕ) (busy : Bool) (w : View) → n ≡ k.nspec → Came k c v n busy w → (a : Opening) → a ≡ (if busy then opening.Busy else opening.Unavailable) → Scanned k c v a busy w
  ends n true w all came a e = grind (arith, nat_tests, stops)
  ends n false w all came a e = grind (arith, nat_tests, stops)

-- the slot that the call has come to after so many Misses
come_to : (k : Config) (c : ℕ) (own : List Deed) (bs : List Bool) → length bs < k.nspec → scan k c ((misses c bs ++ Scan c true ∷ []) ++ own) ≡ length bs + 1
come_to k c own [] lt = rw (number_is_itself c) refl
come_to k c own (b ∷ bs) lt =
    let was = come_to k c own bs (omega arith) in
    let m : ℕ = scan k c ((misses c bs ++ Scan c true ∷ []) ++ own) in
    let up : m + 1 ≡ length (b ∷ bs) + 1 = omega arith in
    ⊎_elim
    (λ (t : (m == k.nspec) ≡ true). let e = same_number m k.nspec t in absurd (omega arith))
    (λ (f : (m == k.nspec) ≡ false). ap (λ x. if x then (if m == k.nspec then 0 else m + 1) else m) (number_is_itself c) ∙ (ap (λ x. if x then 0 else m + 1) f ∙ up))
    (either_way (m == k.nspec))

pub next_slot : (k : Config) (c n : ℕ) (busy : Bool) (v w : View) → n < k.nspec → Came k c v n busy w → scan k c w.own ≡ n + 1
next_slot k c n busy v w lt came = grind (arith, nat_tests, come_to)

-- and the call is in flight
misses_fly : (k : Config) (c : ℕ) (f : Option CpuOp) (bs : List Bool) → length bs < k.nspec → flight_after k f (misses c bs ++ Scan c true ∷ []) ≡ Some op.Speculation
misses_fly k c f [] lt = refl
misses_fly k c f (b ∷ bs) lt = grind (arith, nat_tests, other_number)

pub next_flight : (k : Config) (c n : ℕ) (busy : Bool) (v w : View) → n < k.nspec → Came k c v n busy w → w.flight ≡ Some op.Speculation
next_flight k c n busy v w lt came = let is = came.count in came.stands.flight ∙ misses_fly k c v.flight came.missed (omega arith)

-- no call is under way after the answer
all_missed : (k : Config) (c : ℕ) (own : List Deed) (bs : List Bool) → 1 ≤ k.nspec → length bs ≡ k.nspec → scan k c ((misses c bs ++ Scan c true ∷ []) ++ own) ≡ 0
all_missed k c own [] one all = absurd (omega arith)
all_missed k c own (b ∷ bs) one all = grind (arith, nat_tests, come_to, number_is_itself)

pub idle_again : (k : Config) (c : ℕ) (own : List Deed) (bs : List Bool) (a : Opening) → 1 ≤ k.nspec → IsOpening k.nspec bs a → is_worn_opening a ≡ false → scan k c (opening_deeds c bs a ++ own) ≡ 0
idle_again = grind (arith, nat_tests, all_missed, number_is_itself)

all_flown : (k : Config) (c : ℕ) (f : Option CpuOp) (bs : List Bool) → 1 ≤ k.nspec → length bs ≡ k.nspec → flight_after k f (misses c bs ++ Scan c true ∷ []) ≡ None
all_flown k c f [] one all = absurd (omega arith)
all_flown k c f (b ∷ bs) one all = grind (arith, nat_tests, number_is_itself)

-- nor in flight
pub none_flies : (k : Config) (c : ℕ) (f : Option CpuOp) (bs : List Bool) (a : Opening) → 1 ≤ k.nspec → IsOpening k.nspec bs a → is_worn_opening a ≡ false
    → flight_after k f (opening_deeds c bs a) ≡ None
none_flies = grind (arith, nat_tests, all_flown)
