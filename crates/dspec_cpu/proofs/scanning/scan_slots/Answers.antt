use Rattle.std.proofs.Common.{◌≡◌, ◌∙◌, ◌+◌, ◌<◌, ◌||◌, ℕ, not, sym, ap, subst, arith}
use Rattle.dspec_cpu.specs.Words.{Config, scan, known, set_up, cpu_of, LoadedActivity, LookedAtSlot}
use Rattle.dspec_cpu.specs.declared.scanning.Look.TheVariants as look
use Rattle.dspec_cpu.proofs.Scans.{Came, runs, stops, goes_by, gives, ends, next_slot, next_flight}
use Rattle.dspec_cpu.proofs.scanning.scan_slots.Goals.{then-was_decided, else-was_decided}
use Rattle.dspec_cpu.proofs.scanning.scan_slots.Goals as goal

pub returns-then-not-load_activity-clause-scanned :
    goal.returns-then-not-load_activity-clause-scanned
returns-then-not-load_activity-clause-scanned c =
    let seat = c.args.seat.now in
    let w = known c.load_activity.new.self in
    let step = subst (λ b. LoadedActivity Rattle.dspec_cpu.proofs.Slots.asked (known seat) (not b) w) c.if-not-load_activity.true c.load_activity.ensures.step in
    stops (set_up c.args.words.now) (cpu_of seat) (known seat) w c.requires.seat.1 seat.who_is step

pub loop-place-init : goal.loop-place-init
loop-place-init c =
    let seat = c.args.seat.now in
    let w = known c.load_activity.new.self in
    let step = subst (λ b. LoadedActivity Rattle.dspec_cpu.proofs.Slots.asked (known seat) (not b) w) c.if-not-load_activity.false c.load_activity.ensures.step in
    record { seat = c.load_activity.ensures.seat; came = runs (set_up c.args.words.now) (cpu_of seat) (known seat) w c.requires.seat.1 seat.who_is step }

pub look_at-requires-clause-seat : goal.look_at-requires-clause-seat
look_at-requires-clause-seat c = c.loop-place.invariant.seat.0

pub look_at-requires-clause-came : goal.look_at-requires-clause-came
look_at-requires-clause-came c =
    let k = set_up c.args.words.now in
    let seat = c.args.seat.now in
    let lt = subst (λ (x : Config). c.loop-place.place < x.nspec) c.requires.config.0 c.loop-place-test.true in (
      ap (λ n. scan k n (known c.loop-place.seat).own) c.loop-place.invariant.seat.1
          ∙ next_slot k (cpu_of seat) c.loop-place.place c.loop-place.busy (known seat) (known c.loop-place.seat) lt c.loop-place.invariant.came,
      next_flight k (cpu_of seat) c.loop-place.place c.loop-place.busy (known seat) (known c.loop-place.seat) lt c.loop-place.invariant.came,
    )

pub returns-in-Given-clause-seat : goal.returns-in-Given-clause-seat
returns-in-Given-clause-seat c = (c.look_at.ensures.seat.0, c.look_at.ensures.seat.1 ∙ c.loop-place.invariant.seat.1)

pub returns-in-Given-clause-scanned : goal.returns-in-Given-clause-scanned
returns-in-Given-clause-scanned c =
    let k = set_up c.args.words.now in
    let seat = c.args.seat.now in
    let lt = subst (λ (x : Config). c.loop-place.place < x.nspec) c.requires.config.0 c.loop-place-test.true in
    let looked = subst (λ (n : ℕ). LookedAtSlot k n (c.loop-place.place + 1) (known c.loop-place.seat) (look.Given c.in-Given.id) (known c.look_at.new.seat))
    c.loop-place.invariant.seat.1 c.in-Given.ensures.looked in
    gives k (cpu_of seat) (known seat) c.loop-place.place c.loop-place.busy c.in-Given.id (known c.loop-place.seat) (known c.look_at.new.seat) lt c.loop-place.invariant.came looked

pub loop-place-preserved : goal.loop-place-preserved
loop-place-preserved c =
    let k = set_up c.args.words.now in
    let seat = c.args.seat.now in
    let b = c.in-Missed.was_decided in
    let busy : c.if-was_decided.busy ≡ (b || c.loop-place.busy) =
    elim c.if-was_decided.branch [
      | then-was_decided w ↦ w.busy-is ∙ (w.if-was_decided.true ∙ ap (λ x. x || c.loop-place.busy) (sym w.if-was_decided.true))
      | else-was_decided w ↦ w.busy-is ∙ ap (λ x. x || c.loop-place.busy) (sym w.if-was_decided.false)
    ] in
    let looked = subst (λ (n : ℕ). LookedAtSlot k n (c.loop-place.place + 1) (known c.loop-place.seat) (look.Missed b) (known c.look_at.new.seat))
    c.loop-place.invariant.seat.1 c.in-Missed.ensures.looked in
    record {
      seat = (c.look_at.ensures.seat.0, c.look_at.ensures.seat.1 ∙ c.loop-place.invariant.seat.1);
      came = subst (λ x. Came k (cpu_of seat) (known seat) (c.loop-place.place + 1) x (known c.look_at.new.seat)) (sym busy)
          (goes_by k (cpu_of seat) (known seat) c.loop-place.place c.loop-place.busy b (known c.loop-place.seat) (known c.look_at.new.seat) c.loop-place.invariant.came looked);
    }

pub returns-clause-seat : goal.returns-clause-seat
returns-clause-seat c = c.loop-place.invariant.seat

pub returns-clause-scanned : goal.returns-clause-scanned
returns-clause-scanned c =
    let k = set_up c.args.words.now in
    let seat = c.args.seat.now in
    let low = c.loop-place-test.false in
    let high = c.loop-place.auto.place-end in
    let all : c.loop-place.place ≡ c.args.config.now.nspec = omega arith in
    ends k (cpu_of seat) (known seat) c.loop-place.place c.loop-place.busy (known c.loop-place.seat) (all ∙ ap (λ (x : Config). x.nspec) c.requires.config.0)
    c.loop-place.invariant.came c.none_free.result c.none_free.ensures
