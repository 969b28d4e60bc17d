use Rattle.std.proofs.Common.{◌≡◌, ◌∙◌, ℕ, not, refl, sym, subst}
use Rattle.dspec_cpu.specs.{Words.IsInFlight, Words.known, Words.set_up, Words.cpu_of, Words.LoadedActivity, Words.Reached, Words.EndsAtWord, Words.act_reached, declared.reaching.Reach.Reach}
use Rattle.dspec_cpu.specs.declared.reaching.Reach.TheVariants as reach
use Rattle.dspec_cpu.proofs.{ReachDeeds.never_idle, Reaches.at_stop, Reaches.outside, Reaches.flight, Reaches.reached_after, Reaches.is_running, Reaches.void_running, Reaches.at_seat}
use Rattle.dspec_cpu.proofs.{reaching.go_on.Given.Over, reaching.go_on.Goals.After-work}
use Rattle.dspec_cpu.proofs.reaching.go_on.Goals as goal

pub returns-then-not-load_activity-clause-reached : goal.returns-then-not-load_activity-clause-reached
returns-then-not-load_activity-clause-reached g c =
    let seat = c.args.seat.now in
    let step = subst (λ b. LoadedActivity g.J.HasDoing.doing (known seat) (not b) (known c.load_activity.new.self)) c.if-not-load_activity.true c.load_activity.ensures.step in
    at_stop (set_up c.args.words.now) (cpu_of seat) g.J.HasDoing.doing c.args.id (known seat) c.requires.seat.1 seat.who_is c.requires.on (known c.load_activity.new.self) step

pub returns-then-not-inside-clause-reached : goal.returns-then-not-inside-clause-reached
returns-then-not-inside-clause-reached g c =
    let seat = c.args.seat.now in
    let step = subst (λ b. LoadedActivity g.J.HasDoing.doing (known seat) (not b) (known c.load_activity.new.self)) c.if-not-load_activity.false c.load_activity.ensures.step in
    outside (set_up c.args.words.now) (cpu_of seat) g.J.HasDoing.doing c.args.id (known seat) c.requires.seat.1 seat.who_is c.requires.on (known c.load_activity.new.self)
    (sym c.requires.inside ∙ c.if-not-inside.true) step

pub work-requires-clause-call : goal.work-requires-clause-call
work-requires-clause-call g c =
    let seat = c.args.seat.now in
    let k = set_up c.args.words.now in
    let inside = sym c.requires.inside ∙ c.if-not-inside.false in
    let step = subst (λ b. LoadedActivity g.J.HasDoing.doing (known seat) (not b) (known c.load_activity.new.self)) c.if-not-load_activity.false c.load_activity.ensures.step in
    let flies = flight k (cpu_of seat) g.J.HasDoing.doing c.args.id (known seat) c.requires.seat.1 seat.who_is c.requires.on (known c.load_activity.new.self) inside
    c.requires.idle (c.requires.mine c.if-not-inside.false) step in
    subst (λ (n : ℕ). IsInFlight k (known c.load_activity.new.self) n g.J.HasDoing.doing c.args.id c.slot.result) (sym c.load_activity.ensures.seat.1)
    (subst (λ (n : ℕ). IsInFlight k (known c.load_activity.new.self) (cpu_of seat) g.J.HasDoing.doing c.args.id n) (sym c.slot.ensures.value) flies)

-- so far it came after its work on the word
at_word : (g : Over) (c : After-work g) (r : Reach) → EndsAtWord (set_up c.args.words.now) (cpu_of c.load_activity.new.self) g.J.HasDoing.doing c.args.id c.slot.result (known c.load_activity.new.self)
    (act_reached r) (known c.work.new.seat) → (r ≡ reach.Stopped → ⊥)
    → Reached (set_up c.args.words.now) (cpu_of c.args.seat.now) g.J.HasDoing.doing c.args.id (known c.args.seat.now) r (known c.work.new.seat)
at_word g c r ended running =
    let seat = c.args.seat.now in
    let k = set_up c.args.words.now in
    let u = known c.load_activity.new.self in
    let step = subst (λ b. LoadedActivity g.J.HasDoing.doing (known seat) (not b) u) c.if-not-load_activity.false c.load_activity.ensures.step in
    reached_after k (cpu_of seat) g.J.HasDoing.doing c.args.id (known seat) c.requires.seat.1 seat.who_is c.requires.on u (sym c.requires.inside ∙ c.if-not-inside.false) step r (known c.work.new.seat)
    (at_seat k g.J.HasDoing.doing c.args.id u (act_reached r) (known c.work.new.seat) _ _ _ _ c.load_activity.ensures.seat.1 c.slot.ensures.value ended) running

pub returns-in-Attempt-clause-reached : goal.returns-in-Attempt-clause-reached
returns-in-Attempt-clause-reached g c = at_word g c.before (reach.Done c.in-Attempt.to) c.in-Attempt.ensures.ended (is_running (reach.Done c.in-Attempt.to) refl)

pub returns-in-Granted-clause-reached : goal.returns-in-Granted-clause-reached
returns-in-Granted-clause-reached g c = at_word g c.before reach.Granted c.in-Granted.ensures.ended (is_running reach.Granted refl)

pub returns-in-Void-clause-reached : goal.returns-in-Void-clause-reached
returns-in-Void-clause-reached g c = at_word g c.before reach.Void c.in-Void.ensures.ended void_running

pub unreachable-requires : goal.unreachable-requires
unreachable-requires g c = let ended = c.in-Idle.ensures.ended in never_idle g.J.HasDoing.doing.op c.args.id ended.word g.J.HasDoing.doing.mine c.requires.on ended.acts
