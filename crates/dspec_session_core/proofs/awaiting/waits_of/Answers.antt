use Rattle.std.proofs.Common.{◌≡◌, ◌+◌, ◌∙◌, ℕ, if◌then◌else◌, ap, sym, subst, arith}
use Rattle.dspec_session_core.specs.Words.{Config, known_there, AwaitedSlots}
use Rattle.dspec_session_core.proofs.{Awaited.slots_looked, Awaited.one_more_looked, Awaited.all_looked, awaiting.waits_of.Goals.then-waits_in, awaiting.waits_of.Goals.else-waits_in}
use Rattle.dspec_session_core.proofs.awaiting.waits_of.Goals as goal

pub overflow_add-count : goal.overflow_add-count
overflow_add-count c =
    let few = (slots_looked c.args.cpu (known_there c.args.seat.now) c.loop-below.below c.loop-below.count (known_there c.loop-below.seat) c.loop-below.invariant.awaited).1 in
    let same = ap (λ (k : Config). k.nspec) c.requires.config in
    let most = c.args.words.now.few_slots in
    let here = c.loop-below-test.true in
    omega arith

pub loop-below-preserved : goal.loop-below-preserved
loop-below-preserved c =
    let hit = c.waits_in.result in
    let counted : c.if-waits_in.count ≡ (if hit then c.loop-below.count + 1 else c.loop-below.count) = elim c.if-waits_in.branch [
      | then-waits_in w ↦ w.count-is ∙ ap (λ b. if b then c.loop-below.count + 1 else c.loop-below.count) (sym w.if-waits_in.true)
      | else-waits_in w ↦ w.count-is ∙ ap (λ b. if b then c.loop-below.count + 1 else c.loop-below.count) (sym w.if-waits_in.false)
    ] in
    record {
      seat = c.waits_in.ensures.seat;
      awaited = subst (λ (n : ℕ). AwaitedSlots c.args.cpu (known_there c.args.seat.now) (c.loop-below.below + 1) n (known_there c.waits_in.new.seat)) (sym counted)
          (one_more_looked c.args.cpu (known_there c.args.seat.now) (known_there c.loop-below.seat) (known_there c.waits_in.new.seat) c.loop-below.below c.loop-below.count hit
          c.loop-below.invariant.awaited c.waits_in.ensures.awaited);
    }

pub returns-clause-awaited : goal.returns-clause-awaited
returns-clause-awaited c =
    let k = c.args.config.now in
    let v = known_there c.args.seat.now in
    let w = known_there c.loop-below.seat in
    let most = c.loop-below.auto.below-end in
    let least = c.loop-below-test.false in
    let end : c.loop-below.below ≡ k.nspec = omega arith in
    all_looked v k c.args.cpu c.loop-below.count w (c.requires.seat.1 ∙ sym c.requires.config)
    (subst (λ (n : ℕ). AwaitedSlots c.args.cpu v n c.loop-below.count w) end c.loop-below.invariant.awaited)
