use Rattle.std.proofs.Common.{◌≡◌, ◌+◌, ◌∙◌, ℕ, if◌then◌else◌, ap, sym, subst, arith}
use Rattle.dspec_session_core.specs.Words.{Config, known_there, CleanedSlots}
use Rattle.dspec_session_core.proofs.Acknowledging.{slots_done, one_more, all_cleaned}
use Rattle.dspec_session_core.proofs.cleaning.clean_slots.Goals.{then-clean_slot, else-clean_slot}
use Rattle.dspec_session_core.proofs.cleaning.clean_slots.Goals as goal

pub overflow_add-released : goal.overflow_add-released
overflow_add-released c =
    let was = c.loop-below.invariant.cleaned in
    let few = (slots_done c.args.config.now (known_there c.args.seat.now) c.loop-below.below was.0 (known_there c.loop-below.seat) was.1).1 in
    let same = ap (λ (k : Config). k.nspec) c.requires.config in
    let most = c.args.words.now.few_slots in
    let here = c.loop-below-test.true in
    let number = was.2 in
    omega arith

pub loop-below-preserved : goal.loop-below-preserved
loop-below-preserved c =
    let was = c.loop-below.invariant.cleaned in
    let hit = c.clean_slot.result in
    let counted : c.if-clean_slot.released ≡ (if hit then c.loop-below.released + 1 else c.loop-below.released) = elim c.if-clean_slot.branch [
      | then-clean_slot w ↦ w.released-is ∙ ap (λ b. if b then c.loop-below.released + 1 else c.loop-below.released) (sym w.if-clean_slot.true)
      | else-clean_slot w ↦ w.released-is ∙ ap (λ b. if b then c.loop-below.released + 1 else c.loop-below.released) (sym w.if-clean_slot.false)
    ] in
    let more = one_more c.args.config.now (known_there c.args.seat.now) (known_there c.loop-below.seat) (known_there c.clean_slot.new.seat) c.loop-below.below
    c.loop-below.released was.0 hit was.1 c.clean_slot.ensures.cleaned was.2 in
    record { seat = c.clean_slot.ensures.seat; cleaned = (more.0, more.1, counted ∙ more.2) }

pub returns-clause-cleaned : goal.returns-clause-cleaned
returns-clause-cleaned c =
    let was = c.loop-below.invariant.cleaned in
    let k = c.args.config.now in
    let v = known_there c.args.seat.now in
    let w = known_there c.loop-below.seat in
    let most = c.loop-below.auto.below-end in
    let least = c.loop-below-test.false in
    let end : c.loop-below.below ≡ k.nspec = omega arith in
    all_cleaned v k c.loop-below.released was.0 w (c.requires.seat.1 ∙ sym c.requires.config) was.2 (subst (λ (n : ℕ). CleanedSlots k v n was.0 w) end was.1)
