-- The table attempts the exchange where the word that was read awaits the acknowledgements.
use Rattle.std.proofs.Common.{◌∙◌, sym, subst, [], if◌then◌else◌}
use Rattle.dspec_core.specs.Words.{awaits, SlotState, CanBeReleased, ConsumerMakes, history, state_of, keeps_on, next_slot}
use Rattle.dspec_interleaving.specs.declared.flight.ConsumerFlight.TheVariants as flight
use Rattle.dspec_interleaving.proofs.{CleanReads.tried_awaits, CleanReads.untried_awaits, StepReads.can_be_released}
use Rattle.dspec_core.proofs.OneMore.{word_there}
use Rattle.dspec_core.proofs.machine.Machine.load_slot.Goals as goal

pub reap_at-requires : goal.reap_at-requires
reap_at-requires g c =
    let m = c.args.self.now in
    let h = history m in
    let is = word_there m.config h m.words.items c.args.slot c.index-word.result.now c.requires.slot.0 c.requires.slot.1 c.requires.shown.words c.index-word.ensures in
    subst CanBeReleased (sym is) (can_be_released m.config c.args.slot h c.requires.ranges c.requires.legal.0)

pub returns-in-Attempt : goal.returns-in-Attempt
returns-in-Attempt g c =
    let m = c.args.self.now in
    let h = history m in
    let word = c.index-word.result.now in
    let awaited = tried_awaits word _ (sym c.reap_at.ensures ∙ c.in-Attempt.is) in
    subst (λ (w : SlotState). ConsumerMakes g.B.TraceBuffer.has g.B.TraceBuffer.capacity m c.keep_on.new.self
    (if awaits w.code then keeps_on m.config h m.consumer (state_of m).progresses [] (flight.CleanAck c.args.slot w 0 c.args.released) else next_slot m.config h m.consumer
    (state_of m).progresses c.args.slot [] c.args.released) c.keep_on.result)
    (word_there m.config h m.words.items c.args.slot word c.requires.slot.0 c.requires.slot.1 c.requires.shown.words c.index-word.ensures) (rw awaited c.keep_on.ensures)

pub returns-in_default : goal.returns-in_default
returns-in_default g c =
    let m = c.args.self.now in
    let h = history m in
    let word = c.index-word.result.now in
    let awaited = untried_awaits word (λ to e. c.in_default.not-Attempt to (c.reap_at.ensures ∙ e)) in
    subst (λ (w : SlotState). ConsumerMakes g.B.TraceBuffer.has g.B.TraceBuffer.capacity m c.clean_next.new.self
    (if awaits w.code then keeps_on m.config h m.consumer (state_of m).progresses [] (flight.CleanAck c.args.slot w 0 c.args.released) else next_slot m.config h m.consumer
    (state_of m).progresses c.args.slot [] c.args.released) c.clean_next.result)
    (word_there m.config h m.words.items c.args.slot word c.requires.slot.0 c.requires.slot.1 c.requires.shown.words c.index-word.ensures) (rw awaited c.clean_next.ensures)
