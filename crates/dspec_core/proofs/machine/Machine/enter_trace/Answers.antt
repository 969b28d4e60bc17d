-- A traced record is on its CPU's side and, kept, in the stream; the words stay.
use Rattle.std.proofs.Common.{◌∷◌, refl, sym, ap, ◌∙◌, subst, rules}
use Rattle.dspec_core.specs.Words.{Trace, Counts, ShowsList, history}
use Rattle.dspec_core.proofs.{OwnDeeds.deed_room, OwnDeeds.own_shows, OwnDeeds.quiet_entered, OwnDeeds.same_worn, OwnDeeds.unmoved, OwnSlots.stream_traces, OwnSlots.traced_as}
use Rattle.dspec_core.proofs.machine.Machine.enter_trace.Goals as goal

pub returns-in_err-enter_record-clause-refused : goal.returns-in_err-enter_record-clause-refused
returns-in_err-enter_record-clause-refused g c =
    unmoved c.from_residual.result c.args.self.now c.args.cpu c.index_mut-own.ensures.value c.in_err-enter_record.ensures.no_deed
    (λ i. record c.index_mut-own.result.now { accepted = c.in_err-enter_record.ensures.no_record i })

pub trace_stopped-requires : goal.trace_stopped-requires
trace_stopped-requires g c =
    let room = deed_room c.requires.may c.index_mut-own.ensures.value c.in_ok-enter_record.ensures.deeds c.in_ok-enter_record.ensures.countable in
    record { calls = room.call; counts = room.counts c.requires.few }

pub trace-requires : goal.trace-requires
trace-requires g c =
    let room = deed_room c.requires.may c.index_mut-own.ensures.value c.in_ok-enter_record.ensures.deeds c.in_ok-enter_record.ensures.countable in
    record { accepted = c.requires.accepted; laid = tt; calls = room.call; drops = room.drop; counts = room.counts c.requires.few }

pub returns-in-Stopped : goal.returns-in-Stopped
returns-in-Stopped g c =
    let m = c.args.self.now in
    let a = c.args.cpu in
    let r = c.args.rec.now in
    let h = history m in
    let was = own_shows c.requires.may c.index_mut-own.ensures.value in
    let streams = c.in_ok-enter_record.ensures.streamed ∙ stream_traces a r c.args.fate h _ was.accepted in
    let side = subst (λ f. ShowsList (λ b. g.B.TraceBuffer.has b m.schema) g.B.TraceBuffer.capacity m.config a (Trace a r f ∷ h) c.trace_stopped.new.self) (sym c.in-Stopped.is)
    (c.trace_stopped.ensures.shows _ _ _ _ r was.side) in
    let e = quiet_entered c.requires.may c.index_mut-own.ensures.value c.in_ok-enter_record.ensures.deeds (refl, refl, refl) streams side (same_worn c.trace_stopped.ensures.rest) (λ t. refl) in
    record { shown = e.shown; entered = e.entered; refused = search rules }

pub returns : goal.returns
returns g c =
    let m = c.args.self.now in
    let a = c.args.cpu in
    let r = c.args.rec.now in
    let h = history m in
    let was = own_shows c.requires.may c.index_mut-own.ensures.value in
    let streams = c.in_ok-enter_record.ensures.streamed ∙ stream_traces a r c.args.fate h _ was.accepted in
    let closed = c.is_closed-closed.ensures a c.index_mut-own.result.now.side.counts.worn h was.side.counted in
    let is = traced_as (g.S.Schema.shape_of m.schema) m.config a r c.args.fate c.trace.result h c.in_default.not-Stopped c.requires.may.legal.1.1
    (c.trace.ensures.answer m.config a h was.side closed) in
    let side = subst (λ f. ShowsList (λ b. g.B.TraceBuffer.has b m.schema) g.B.TraceBuffer.capacity m.config a (Trace a r f ∷ h) c.trace.new.self) is (c.trace.ensures.shows _ _ _ was.side) in
    let e = quiet_entered c.requires.may c.index_mut-own.ensures.value c.in_ok-enter_record.ensures.deeds (refl, refl, refl) streams side (ap (λ (n : Counts). n.worn) c.trace.ensures.counts)
    (λ t. refl) in
    record { shown = e.shown; entered = e.entered; refused = search rules }
