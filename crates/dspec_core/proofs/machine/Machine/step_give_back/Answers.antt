-- The buffer that is out is pushed back.
use Rattle.std.proofs.Common.{◌≡◌, ◌∙◌, true, refl, sym, ap, subst}
use Rattle.dspec_deeds.specs.declared.calls.Answer.TheVariants as answer
use Rattle.dspec_core.specs.Words.{CpuProgress, Spare, progress_of, ConsumerMakes, history, state_of, gives_at}
use Rattle.dspec_interleaving.specs.declared.flight.Spare.TheVariants as spare
use Rattle.dspec_core.proofs.{CleanMakings.puts_stops, Makings.moves_shown, Makings.moves_state, Makings.progress_is, machine.Machine.step_give_back.Goals.in-Out}
use Rattle.dspec_core.proofs.{machine.Machine.step_give_back.Goals.in_default}
use Rattle.dspec_core.proofs.machine.Machine.step_give_back.Goals as goal

pub stop_consumer-requires-2 : goal.stop_consumer-requires-2
stop_consumer-requires-2 g c = record { shown = moves_shown c.requires.stands.shown c.requires.cpu c.index_mut.ensures.value _ refl refl }

pub returns : goal.returns
returns g c =
    let m = c.args.self.now in
    let a = c.args.cpu in
    let me = progress_of (state_of m).progresses a in
    let there : c.index-own.result.now.progress.spare ≡ spare.Out
    = elim c.match-matches.branch [ in-Out w ↦ w.in-Out.is | in_default w ↦ absurd (cc (w.matches-is, c.if-not-matches.false)) ] in
    let out : me.spare ≡ spare.Out = ap (λ (x : CpuProgress). x.spare) (progress_is c.requires.stands.shown c.requires.cpu c.index-own.ensures) ∙ there in
    let moves = moves_state c.requires.stands.shown c.requires.cpu c.index_mut.ensures.value _ (λ (me : CpuProgress). record me { spare = spare.GivenBack }) refl in
    subst (λ (p : Spare). ConsumerMakes g.B.TraceBuffer.has g.B.TraceBuffer.capacity m c.stop_consumer-2.new.self
    (gives_at m.config (history m) m.consumer (state_of m).progresses a me p) c.stop_consumer-2.result) (sym out)
    (puts_stops g.B.TraceBuffer.has g.B.TraceBuffer.capacity m _ _ a _ (answer.GaveBack true) _ moves refl c.stop_consumer-2.ensures)
