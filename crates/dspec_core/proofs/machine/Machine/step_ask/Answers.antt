-- One batch more is wanted than was taken.
use Rattle.std.proofs.Common.{◌+◌, ◌<◌, ◌^◌, refl, subst, arith}
use Rattle.dspec_deeds.specs.declared.calls.Answer.TheVariants as answer
use Rattle.dspec_core.specs.Words.{CpuProgress, state_of}
use Rattle.dspec_core.proofs.{CleanMakings.puts_stops, Makings.moves_shown, Makings.moves_state, Makings.progress_is}
use Rattle.dspec_interleaving.proofs.CleanReads.{takes_fit}
use Rattle.dspec_core.proofs.machine.Machine.step_ask.Goals as goal

pub overflow_add-progress : goal.overflow_add-progress
overflow_add-progress g c =
    let m = c.args.self.now in
    let fits = subst (λ (me : CpuProgress). me.takes + 1 < 2 ^ 64) (progress_is c.requires.stands.shown c.requires.cpu c.index_mut.ensures.value)
    (takes_fit (g.S.Schema.shape_of m.schema) (state_of m) c.requires.stands.coherent c.args.cpu c.requires.cpu) in
    omega arith

pub stop_consumer-requires : goal.stop_consumer-requires
stop_consumer-requires g c = record { shown = moves_shown c.requires.stands.shown c.requires.cpu c.index_mut.ensures.value _ refl refl }

pub returns : goal.returns
returns g c =
    let moves = moves_state c.requires.stands.shown c.requires.cpu c.index_mut.ensures.value _ (λ (me : CpuProgress). record me { want = me.takes + 1 }) refl in
    puts_stops g.B.TraceBuffer.has g.B.TraceBuffer.capacity c.args.self.now _ _ c.args.cpu _ answer.AskDone _ moves refl c.stop_consumer.ensures
