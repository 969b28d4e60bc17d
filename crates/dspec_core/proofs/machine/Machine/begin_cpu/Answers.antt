use Rattle.std.proofs.Common.{Some, refl}
use Rattle.dspec_core.specs.Words.{CpuProgress, state_of}
use Rattle.dspec_interleaving.specs.declared.flight.CallPlace.TheVariants as flight
use Rattle.dspec_core.proofs.{Keepings.state_kept, Keepings.kept_as, Keepings.begin_keeps, Makings.moves_shown, Makings.moves_state}
use Rattle.dspec_core.proofs.machine.Machine.begin_cpu.Goals as goal

pub returns-clause-kept : goal.returns-clause-kept
returns-clause-kept g c =
    let m = c.args.self.now in
    let shown = c.requires.kept.shown in
    let begun = moves_state shown c.requires.cpu c.index_mut.ensures.value _ (λ (me : CpuProgress). record me { flight = Some (flight.Begun c.args.op); steps = 0 }) refl in
    kept_as _ _ g.S.Schema.shape_of g.S.Schema.accepted _ m.schema _ (moves_shown shown c.requires.cpu c.index_mut.ensures.value _ refl refl) begun refl
    (begin_keeps _ _ g.S.Schema.shape_of g.S.Schema.accepted m.schema (state_of m) c.args.cpu c.args.op c.requires.cpu c.requires.idle c.requires.accepted (state_kept _ _ _ _ m c.requires.kept))

pub returns-clause-state : goal.returns-clause-state
returns-clause-state g c =
    moves_state c.requires.kept.shown c.requires.cpu c.index_mut.ensures.value _ (λ (me : CpuProgress). record me { flight = Some (flight.Begun c.args.op); steps = 0 }) refl
