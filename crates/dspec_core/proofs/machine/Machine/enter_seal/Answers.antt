-- A sealed batch is the second buffer; the words stay.
use Rattle.std.proofs.Common.{◌≤◌, refl, ◌∙◌, subst, rules}
use Rattle.dspec_core.specs.Words.{seals, history, CpuProgress}
use Rattle.dspec_core.proofs.{KeptCpus.sealing, MachineReads.cpu_got, OneMore.progress_there, OwnDeeds.deed_room, OwnDeeds.own_entered, OwnDeeds.own_shows, OwnDeeds.same_worn, WordsShown.words_stay}
use Rattle.dspec_core.proofs.machine.Machine.enter_seal.Goals as goal

pub seal-own-requires : goal.seal-own-requires
seal-own-requires g c = record { seals = (deed_room c.requires.may c.index_mut-own.ensures.value c.in_ok-push.ensures.ok c.in_ok-push.ensures.countable).seal }

pub returns : goal.returns
returns g c =
    let may = c.requires.may in
    let m = c.args.self.now in
    let a = c.args.cpu in
    let own = c.index_mut-own.result.now in
    let was = own_shows may c.index_mut-own.ensures.value in
    let side = c.seal-own.ensures.shows m.schema m.config a (history m) was.side record { sized = c.clear.ensures.size ∙ was.second.sized; has = c.clear.ensures.empty m.schema } in
    let takes = subst (λ (x : CpuProgress). x.takes ≤ seals a (history m)) (progress_there m.cpus.items a own (cpu_got _ _ m may.shown a own may.cpu c.index_mut-own.ensures.value)) c.requires.takes in
    let kept = sealing _ _ m.schema m.config a (history m) own was c.seal-own.new.self c.seal-own.new.next c.seal-own.result side (same_worn c.seal-own.ensures.rest) c.seal-own.ensures.sealed
    c.seal-own.ensures.drops takes in
    let e = own_entered may c.index_mut-own.ensures.value c.in_ok-push.ensures.ok m.words _ (refl, refl) (words_stay m.config _ (history m) m.words.items (λ t. refl) may.shown.words) kept refl in
    record { shown = e.shown; entered = e.entered; refused = search rules }
