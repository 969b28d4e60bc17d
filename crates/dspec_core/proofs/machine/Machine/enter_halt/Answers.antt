-- A stop leaves the words and the sides.
use Rattle.std.proofs.Common.{◌∷◌, refl}
use Rattle.dspec_deeds.specs.declared.deed.Deed.TheVariants as deed
use Rattle.dspec_core.specs.Words.{history}
use Rattle.dspec_core.proofs.{OneMore.latest_first, OneMore.shown_as, OneMore.cpus_halted, WordsShown.words_stay}
use Rattle.dspec_core.proofs.machine.Machine.enter_halt.Goals as goal

pub returns-clause-shown : goal.returns-clause-shown
returns-clause-shown g c =
    let m = c.args.self.now in
    let h = history m in
    let was = c.requires.may.shown in
    shown_as g.B.TraceBuffer.has g.B.TraceBuffer.capacity _ (deed.Halt ∷ h) (latest_first m.deeds c.push.new.self deed.Halt c.in_ok-push.ensures.ok) record {
      words = words_stay m.config deed.Halt h m.words.items (λ t. refl) was.words;
      active = refl;
      cpu_count = was.cpu_count;
      cpus = cpus_halted g.B.TraceBuffer.has g.B.TraceBuffer.capacity m.schema m.config h m.cpus.items was.cpus;
    }
