-- What is read off the list of all for a CPU is read off its own list alike.
use Rattle.dspec_core.specs.Words.{history}
use Rattle.dspec_core.proofs.KeptCpus.{own_list}
use Rattle.dspec_core.proofs.machine.Machine.shows_own.Goals as goal

pub returns : goal.returns
returns g c own got =
    let m = c.args.self.now in
    own_list (λ b. g.B.TraceBuffer.has b m.schema) g.B.TraceBuffer.capacity m.config c.args.cpu own.side (history m) (c.requires.shown.cpus c.args.cpu own got).side
