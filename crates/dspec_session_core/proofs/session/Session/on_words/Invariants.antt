-- The CPUs below this one are made.
use Rattle.std.proofs.Common.{List}
use Rattle.dspec_session_core.specs.Words.{Deed, Cpu, HasList}
use Rattle.dspec_session_core.proofs.Begins.{Begun}
use Rattle.dspec_session_core.proofs.session.Session.on_words.Given as goal

abbrev pub invariant-loop-cpu : goal.invariant-loop-cpu
invariant-loop-cpu g l =
    Begun (λ (cpu : Cpu g.row.S.Denot) (p : List Deed). HasList (g.S.Schema.shape_of cpu.schema) (g.S.Schema.accepted cpu.schema) (g.S.Schema.text cpu.schema) cpu p)
    l.schema l.words l.config l.cpu l.seats.items l.cpus.items l.ends.items
