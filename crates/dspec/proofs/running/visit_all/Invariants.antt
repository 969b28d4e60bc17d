-- The sink got what was taken, of the CPUs that were visited.
use Rattle.dspec.specs.Words.{words_of, PassesOn, VisitsFirst}
use Rattle.dspec.proofs.running.visit_all.Given as goal

abbrev pub invariant-loop-cpu : goal.invariant-loop-cpu
invariant-loop-cpu g l =
    PassesOn (g.K.Sink.gets l.schema) (words_of l.shared) l.fn.consumer l.fn.sink l.consumer l.sink
    × VisitsFirst (g.K.Sink.gets l.schema) l.fn.consumer l.fn.sink l.cpu l.consumer l.sink
