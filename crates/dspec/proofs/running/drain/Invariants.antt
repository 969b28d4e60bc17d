-- The sink got what was taken, in rounds.
use Rattle.dspec.specs.Words.{words_of, PassesOn, MakesRounds}
use Rattle.dspec.proofs.running.drain.Given as goal

abbrev pub invariant-loop : goal.invariant-loop
invariant-loop g l =
    PassesOn (g.K.Sink.gets l.schema) (words_of l.shared) l.fn.consumer l.fn.sink l.consumer l.sink
    × MakesRounds (g.K.Sink.gets l.schema) l.count l.fn.consumer l.fn.sink l.consumer l.sink
