-- The consumer is still that of the session.
use Rattle.fuzz.specs.Words.{words_of, Stays}
use Rattle.fuzz.proofs.consuming.consume.Given as goal

abbrev pub invariant-loop-round : goal.invariant-loop-round
invariant-loop-round l = Stays (words_of l.shared) l.fn.consumer l.consumer
