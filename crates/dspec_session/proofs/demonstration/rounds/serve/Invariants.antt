use Rattle.dspec_session.specs.Words.{words_of, Stays, ConsumerRounds, none_taken}
use Rattle.dspec_session.proofs.demonstration.rounds.serve.Given as goal

abbrev pub invariant-loop-round : goal.invariant-loop-round
invariant-loop-round g l = Stays (words_of l.shared) l.fn.consumer l.consumer × ConsumerRounds l.schema l.fn.consumer none_taken l.round l.consumer l.orders
