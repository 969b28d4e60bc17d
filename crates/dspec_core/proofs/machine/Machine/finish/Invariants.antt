-- The streams and the reports of the CPUs so far.
use Rattle.std.proofs.Common.{◌≡◌, map}
use Rattle.dspec_core.specs.Words.{numbers_below, progress_of, history, state_of, stream, report}
use Rattle.dspec_core.proofs.machine.Machine.finish.Given as goal

abbrev pub invariant-loop-cpu : goal.invariant-loop-cpu
invariant-loop-cpu g l =
    (l.accepted ≡ map (λ c. stream c (history l.self)) (numbers_below l.cpu))
    × (l.reports ≡ map (λ c. report l.self.config c (progress_of (state_of l.self).progresses c).worn (history l.self)) (numbers_below l.cpu))
