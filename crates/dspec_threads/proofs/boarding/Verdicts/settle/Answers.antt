use Rattle.std.proofs.Common.{refl, []}
use Rattle.dspec_threads.proofs.boarding.Verdicts.settle.Goals as goal

pub returns-in_default-clause-does : goal.returns-in_default-clause-does
returns-in_default-clause-does g c = record { these = []; count = refl; does = refl }

pub returns-in_default-try_lock-clause-does : goal.returns-in_default-try_lock-clause-does
returns-in_default-try_lock-clause-does g c = record { these = []; count = refl; does = refl }
