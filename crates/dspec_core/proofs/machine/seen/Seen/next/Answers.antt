-- The slot of the place is one of the session.
use Rattle.std.proofs.Common.{subst}
use Rattle.dspec_core.specs.Words.{CallPlace, IsSlotPlace}
use Rattle.dspec_core.proofs.machine.seen.Seen.next.Goals as goal

pub loads_scan-requires-clause-slot : goal.loads_scan-requires-clause-slot
loads_scan-requires-clause-slot c = subst (λ (f : CallPlace). IsSlotPlace c.args.self.now.config f) c.in-ScanLoad.is c.requires.inside

pub tries_scan-requires-clause-slot : goal.tries_scan-requires-clause-slot
tries_scan-requires-clause-slot c = subst (λ (f : CallPlace). IsSlotPlace c.args.self.now.config f) c.in-ScanTry.is c.requires.inside

pub loads_service-requires-clause-slot : goal.loads_service-requires-clause-slot
loads_service-requires-clause-slot c = subst (λ (f : CallPlace). IsSlotPlace c.args.self.now.config f) c.in-ServiceLoad.is c.requires.inside

pub settles-requires-clause-slot : goal.settles-requires-clause-slot
settles-requires-clause-slot c = subst (λ (f : CallPlace). IsSlotPlace c.args.self.now.config f) c.in-ServiceStore.is c.requires.inside
