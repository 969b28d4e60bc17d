use Rattle.std.proofs.Common.{◌∷◌, IfSome, subst}
use mathlib.Core.List.{IsPrefix}
use Rattle.rtrb.specs.Ring.{known_items}
use Rattle.dspec_ring.specs.Words.{CpuKnows}
use Rattle.dspec_ring.proofs.cpu_end.CpuEnd.spare.Goals as goal

pub returns-clause-next : goal.returns-clause-next
returns-clause-next c =
    subst (λ (e : CpuKnows). IfSome c.pop.result (λ spare. IsPrefix e.waiting (spare ∷ known_items c.pop.new.self.popping))) c.self.view_is c.pop.ensures.next
