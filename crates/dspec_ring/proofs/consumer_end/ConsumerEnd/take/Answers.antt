use Rattle.std.proofs.Common.{◌∷◌, IfSome, subst}
use mathlib.Core.List.{IsPrefix}
use Rattle.rtrb.specs.Ring.{known_items}
use Rattle.dspec_ring.specs.Words.{ConsumerKnows}
use Rattle.dspec_ring.proofs.consumer_end.ConsumerEnd.take.Goals as goal

pub returns-clause-next : goal.returns-clause-next
returns-clause-next c =
    subst (λ (e : ConsumerKnows). IfSome c.pop.result (λ batch. IsPrefix e.waiting (batch ∷ known_items c.pop.new.self.popping))) c.self.view_is c.pop.ensures.next
