use Rattle.std.proofs.Common.{◌≡◌, ◌<◌, length, subst, get_or}
use Rattle.bench.proofs.Apart.{at_its_place}
use Rattle.bench.proofs.together.work_apart.Goals as goal

pub for_each_mut-requires-clause-accepts : goal.for_each_mut-requires-clause-accepts
for_each_mut-requires-clause-accepts g c κs within = λ i p lt at.
    let e = c.as_mut_slice.ensures.value in
    at_its_place c.args.shared.now c.args.cpus.items i p.now c.requires.callable (subst (λ xs. i < length xs) e lt) (subst (λ xs. p.now ≡ get_or xs i p.now) e at)
