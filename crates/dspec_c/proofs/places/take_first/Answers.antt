use Rattle.std.proofs.Common.{◌∷◌, sym, ap, ◌∙◌}
use Rattle.dspec_c.proofs.Each.{first_and_rest}
use Rattle.dspec_c.proofs.places.take_first.Goals as goal

pub returns : goal.returns
returns g c = record { cons = sym (ap (λ xs. c.remove.result ∷ xs) c.remove.ensures.items ∙ first_and_rest c.args.xs.now.items c.remove.result c.requires c.remove.ensures.value) }
