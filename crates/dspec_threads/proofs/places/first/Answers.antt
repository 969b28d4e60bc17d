use Rattle.std.proofs.Common.{◌∷◌, sym, ap, ◌∙◌}
use Rattle.dspec_session_core.proofs.Ends.{first_and_rest}
use Rattle.dspec_threads.proofs.places.first.Goals as goal

pub returns : goal.returns
returns g c = sym (ap (λ xs. c.remove.result ∷ xs) c.remove.ensures.items ∙ first_and_rest c.args.items.now.items c.remove.result c.requires c.remove.ensures.value)
