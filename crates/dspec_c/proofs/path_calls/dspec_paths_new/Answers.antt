use Rattle.std.proofs.Common.{ap, ◌∙◌}
use Rattle.dspec_c.specs.Words.{counted_in, places_of}
use Rattle.dspec_c.proofs.path_calls.dspec_paths_new.Goals as goal

pub returns-clause-made : goal.returns-clause-made
returns-clause-made c = λ _. (
  c.put.ensures.full,
  (c.of_box.result, c.put.ensures.holds, (ap places_of c.of_box.ensures ∙ c.in-Ok.ensures.none, ap counted_in c.of_box.ensures ∙ c.in-Ok.ensures.counted)),
)
