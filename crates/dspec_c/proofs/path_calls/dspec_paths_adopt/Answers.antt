use Rattle.std.specs.Prelude.{⊤}
use Rattle.dspec_c.specs.Words.{AdoptTold}
use Rattle.dspec_c.proofs.Calls.{on_lent_table}
use Rattle.dspec_c.proofs.path_calls.dspec_paths_adopt.Goals as goal

pub returns-in-Paths-clause-answers : goal.returns-in-Paths-clause-answers
returns-in-Paths-clause-answers c = on_lent_table (AdoptTold c.args.place c.args.id c.args.thread c.of_there.result) ⊤ c.args.paths.now _ c.of_there.result c.in-Paths.table
    c.lend-in-Paths.result.now c.adopt.new.self c.lend.ensures.value c.in-Paths.is c.lend-in-Paths.ensures.value
    (c.key_of.result, c.key_of.ensures, record { answer = c.adopt.result; numbered = c.of_there.ensures; done = record { done = c.adopt.ensures.adopts; counted = c.adopt.ensures.counted } })
