use Rattle.std.specs.Prelude.{⊤}
use Rattle.dspec_c.specs.Words.{held_in, LoseTold}
use Rattle.dspec_c.proofs.Calls.{on_lent_both}
use Rattle.dspec_c.proofs.path_calls.dspec_paths_lose.Goals as goal

pub returns-in-Paths-clause-answers : goal.returns-in-Paths-clause-answers
returns-in-Paths-clause-answers c = on_lent_both (LoseTold c.args.place c.args.id c.lose_on.result)
    ⊤ c.args.paths.now _ (held_in c.args.cpu.now) (held_in c.lose_on.new.cpu) c.lose_on.result c.in-Paths.table c.lend-in-Paths.result.now c.lose_on.new.table
    c.lend.ensures.value c.in-Paths.is c.lend-in-Paths.ensures.value c.lose_on.ensures.answers
