use Rattle.std.specs.Prelude.{⊤}
use Rattle.dspec_c.specs.Words.{held_in, DiscardTold}
use Rattle.dspec_c.proofs.Calls.{on_lent_both}
use Rattle.dspec_c.proofs.path_calls.dspec_paths_discard.Goals as goal

pub returns-in-Paths-clause-answers : goal.returns-in-Paths-clause-answers
returns-in-Paths-clause-answers c = on_lent_both (DiscardTold c.args.place c.args.id c.discard_on.result)
    ⊤ c.args.paths.now _ (held_in c.args.cpu.now) (held_in c.discard_on.new.cpu) c.discard_on.result c.in-Paths.table c.lend-in-Paths.result.now c.discard_on.new.table
    c.lend.ensures.value c.in-Paths.is c.lend-in-Paths.ensures.value c.discard_on.ensures.answers
