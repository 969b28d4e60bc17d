use Rattle.std.specs.Prelude.{◌≡◌}
use Rattle.dspec_c.specs.Words.{OpenOfTold}
use Rattle.dspec_c.proofs.Calls.{on_lent_table}
use Rattle.dspec_c.proofs.path_calls.dspec_paths_open_of.Goals as goal

pub returns-in-Paths-clause-answers : goal.returns-in-Paths-clause-answers
returns-in-Paths-clause-answers c = on_lent_table (OpenOfTold c.args.place c.args.thread c.open_of.result c.args.told.now c.open_of.new.told) (c.open_of.new.told ≡ c.args.told.now) c.args.paths.now _
    c.open_of.result c.in-Paths.table c.lend-in-Paths.result.now c.lend-in-Paths.result.now c.lend.ensures.value c.in-Paths.is c.lend-in-Paths.ensures.value c.open_of.ensures
