use Rattle.std.specs.Prelude.{◌≡◌}
use Rattle.dspec_c.specs.Words.{CountsTold}
use Rattle.dspec_c.proofs.Calls.{on_lent_table}
use Rattle.dspec_c.proofs.path_calls.dspec_paths_counts.Goals as goal

pub returns-in-Paths-clause-answers : goal.returns-in-Paths-clause-answers
returns-in-Paths-clause-answers c = on_lent_table (CountsTold c.counts_to.result c.counts_to.new.counts) (c.counts_to.new.counts ≡ c.args.counts.now) c.args.paths.now _ c.counts_to.result
    c.in-Paths.table c.lend-in-Paths.result.now c.lend-in-Paths.result.now c.lend.ensures.value c.in-Paths.is c.lend-in-Paths.ensures.value c.counts_to.ensures
