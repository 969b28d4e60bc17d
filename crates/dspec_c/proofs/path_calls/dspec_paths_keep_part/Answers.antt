use Rattle.std.specs.Prelude.{◌≡◌}
use Rattle.dspec_c.specs.Words.{held_in, KeepPartTold}
use Rattle.dspec_c.proofs.Calls.{on_lent_both}
use Rattle.dspec_c.proofs.path_calls.dspec_paths_keep_part.Goals as goal

pub returns-in-Paths-clause-answers : goal.returns-in-Paths-clause-answers
returns-in-Paths-clause-answers c = on_lent_both (KeepPartTold c.args.place c.args.id c.args.waits c.keep_on.result c.args.count.now c.keep_on.new.count)
    (c.keep_on.new.count ≡ c.args.count.now) c.args.paths.now _ (held_in c.args.cpu.now) (held_in c.keep_on.new.cpu) c.keep_on.result c.in-Paths.table c.lend-in-Paths.result.now c.keep_on.new.table
    c.lend.ensures.value c.in-Paths.is c.lend-in-Paths.ensures.value c.keep_on.ensures.answers
