use Rattle.std.specs.Prelude.{◌≡◌}
use Rattle.dspec_c.specs.Words.{held_in, BeginTold, named}
use Rattle.dspec_c.proofs.Calls.{on_lent_both}
use Rattle.dspec_c.proofs.path_calls.dspec_paths_begin.Goals as goal

pub returns-in-Paths-clause-answers : goal.returns-in-Paths-clause-answers
returns-in-Paths-clause-answers c =
    on_lent_both (BeginTold c.args.number c.args.thread c.args.stamp c.begin_on.result (named c.args.at.now c.args.id.now) (named c.begin_on.new.at c.begin_on.new.id))
    (named c.begin_on.new.at c.begin_on.new.id ≡ named c.args.at.now c.args.id.now) c.args.paths.now _ (held_in c.args.cpu.now) (held_in c.begin_on.new.cpu) c.begin_on.result
    c.in-Paths.table c.lend-in-Paths.result.now c.begin_on.new.table c.lend.ensures.value c.in-Paths.is c.lend-in-Paths.ensures.value c.begin_on.ensures.answers
