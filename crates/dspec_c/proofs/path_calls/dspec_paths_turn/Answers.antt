use Rattle.std.specs.Prelude.{◌≡◌}
use Rattle.dspec_c.specs.Words.{held_in, TurnTold}
use Rattle.dspec_c.proofs.Calls.{on_lent_both}
use Rattle.dspec_c.proofs.path_calls.dspec_paths_turn.Goals as goal

pub returns-in-Paths-clause-answers : goal.returns-in-Paths-clause-answers
returns-in-Paths-clause-answers c = on_lent_both (TurnTold c.args.place c.args.id c.turn_on.result c.args.newest.now c.turn_on.new.newest)
    (c.turn_on.new.newest ≡ c.args.newest.now) c.args.paths.now _ (held_in c.args.cpu.now) (held_in c.turn_on.new.cpu) c.turn_on.result c.in-Paths.table c.lend-in-Paths.result.now c.turn_on.new.table
    c.lend.ensures.value c.in-Paths.is c.lend-in-Paths.ensures.value c.turn_on.ensures.answers
