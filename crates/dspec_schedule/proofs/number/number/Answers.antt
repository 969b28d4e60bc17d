use Rattle.std.proofs.Common.{rules, ◌^◌}
use Rattle.dspec_schedule.proofs.NumberLemmas.{number_of-parsed, number_of-plus}
use Rattle.dspec_schedule.proofs.number.number.Goals as goal

pub returns-then-has_plus : goal.returns-then-has_plus
returns-then-has_plus c = number_of-plus (2 ^ 64) c.args.word.now (c.has_plus.ensures.0 c.if-has_plus.true)

pub returns : goal.returns
returns c = number_of-parsed (2 ^ 64) c.args.word.now c.map_err.result (search rules) (search rules)
