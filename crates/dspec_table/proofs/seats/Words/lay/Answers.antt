use Rattle.std.proofs.Common.{◌∙◌}
use Rattle.dspec_table.proofs.AtStart.{starts}
use Rattle.dspec_table.proofs.seats.Words.lay.Goals as goal

pub of_words-requires : goal.of_words-requires
of_words-requires c = starts c.args.config.now c.as_slice.result.now (c.as_slice.ensures.value ∙ c.in_ok-zeros.ensures)
