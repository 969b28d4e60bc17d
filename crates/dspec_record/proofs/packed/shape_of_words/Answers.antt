-- One word has room for fields of four bytes and shorter ones alone, which end at eight.
use Rattle.std.proofs.Common.{sym, ◌∙◌}
use Rattle.dspec_record.proofs.OneWord.{one-word}
use Rattle.dspec_record.proofs.packed.shape_of_words.Goals as goal

pub returns-then-count-eq1 : goal.returns-then-count-eq1
returns-then-count-eq1 c = sym (one-word c.args.row.now (sym c.requires.many ∙ c.if-count-eq1.true))
