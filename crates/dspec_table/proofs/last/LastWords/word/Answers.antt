use Rattle.std.proofs.Common.{◌∙◌, sym, ap, subst}
use Rattle.std.specs.Prelude.{slice_index}
use Rattle.dspec_table.specs.Words.{word_at, last_words, IsWordNumber}
use Rattle.dspec_table.proofs.{AtEnd.got_is, Limits.reads_word}
use Rattle.dspec_word.proofs.Numbers.{one_word}
use Rattle.dspec_table.proofs.last.LastWords.word.Goals as goal

pub of_number-requires : goal.of_number-requires
of_number-requires c = reads_word c.word.result (subst IsWordNumber (ap (slice_index (last_words c.args.self.now)) (sym c.slot_place.ensures.place)
    ∙ got_is (last_words c.args.self.now) c.slot_place.result c.word.result c.word.ensures)
    (c.args.self.now.shown c.args.slot c.requires.slot.0 c.requires.slot.1))

pub returns : goal.returns
returns c log shows =
    one_word c.of_number.result (word_at c.args.slot log)
    (c.of_number.ensures ∙ (sym (ap (slice_index (last_words c.args.self.now)) (sym c.slot_place.ensures.place)
    ∙ got_is (last_words c.args.self.now) c.slot_place.result c.word.result c.word.ensures) ∙ shows.slots c.args.slot c.requires.slot.0 c.requires.slot.1))
