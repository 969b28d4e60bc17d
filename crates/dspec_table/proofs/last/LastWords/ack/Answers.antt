use Rattle.std.proofs.Common.{◌∙◌, sym, ap}
use Rattle.std.specs.Prelude.{slice_index}
use Rattle.dspec_table.specs.Words.{last_words}
use Rattle.dspec_table.proofs.AtEnd.{got_is}
use Rattle.dspec_table.proofs.last.LastWords.ack.Goals as goal

pub returns : goal.returns
returns c log shows =
    let ws = last_words c.args.self.now in
    sym (got_is ws c.ack_place.result c.word.result c.word.ensures) ∙ (ap (slice_index ws) c.ack_place.ensures ∙ shows.acks c.args.cpu c.args.slot c.requires.cpu c.requires.slot.0 c.requires.slot.1)
