use Rattle.test_words.specs.Words.{known}
use Rattle.dspec_table.proofs.Flights.{tries_again}
use Rattle.test_words.proofs.words.deciding.shown.Goals as goal

pub returns-clause-next : goal.returns-clause-next
returns-clause-next c to attempts =
    let seat = c.args.seat.now in
    let new = c.load_word.new.seat in
    tries_again c.args.words.now.config (known seat) (known new) seat.cpu 1 c.args.call.now c.load_word.result to seat.who_is c.requires.may c.load_word.ensures.step attempts
