use Rattle.std.proofs.Common.{Bool, not, subst}
use Rattle.test_words.specs.Words.{known, LoadedActivity}
use Rattle.test_words.proofs.Turns.{begins}
use Rattle.test_words.proofs.calls.begun.Goals as goal

pub returns-clause-may : goal.returns-clause-may
returns-clause-may c runs =
    let seat = c.args.seat.now in
    let new = c.load_activity.new.seat in
    begins c.args.words.now.config (known seat) (known new) seat.cpu c.args.call.now c.args.id c.requires.seat.1 c.requires.slots.0 c.requires.slots.1 c.requires.on c.requires.unused c.requires.mine
    (subst (λ (b : Bool). LoadedActivity c.args.call.now (known seat) (not b) (known new)) runs c.load_activity.ensures.step)
