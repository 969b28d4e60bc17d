use Rattle.std.proofs.Common.{ℕ, ◌∙◌, sym, subst}
use Rattle.dspec_deeds.specs.declared.calls.CpuOp.TheVariants as op
use Rattle.test_words.specs.Words.{MayTry, MayLoad, known}
use Rattle.dspec_table.proofs.Flights.{tries_again}
use Rattle.test_words.proofs.Turns.{attempted, shows_word}
use Rattle.test_words.proofs.words.joining.both_joined.Goals as goal

pub try_word-requires-clause-call : goal.try_word-requires-clause-call
try_word-requires-clause-call c =
    let seat = c.args.first.now in
    let new = c.shown-ours.new.seat in
    let k = c.args.words.now.config in
    let call = c.args.call.now in
    let from = c.shown-ours.result in
    subst (λ (n : ℕ). MayTry k (known new) n call 1 from c.in-Attempt.first_to) (sym c.shown-ours.ensures.seat.1)
    (attempted k (known seat) (known new) seat.cpu call (op.Speculate c.args.id c.args.rec) from c.in-Attempt.first_to c.requires.op
    (sym c.speculate_at.ensures ∙ c.in-Attempt.is) c.shown-ours.ensures.next).0

pub try_word-requires-2-clause-call : goal.try_word-requires-2-clause-call
try_word-requires-2-clause-call c =
    let seat = c.args.second.now in
    let new = c.shown-theirs.new.seat in
    let k = c.args.words.now.config in
    let call = c.args.call.now in
    let from = c.shown-theirs.result in
    subst (λ (n : ℕ). MayTry k (known new) n call 1 from c.in-Attempt-speculate_at.second_to) (sym c.shown-theirs.ensures.seat.1)
    (attempted k (known seat) (known new) seat.cpu call (op.Speculate c.args.id c.args.rec) from c.in-Attempt-speculate_at.second_to c.requires.op
    (sym c.speculate_at-2.ensures ∙ c.in-Attempt-speculate_at.is) c.shown-theirs.ensures.next).0

pub try_word-requires-3-clause-call : goal.try_word-requires-3-clause-call
try_word-requires-3-clause-call c =
    let seat = c.shown-theirs.new.seat in
    let new = c.try_word-2.new.seat in
    let k = c.args.words.now.config in
    let call = c.args.call.now in
    let from = c.in-Err.word in
    let shown = c.shown-theirs.result in
    let may = (attempted k (known c.args.second.now) (known seat) c.args.second.now.cpu call (op.Speculate c.args.id c.args.rec) shown c.in-Attempt-speculate_at.second_to c.requires.op
    (sym c.speculate_at-2.ensures ∙ c.in-Attempt-speculate_at.is) c.shown-theirs.ensures.next).0.0 in
    let may = subst (λ (n : ℕ). MayLoad k (known seat) n call 1 call.op) (sym c.shown-theirs.ensures.seat.1) may in
    subst (λ (n : ℕ). MayTry k (known new) n call 1 from c.in-Attempt-speculate_at-2.again) (sym c.try_word-2.ensures.tried.seat.1)
    (attempted k (known seat) (known new) seat.cpu call (op.Speculate c.args.id c.args.rec) from c.in-Attempt-speculate_at-2.again c.requires.op
    (sym c.speculate_at-3.ensures ∙ c.in-Attempt-speculate_at-2.is)
    (λ to attempts. tries_again k (known seat) (known new) seat.cpu 1 call from to seat.who_is may
    (shows_word (known seat) (known new) call c.args.id c.args.rec from c.requires.op c.in-Err.ensures.tried.step) attempts)).0
