use Rattle.std.proofs.Common.{ℕ, true, ◌∙◌, sym, ap, subst}
use Rattle.test_words.specs.Words.{View, MayTry, IsDeciding, known, Unused}
use Rattle.dspec_deeds.specs.declared.calls.CpuOp.TheVariants as op
use Rattle.dspec_table.proofs.Flights.{tries_again}
use Rattle.test_words.proofs.Turns.{attempted, tried_rests}
use Rattle.test_words.proofs.calls.committed.Goals as goal

pub try_word-requires-clause-call : goal.try_word-requires-clause-call
try_word-requires-clause-call c =
    let seat = c.args.seat.now in
    let new = c.load_word-from.new.seat in
    let k = c.args.words.now.config in
    let call = c.args.call.now in
    let from = c.load_word-from.result in
    let to = c.in-Attempt.to in
    subst (λ (n : ℕ). MayTry k (known new) n call 1 from to) (sym c.load_word-from.ensures.seat.1)
    (attempted k (known seat) (known new) seat.cpu call (op.Commit c.args.id) from to c.requires.op (sym c.commit_at.ensures ∙ c.in-Attempt.is)
    (λ to attempts. tries_again k (known seat) (known new) seat.cpu 1 call from to seat.who_is c.requires.may c.load_word-from.ensures.step attempts)).0

pub returns-clause-unused : goal.returns-clause-unused
returns-clause-unused c done =
    let seat = c.args.seat.now in
    let new = c.load_word-from.new.seat in
    let k = c.args.words.now.config in
    let call = c.args.call.now in
    let from = c.load_word-from.result in
    let to = c.in-Attempt.to in
    let same = attempted k (known seat) (known new) seat.cpu call (op.Commit c.args.id) from to c.requires.op (sym c.commit_at.ensures ∙ c.in-Attempt.is)
    (λ to attempts. tries_again k (known seat) (known new) seat.cpu 1 call from to seat.who_is c.requires.may c.load_word-from.ensures.step attempts) in
    let decided = tried_rests k seat.cpu (known new) (known c.try_word.new.seat) call from true (subst IsDeciding (sym c.requires.op) tt)
    (subst (Unused k seat.cpu) (sym same.1) c.requires.unused) c.in-Ok.ensures.tried.step in
    subst (Unused k seat.cpu) (sym (ap (λ (v : View). v.own) c.release_word.ensures.step.2.view)) decided
