use Rattle.std.proofs.Common.{ℕ, true, false, ◌∙◌, sym, subst}
use Rattle.dspec_deeds.specs.declared.calls.CpuOp.TheVariants as op
use Rattle.test_words.specs.Words.{MayTry, IsDeciding, known, Unused}
use Rattle.test_words.proofs.Turns.{attempted, tried_rests}
use Rattle.test_words.proofs.words.deciding.both_decided.Goals as goal

pub try_word-requires-clause-call : goal.try_word-requires-clause-call
try_word-requires-clause-call c =
    let seat = c.args.second.now in
    let new = c.shown-theirs.new.seat in
    let k = c.args.words.now.config in
    let call = c.args.discard.now in
    let from = c.shown-theirs.result in
    let to = c.in-Attempt-discard_at.thrown in
    subst (λ (n : ℕ). MayTry k (known new) n call 1 from to) (sym c.shown-theirs.ensures.seat.1)
    (attempted k (known seat) (known new) seat.cpu call (op.Discard c.args.id) from to c.requires.discard (sym c.discard_at.ensures ∙ c.in-Attempt-discard_at.is) c.shown-theirs.ensures.next).0

pub try_word-requires-2-clause-call : goal.try_word-requires-2-clause-call
try_word-requires-2-clause-call c =
    let seat = c.args.first.now in
    let new = c.shown-ours.new.seat in
    let k = c.args.words.now.config in
    let call = c.args.commit.now in
    let from = c.shown-ours.result in
    let to = c.in-Attempt.to in
    subst (λ (n : ℕ). MayTry k (known new) n call 1 from to) (sym c.shown-ours.ensures.seat.1)
    (attempted k (known seat) (known new) seat.cpu call (op.Commit c.args.id) from to c.requires.commit (sym c.commit_at.ensures ∙ c.in-Attempt.is) c.shown-ours.ensures.next).0

pub returns-clause-rests : goal.returns-clause-rests
returns-clause-rests c =
    let k = c.args.words.now.config in
    let first = c.args.first.now in
    let second = c.args.second.now in
    let ours = attempted k (known first) (known c.shown-ours.new.seat) first.cpu c.args.commit.now (op.Commit c.args.id) c.shown-ours.result c.in-Attempt.to c.requires.commit
    (sym c.commit_at.ensures ∙ c.in-Attempt.is) c.shown-ours.ensures.next in
    let theirs = attempted k (known second) (known c.shown-theirs.new.seat) second.cpu c.args.discard.now (op.Discard c.args.id) c.shown-theirs.result c.in-Attempt-discard_at.thrown
    c.requires.discard (sym c.discard_at.ensures ∙ c.in-Attempt-discard_at.is) c.shown-theirs.ensures.next in (
      tried_rests k first.cpu (known c.shown-ours.new.seat) (known c.try_word-2.new.seat) c.args.commit.now c.in-Err.word false (subst IsDeciding (sym c.requires.commit) tt)
          (subst (Unused k first.cpu) (sym ours.1) c.requires.first.2) c.in-Err.ensures.tried.step,
      tried_rests k second.cpu (known c.shown-theirs.new.seat) (known c.try_word.new.seat) c.args.discard.now c.shown-theirs.result true (subst IsDeciding (sym c.requires.discard) tt)
          (subst (Unused k second.cpu) (sym theirs.1) c.requires.second.2) c.in-Ok.ensures.tried.step,
    )
