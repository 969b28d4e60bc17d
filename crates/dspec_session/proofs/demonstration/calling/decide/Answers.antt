-- The decision that was asked for is the one that was made.
use Rattle.std.proofs.Common.{List, ◌++◌, sym, subst}
use Rattle.dspec_session.specs.Words.{Deed, decided_deeds, number_in, Has, decision_of}
use Rattle.dspec_session.proofs.demonstration.calling.decide.Goals as goal

pub returns-then-commits-clause-decides : goal.returns-then-commits-clause-decides
returns-then-commits-clause-decides c =
    let d = c.commit.ensures.does.decides in
    let old = c.args.cpu.now in
    let id = c.args.id in (
      d.alone,
      c.commit.result,
      subst (λ b. (p : List Deed) → Has old p → Has c.commit.new.self (decided_deeds (decision_of b (number_in old) id) id.slot d.alone c.commit.result ++ p)) (sym c.if-commits.true) d.list,
    )

pub returns-else-commits-clause-decides : goal.returns-else-commits-clause-decides
returns-else-commits-clause-decides c =
    let d = c.discard.ensures.does.decides in
    let old = c.args.cpu.now in
    let id = c.args.id in (
      d.alone,
      c.discard.result,
      subst (λ b. (p : List Deed) → Has old p → Has c.discard.new.self (decided_deeds (decision_of b (number_in old) id) id.slot d.alone c.discard.result ++ p)) (sym c.if-commits.false) d.list,
    )
