use Rattle.std.proofs.Common.{◌≡◌, ℕ, true, arith}
use Rattle.dspec_session.specs.{Words.LineFollows, Words.order_at, declared.demonstration.lines.DemoLine.DemoLine}
use Rattle.dspec_session.proofs.{Ended.line_told, Fours.at_each}
use Rattle.dspec_session.proofs.demonstration.ending.tell.Goals as goal

pub returns-clause-balanced : goal.returns-clause-balanced
returns-clause-balanced c =
    let ls = c.end-closed.result in
    let told = c.end-closed.ensures.told in
    let four = c.end-closed.ensures.four in
    let a = c.line_of in
    let b = c.line_of-2 in
    let d = c.line_of-3 in
    let e = c.line_of-4 in
    at_each (λ (i : ℕ) (line : DemoLine). (line.cpu ≡ i) × (line.offered ≡ 200) × (line.balanced ≡ true)) a.result b.result d.result e.result
    (line_told ls 200 0 a.result (omega arith) told a.ensures.cpu a.ensures.offered a.ensures.balanced)
    (line_told ls 200 1 b.result (omega arith) told b.ensures.cpu b.ensures.offered b.ensures.balanced)
    (line_told ls 200 2 d.result (omega arith) told d.ensures.cpu d.ensures.offered d.ensures.balanced)
    (line_told ls 200 3 e.result (omega arith) told e.ensures.cpu e.ensures.offered e.ensures.balanced)

pub returns-clause-ordered : goal.returns-clause-ordered
returns-clause-ordered c =
    let ls = c.end-closed.result in
    let a = c.line_of in
    let b = c.line_of-2 in
    let d = c.line_of-3 in
    let e = c.line_of-4 in (
      ls,
      c.end-closed.ensures.closed,
      at_each (λ (i : ℕ) (line : DemoLine). LineFollows c.args.schema.now ls i (order_at c.args.orders i) line) a.result b.result d.result e.result
          a.ensures.ordered b.ensures.ordered d.ensures.ordered e.ensures.ordered,
    )
