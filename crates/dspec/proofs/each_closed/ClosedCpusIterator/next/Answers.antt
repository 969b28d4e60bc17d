use Rattle.std.proofs.{Common.◌<◌, Common.length, Common.arith, lemmas.Bool.Decides.nat_tests}
use Rattle.dspec.proofs.LeftAfter.{fewer, shown_first}
use Rattle.dspec.proofs.each_closed.ClosedCpusIterator.next.Goals as goal

pub returns-clause-steps : goal.returns-clause-steps
returns-clause-steps c = grind (arith, nat_tests, shown_first, c.closed_cpu.ensures)

pub returns-clause-goes : goal.returns-clause-goes
returns-clause-goes c =
    let xs = c.args.self.now.closed.now in
    let n = c.args.self.now.next in
    let within : n < length xs = omega arith in
    let e = c.closed_cpu.ensures in
    let less = fewer xs n c.closed_cpu.result within e.number e.sealed e.last e.report in
    record {
      on = λ _. (tt, tt, less);
      keeps = tt;
      rests = λ _. tt;
    }
