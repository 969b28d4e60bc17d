use Rattle.std.proofs.Common.{◌≤◌, ◌*◌}
use Rattle.dspec_c.specs.Words.{AreTended}
use Rattle.dspec_c.proofs.tending.tend_all.Given as goal

-- each so far was tended, and a service settles no more than a number of four bytes
abbrev pub invariant-loop-cpu : goal.invariant-loop-cpu
invariant-loop-cpu l = record {
  tended : AreTended l.cpu l.settled l.fn.places.items l.places.items;
  few : l.settled ≤ 4294967295 * l.cpu;
}
