use Rattle.std.proofs.Common.{◌≡◌, true, take}
use Rattle.std.specs.List.{list_all}
use Rattle.dspec_c.specs.Words.{KeepAll, held_in_each, is_cpu_in}
use Rattle.dspec_c.proofs.closing.have_cpus.Given as goal

-- each so far has a CPU, and all have what they had
abbrev pub invariant-loop-at : goal.invariant-loop-at
invariant-loop-at l = record {
  leave : KeepAll l.fn.cpus l.cpus;
  cpus : list_all is_cpu_in (take l.at (held_in_each l.fn.cpus)) ≡ true;
}
