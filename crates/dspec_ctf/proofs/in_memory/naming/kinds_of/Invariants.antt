use Rattle.std.proofs.Common.{◌≡◌, length, map, take}
use Rattle.dspec_ctf.specs.Words.{kind_number}
use Rattle.dspec_ctf.proofs.in_memory.naming.kinds_of.Given as goal

-- the kinds so far are those of the numbers so far
abbrev pub invariant-loop-place : goal.invariant-loop-place
invariant-loop-place l = record {
  eight : length l.kinds ≡ 8;
  are : map kind_number (take l.place l.kinds) ≡ take l.place l.numbers;
}
