use Rattle.std.proofs.Common.{◌≡◌, ◌-◌, length, replicate}
use Rattle.std.specs.Prelude.{slice_range}
use Rattle.dspec_ctf.specs.Words.{Spreads}
use Rattle.dspec_ctf.proofs.rows.Rows.take_all_on.Given as goal

abbrev pub invariant-loop-place : goal.invariant-loop-place
invariant-loop-place l = record {
  files : length l.self ≡ length l.fn.self;
  goes : Spreads l.fn.self (slice_range l.records l.from l.place) (replicate (l.place - l.from) l.file) l.self;
}
