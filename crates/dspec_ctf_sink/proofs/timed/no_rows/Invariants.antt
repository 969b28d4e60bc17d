use Rattle.std.proofs.Common.{◌≡◌, [], replicate}
use Rattle.dspec_ctf_sink.proofs.timed.no_rows.Given as goal

abbrev pub invariant-loop-count : goal.invariant-loop-count
invariant-loop-count l = l.rows.items ≡ replicate l.count []
