use Rattle.std.proofs.Common.{All}
use Rattle.dspec_trace_view.specs.Words.{IsRecordOf}
use Rattle.dspec_trace_view.proofs.paths.KeptPaths.records.Given as goal

abbrev pub invariant-loop-mark : goal.invariant-loop-mark
invariant-loop-mark l = All (IsRecordOf l.path) l.records.items
