use Rattle.std.proofs.Common.{arith}
use Rattle.dspec_c.proofs.Counted.{told_counts}
use Rattle.dspec_c.proofs.rest_calls.report_to.Goals as goal

pub returns : goal.returns
returns c = told_counts _ c.args.cpu _ c.refused.result c.report.result.now _ _ (omega arith) c.refused.ensures c.report.ensures c.of.ensures
