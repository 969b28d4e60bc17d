use Rattle.std.proofs.Common.{◌∙◌, ap, take}
use Rattle.std.specs.List.{list_any}
use Rattle.dspec_trace_view.specs.Words.{is_markup}
use Rattle.dspec_trace_view.proofs.Escaping.{plain}
use Rattle.dspec_trace_view.proofs.page_escape.escaped.Goals as goal

pub returns-clause-plain : goal.returns-clause-plain
returns-clause-plain c = ap (list_any is_markup) c.loop-byte.invariant ∙ plain (take c.loop-byte.byte-index c.args.json.now)
