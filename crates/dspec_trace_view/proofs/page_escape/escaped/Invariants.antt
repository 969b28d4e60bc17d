use Rattle.std.proofs.Common.{◌≡◌, take}
use Rattle.dspec_trace_view.specs.Words.{escapes_of}
use Rattle.dspec_trace_view.proofs.page_escape.escaped.Given as goal

abbrev pub invariant-loop-byte : goal.invariant-loop-byte
invariant-loop-byte l = l.out.items ≡ escapes_of (take l.byte-index l.json)
