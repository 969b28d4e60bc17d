-- What the loop has appended.
use Rattle.std.proofs.Common.{List, reverse}
use Rattle.dspec_core.specs.Words.{Piece, records}
use Rattle.dspec_deeds.proofs.Walks.{Walked, Grew}
use Rattle.dspec_core.proofs.machine.walking.append_records.Given as goal

abbrev pub invariant-loop : goal.invariant-loop
invariant-loop g l =
    Grew l.initial.to l.to
    × ((ps : List Piece) → g.B.TraceBuffer.has l.buffer l.schema ps → Walked (g.B.TraceBuffer.has_ahead l.buffer l.schema) l.initial.to (reverse (records ps)) l.to l.cursor l.counter)
