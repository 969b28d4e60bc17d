-- Whoever tells the records that are ahead has told all.
use Rattle.std.specs.Fmt.{WritesText}
use Rattle.dspec.specs.Words.{ToldInTurn, told_line}
use Rattle.dspec.proofs.text_sink.tell_all.Given as goal

abbrev pub invariant-loop-rec : goal.invariant-loop-rec
invariant-loop-rec g l = record {
  can_next : (goal.iterator-loop-rec g).can_next l.rec-iterator;
  is_finite : (goal.iterator-loop-rec g).is_finite l.rec-iterator;
  ahead : (v : _) → ToldInTurn (λ w r u. WritesText g.W.Write.write_str_gives w (told_line l.fn.probes l.fn.schema.header l.fn.cpu r) u) l.out l.rec-iterator v
      → ToldInTurn (λ w r u. WritesText g.W.Write.write_str_gives w (told_line l.fn.probes l.fn.schema.header l.fn.cpu r) u) l.initial.out l.fn.came v;
}
