-- As many are left in the ring as rounds are left, what came out before was done, and what was seen before is among both.
use Rattle.std.proofs.Common.{◌≡◌, ◌+◌, ◌++◌, length}
use mathlib.Core.List.{IsPrefix}
use Rattle.rtrb.specs.Ring.{known_items}
use Rattle.dspec_threads.specs.Words.{HasList, place_of, SettlesNext, seen_by, settled_by, settled_from}
use Rattle.dspec_threads.proofs.settling.Settler.settle.Given as goal

abbrev pub invariant-loop : goal.invariant-loop
invariant-loop g l = record {
  left : l.counter + length (known_items l.self.coming) ≡ l.count;
  seen : IsPrefix (settled_by l.fn.self ++ seen_by l.fn.self) (settled_by l.self ++ seen_by l.self);
  same : place_of l.lane ≡ place_of l.fn.lane;
  ring : settled_from l.self ≡ settled_from l.fn.self;
  settled : SettlesNext (λ cpu p. HasList (g.S.Schema.shape_of cpu.schema) (g.S.Schema.accepted cpu.schema) (g.S.Schema.text cpu.schema) cpu p)
      g.J.Judging.may (settled_by l.fn.self) (settled_by l.self) l.counter l.fn.lane l.lane;
}
