use Rattle.std.proofs.Common.{◌≡◌, ◌≤◌, ◌-◌}
use Rattle.dspec_cpu.specs.Words.{known, HasList, IsReady, IsSameCpu, KeepsBatches, Settled}
use Rattle.dspec_cpu.proofs.parts.CpuParts.settle_slots.Given as goal

-- the slots below this one were served, and the settled ones counted
abbrev pub invariant-loop-slot : goal.invariant-loop-slot
invariant-loop-slot g l =
    record {
      from : 1 ≤ l.slot;
      ready : IsReady (g.S.Schema.shape_of l.self.schema) (g.S.Schema.accepted l.self.schema) (g.S.Schema.text l.self.schema) l.words l.self;
      same : IsSameCpu l.fn.self l.self × (l.self.side.counts.worn ≡ l.fn.self.side.counts.worn);
      leaves : KeepsBatches l.fn.self l.self;
      settled : Settled l.fn.self.cpu (l.slot - 1) l.settled
          (λ p. HasList (g.S.Schema.shape_of l.fn.self.schema) (g.S.Schema.accepted l.fn.self.schema) (g.S.Schema.text l.fn.self.schema) l.fn.self p) (known l.fn.self.seat)
          (λ p. HasList (g.S.Schema.shape_of l.self.schema) (g.S.Schema.accepted l.self.schema) (g.S.Schema.text l.self.schema) l.self p) (known l.self.seat);
    }
