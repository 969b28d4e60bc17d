use Rattle.std.proofs.Common.{List}
use Rattle.dspec_cpu.specs.Words.{Deed, word_at, own_closed, last_words, Shows, IsSameRest, RestHasList, IsPartOf, Batch}
use Rattle.dspec_cpu.proofs.rest.CpuRest.settle.Given as goal

-- the slots up to this one were settled
abbrev pub invariant-loop-below : goal.invariant-loop-below
invariant-loop-below g l =
    record {
      same : IsSameRest l.fn.self l.self;
      list : (handed : List Batch) (p log : List Deed) → RestHasList (g.S.Schema.shape_of l.fn.self.schema) (g.S.Schema.accepted l.fn.self.schema) (g.S.Schema.text l.fn.self.schema) l.fn.self handed p
          → Shows l.fn.self.config (last_words l.last) log → IsPartOf l.fn.self.config l.fn.self.cpu log p
          → RestHasList (g.S.Schema.shape_of l.self.schema) (g.S.Schema.accepted l.self.schema) (g.S.Schema.text l.self.schema) l.self handed
          (own_closed (g.S.Schema.shape_of l.fn.self.schema) l.fn.self.config (λ s. word_at s log) l.fn.self.cpu l.below p);
    }
