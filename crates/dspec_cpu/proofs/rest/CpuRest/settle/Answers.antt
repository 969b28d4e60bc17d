use Rattle.std.proofs.Common.{◌≡◌, ◌+◌, ◌∙◌, ℕ, sym, subst, arith}
use Rattle.dspec_cpu.specs.Words.{Config, word_at, own_closed, own_closed_slot, last_words, CanCloseAfter, RestHasList}
use Rattle.dspec_cpu.proofs.Closes.{can_close, next_closed}
use Rattle.dspec_cpu.proofs.rest.CpuRest.settle.Goals as goal

pub settle_slot-requires-clause-some : goal.settle_slot-requires-clause-some
settle_slot-requires-clause-some g c =
    let rest = c.args.self.now in
    let was = c.loop-below.invariant in
    let n = c.loop-below.below in
    let some = c.requires.some in
    let shape = g.S.Schema.shape_of rest.schema in
    let closes = can_close shape rest.config rest.cpu (last_words c.args.last.now) some.2 some.1 some.4 some.5 n in
    let q = own_closed shape rest.config (λ s. word_at s some.2) rest.cpu n some.1 in (
      some.0,
      q,
      some.2,
      closes.0,
      was.list some.0 some.1 some.2 some.3 some.4 some.5,
      subst (λ (x : Config × ℕ). CanCloseAfter x.0 x.1 (n + 1) (last_words c.args.last.now) some.2 closes.0 q) (λ i. (sym was.same.config i, sym was.same.number i)) closes.1,
    )

pub loop-below-preserved : goal.loop-below-preserved
loop-below-preserved g c =
    let rest = c.args.self.now in
    let new = c.settle_slot.new.self in
    let was = c.loop-below.invariant in
    let now = c.settle_slot.ensures in
    let n = c.loop-below.below in
    let words = last_words c.args.last.now in
    let shape = g.S.Schema.shape_of rest.schema in
    record {
      same = record {
        schema = now.same.schema ∙ was.same.schema;
        config = now.same.config ∙ was.same.config;
        number = now.same.number ∙ was.same.number;
        held_back = now.same.held_back ∙ was.same.held_back;
        worn = now.same.worn ∙ was.same.worn;
      };
      list = λ handed p log had shows its.
          let closes = can_close shape rest.config rest.cpu words log p shows its n in
          let q = own_closed shape rest.config (λ s. word_at s log) rest.cpu n p in
          let next = now.list handed q log closes.0 (was.list handed p log had shows its)
          (subst (λ (x : Config × ℕ). CanCloseAfter x.0 x.1 (n + 1) words log closes.0 q) (λ i. (sym was.same.config i, sym was.same.number i)) closes.1) in
          let here = subst (λ (x : g.row.S.Denot × Config × ℕ). RestHasList (g.S.Schema.shape_of new.schema) (g.S.Schema.accepted new.schema) (g.S.Schema.text new.schema) new
          handed (own_closed_slot (g.S.Schema.shape_of x.0) x.1 (λ s. word_at s log) x.2 (n + 1) q))
          (λ i. (was.same.schema i, was.same.config i, was.same.number i)) next in
          subst (λ l. RestHasList (g.S.Schema.shape_of new.schema) (g.S.Schema.accepted new.schema) (g.S.Schema.text new.schema) new handed l)
          (next_closed shape rest.config rest.cpu words log p shows its n) here;
    }

pub returns-clause-list : goal.returns-clause-list
returns-clause-list g c = λ handed p log had shows its.
    let rest = c.args.self.now in
    let new = c.loop-below.self in
    let least = c.loop-below-test.false in
    let most = c.loop-below.auto.below-end in
    let all : c.loop-below.below ≡ rest.config.nspec = omega arith in
    subst (λ (n : ℕ). RestHasList (g.S.Schema.shape_of new.schema) (g.S.Schema.accepted new.schema) (g.S.Schema.text new.schema) new handed
    (own_closed (g.S.Schema.shape_of rest.schema) rest.config (λ s. word_at s log) rest.cpu n p)) all
    (c.loop-below.invariant.list handed p log had shows its)
