use Rattle.std.proofs.{Common.◌≡◌, Common.List, Common.Some, Common.sym, Common.subst, Common.arith, lemmas.Option.slice_get_within}
use Rattle.std.specs.Prelude.{slice_get}
use Rattle.dspec_threads.specs.Words.{Cpu, IsSteady}
use Rattle.dspec.proofs.Standing.{one_more_stands}
use Rattle.dspec_threads.proofs.running.tell_all.Goals as goal

pub loop-one-preserved : goal.loop-one-preserved
loop-one-preserved g c =
    one_more_stands (λ (x : Cpu g.row.S.Denot). IsSteady (g.S.Schema.shape_of x.schema) (g.S.Schema.accepted x.schema) (g.S.Schema.text x.schema) x)
    c.deref-one-items.result.now c.loop-one.one-index c.one-item.result c.one-item.is c.loop-one.invariant c.invariant.ensures.steady

pub returns : goal.returns
returns g c = λ n cpu e.
    let there = subst (λ (xs : List (Cpu g.row.S.Denot)). slice_get xs n ≡ Some cpu) (sym c.deref-one-items.ensures.value) e in
    let within = slice_get_within c.deref-one-items.result.now n cpu there in
    let over = c.loop-one-test.false in
    c.loop-one.invariant n cpu (omega arith) there
