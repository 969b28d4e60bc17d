use Rattle.std.proofs.{Common.◌≡◌, Common.List, Common.Some, Common.sym, Common.subst, Common.arith, lemmas.Option.slice_get_within}
use Rattle.std.specs.Prelude.{slice_get}
use Rattle.dspec.specs.Words.{Cpu, IsSteady}
use Rattle.dspec.proofs.Standing.{one_more_stands}
use Rattle.dspec.proofs.running.all_stand.Goals as goal

pub loop-each-preserved : goal.loop-each-preserved
loop-each-preserved g c =
    one_more_stands (λ (x : Cpu g.row.S.Denot). IsSteady (g.S.Schema.shape_of x.schema) (g.S.Schema.accepted x.schema) (g.S.Schema.text x.schema) x)
    c.deref-each-items.result.now c.loop-each.each-index c.each-item.result c.each-item.is c.loop-each.invariant c.invariant.ensures.steady

pub returns : goal.returns
returns g c = λ n cpu e.
    let there = subst (λ (xs : List (Cpu g.row.S.Denot)). slice_get xs n ≡ Some cpu) (sym c.deref-each-items.ensures.value) e in
    let within = slice_get_within c.deref-each-items.result.now n cpu there in
    let over = c.loop-each-test.false in
    c.loop-each.invariant n cpu (omega arith) there
