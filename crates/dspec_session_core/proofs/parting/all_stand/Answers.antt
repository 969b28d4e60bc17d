use Rattle.std.proofs.{Common.◌≡◌, Common.List, Common.Some, Common.sym, Common.subst, Common.arith, lemmas.Option.slice_get_within}
use Rattle.std.specs.Prelude.{slice_get}
use Rattle.dspec_session_core.specs.Words.{Cpu, IsSteady}
use Rattle.dspec_session_core.proofs.Standing.{one_more_stands}
use Rattle.dspec_session_core.proofs.parting.all_stand.Goals as goal

pub loop-cpu-preserved : goal.loop-cpu-preserved
loop-cpu-preserved g c =
    one_more_stands (λ (x : Cpu g.row.S.Denot). IsSteady (g.S.Schema.shape_of x.schema) (g.S.Schema.accepted x.schema) (g.S.Schema.text x.schema) x)
    c.deref-cpu-items.result.now c.loop-cpu.cpu-index c.cpu-item.result c.cpu-item.is c.loop-cpu.invariant c.invariant.ensures.steady

pub returns : goal.returns
returns g c = λ n cpu e.
    let there = subst (λ (xs : List (Cpu g.row.S.Denot)). slice_get xs n ≡ Some cpu) (sym c.deref-cpu-items.ensures.value) e in
    let within = slice_get_within c.deref-cpu-items.result.now n cpu there in
    let over = c.loop-cpu-test.false in
    c.loop-cpu.invariant n cpu (omega arith) there
