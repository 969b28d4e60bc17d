use Rattle.std.proofs.Common.{sym, subst}
use Rattle.dspec_c.specs.Words.{IsTended}
use Rattle.dspec_c.proofs.Tends.{place_here, tends_one}
use Rattle.dspec_c.proofs.tending.tend_one.Goals as goal

pub tend-requires : goal.tend-requires
tend-requires c = place_here c.args.shared.now c.args.places.now.items c.args.cpu c.index_mut.result.now c.requires.some c.index_mut.ensures.value c.requires.place

pub returns-clause-tends : goal.returns-clause-tends
returns-clause-tends c = tends_one c.args.cpu c.from.result c.args.places.now.items c.index_mut.result.now c.tend.new.self c.requires.some c.index_mut.ensures.value
    (subst (λ n. IsTended n c.index_mut.result.now c.tend.new.self) (sym c.from.ensures) c.tend.ensures)
