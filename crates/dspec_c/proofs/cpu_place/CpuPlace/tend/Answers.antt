use Rattle.std.proofs.Common.{Option, sym, subst}
use Rattle.dspec_c.specs.Words.{IsPlaceWith, CpuSide}
use Rattle.dspec_c.proofs.Tends.{not_there}
use Rattle.dspec_c.proofs.cpu_place.CpuPlace.tend.Goals as goal

pub returns-then-not-is_in : goal.returns-then-not-is_in
returns-then-not-is_in c = record { looked = c.is_in.new.self; came = c.if-not-is_in.ensures.came; served = not_there _ c.if-not-is_in.ensures.looked }

pub serve-requires-clause-place : goal.serve-requires-clause-place
serve-requires-clause-place c = subst (λ (o : Option CpuSide). IsPlaceWith c.args.shared.now o) (sym c.if-not-is_in.ensures.came.first) c.requires

pub serve-requires-clause-inside : goal.serve-requires-clause-inside
serve-requires-clause-inside c = sym c.if-not-is_in.ensures.looked

pub returns : goal.returns
returns c = record { looked = c.is_in.new.self; came = c.if-not-is_in.ensures.came; served = c.serve.ensures }
