-- The numbers of both parts, one after the other.
use Rattle.std.proofs.Common.{length, ap, arith, length-append}
use Rattle.dspec_probe.proofs.Parts.{fits-long, fits-append, both-back}
use Rattle.dspec_probe.proofs.part.Tuple2Part.numbers_after.Goals as goal

pub numbers_after-requires-2 : goal.numbers_after-requires-2
numbers_after-requires-2 g c =
    let fs = g.V.Part.fields_are in
    let gs = g.W.Part.fields_are in
    let vs = g.V.Part.numbers_of c.args.self.0 in
    let is = c.numbers_after.ensures in
    omega (arith, c.requires, ap length is.holds, length-append c.args.others vs, length-append fs gs, fits-long fs vs is.fits)

pub returns-clause-fits : goal.returns-clause-fits
returns-clause-fits g c =
    fits-append g.V.Part.fields_are g.W.Part.fields_are (g.V.Part.numbers_of c.args.self.0) (g.W.Part.numbers_of c.args.self.1)
    c.numbers_after.ensures.fits c.numbers_after-2.ensures.fits

pub returns-clause-back : goal.returns-clause-back
returns-clause-back g c =
    let fs = g.V.Part.fields_are in
    let vs = g.V.Part.numbers_of c.args.self.0 in
    both-back g.V.Part.values_of g.W.Part.values_of fs vs (g.W.Part.numbers_of c.args.self.1) c.args.self.0 c.args.self.1
    (fits-long fs vs c.numbers_after.ensures.fits) c.numbers_after.ensures.back c.numbers_after-2.ensures.back
