-- Both parts, one after the other.
use Rattle.dspec_probe.proofs.Parts.{first-free, later-free, both-packed, fits-append}
use Rattle.dspec_probe.proofs.part.Tuple2Part.pack_after.Goals as goal

pub pack_after-next-requires : goal.pack_after-next-requires
pack_after-next-requires g c = first-free c.args.end g.V.Part.fields_are g.W.Part.fields_are c.args.words.now c.requires

pub pack_after-requires : goal.pack_after-requires
pack_after-requires g c =
    later-free c.args.end c.pack_after-next.result g.V.Part.fields_are g.W.Part.fields_are (g.V.Part.numbers_of c.args.self.0) c.args.words.now c.pack_after-next.new.words
    c.requires c.pack_after-next.ensures.packed c.pack_after-next.ensures.below

pub returns-clause-packed : goal.returns-clause-packed
returns-clause-packed g c =
    both-packed c.args.end c.pack_after-next.result c.pack_after.result g.V.Part.fields_are g.W.Part.fields_are (g.V.Part.numbers_of c.args.self.0) (g.W.Part.numbers_of c.args.self.1)
    c.args.words.now c.pack_after-next.new.words c.pack_after.new.words c.pack_after-next.ensures.fits c.pack_after-next.ensures.packed c.pack_after.ensures.packed

pub returns-clause-fits : goal.returns-clause-fits
returns-clause-fits g c =
    fits-append g.V.Part.fields_are g.W.Part.fields_are (g.V.Part.numbers_of c.args.self.0) (g.W.Part.numbers_of c.args.self.1)
    c.pack_after-next.ensures.fits c.pack_after.ensures.fits
