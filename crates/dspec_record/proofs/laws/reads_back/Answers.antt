use Rattle.dspec_record.proofs.ReadsBack.{KeepsLaws, reads_back_by_laws}
use Rattle.dspec_record.proofs.laws.reads_back.Goals as goal

pub returns : goal.returns
returns g c =
    let s = c.args._schema.now in
    let laws : KeepsLaws (g.S.Schema.shape_of s) (g.S.Schema.accepted s) (g.S.Schema.text s) = record {
      zero_has_none = g.met.S.Schema.zero_has_none s;
      shapes_fit = g.met.S.Schema.shapes_fit s;
      texts_fit = g.met.S.Schema.texts_fit s;
      texts_differ = g.met.S.Schema.texts_differ s;
    } in
    λ r rest answer ok is.
    reads_back_by_laws (g.S.Schema.shape_of s) (g.S.Schema.accepted s) (g.S.Schema.text s) laws r rest answer ok is
