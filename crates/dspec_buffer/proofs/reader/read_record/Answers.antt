use Rattle.std.proofs.{Common.Err, Common.subst, Common.refl, Common.drop, Common.arith, Common.length-drop, lemmas.List.take_rest}
use Rattle.dspec_buffer.specs.Words.{Answers, FaultHere, Misaligned}
use Rattle.dspec_buffer.proofs.{Got.got_record, Got.got_fault, SchemaLaws.laws_from}
use Rattle.dspec_buffer.proofs.reader.read_record.Goals as goal

pub returns-in-Err : goal.returns-in-Err
returns-in-Err g c =
    let s = c.args.schema.now in
    let laws = laws_from (g.met.S.Schema.zero_has_none s) (g.met.S.Schema.shapes_fit s) (g.met.S.Schema.texts_fit s) (g.met.S.Schema.texts_differ s) in
    let rest = take_rest c.args.text.now c.args.at in
    let told = rw rest at c.is_misaligned.ensures in
    let no_fault = c.if-is_misaligned.false in
    let fine : ¬ FaultHere (g.S.Schema.shape_of s) (g.S.Schema.accepted s) (g.S.Schema.text s) Misaligned c.args.at (drop c.args.at c.args.text.now) =
    λ f. let yes_fault = told.1 f in cc in
    let long = length-drop c.args.at c.args.text.now in
    let within = c.requires.within in (
      refl,
      got_fault _ _ _ laws c.in-Err.kind c.args.at (drop c.args.at c.args.text.now)
          (omega arith) c.requires.no_gap fine (subst (λ z. Answers (g.S.Schema.shape_of s) (g.S.Schema.accepted s) (g.S.Schema.text s) z (Err c.in-Err.kind)) rest c.in-Err.ensures),
    )

pub returns : goal.returns
returns g c =
    let s = c.args.schema.now in
    let laws = laws_from (g.met.S.Schema.zero_has_none s) (g.met.S.Schema.shapes_fit s) (g.met.S.Schema.texts_fit s) (g.met.S.Schema.texts_differ s) in
    let rest = take_rest c.args.text.now c.args.at in
    let told = rw rest at c.is_misaligned.ensures in
    let no_fault = c.if-is_misaligned.false in
    let fine : ¬ FaultHere (g.S.Schema.shape_of s) (g.S.Schema.accepted s) (g.S.Schema.text s) Misaligned c.args.at (drop c.args.at c.args.text.now) =
    λ f. let yes_fault = told.1 f in cc in
    got_record _ _ _ laws c.args.text.now c.args.at c.in-Ok.found.0 c.in-Ok.found.1 c.requires.within fine (rw rest at c.in-Ok.ensures)
