-- There are nine words at most, and eight fields.
use Rattle.std.proofs.{Common.◌≡◌, Common.◌∙◌, Common.length, Common.sym, Common.arith, lemmas.List.length-take-le}
use Rattle.dspec_record.specs.Words.{packed_fields, packed_words}
use Rattle.dspec_record.proofs.{Masking.words_in-most, PackedRecords.few-taken}
use Rattle.dspec_record.proofs.packed.RefPackedRecorded.to_rec.Goals as goal

pub slice_bounds-fields-end : goal.slice_bounds-fields-end
slice_bounds-fields-end g c = omega (arith, c.args.self.now.now.few, c.args.self.now.now.eight)

pub slice_bounds-unpacked-end : goal.slice_bounds-unpacked-end
slice_bounds-unpacked-end g c = sym (length-take-le c.args.self.now.now.len c.args.self.now.now.fields (omega (arith, c.args.self.now.now.few, c.args.self.now.now.eight)))

pub slice_bounds-words-end : goal.slice_bounds-words-end
slice_bounds-words-end g c =
    let few = words_in-most (packed_fields c.args.self.now.now) (few-taken c.args.self.now.now.len c.args.self.now.now.fields c.args.self.now.now.few) in
    omega (arith, c.args.self.now.now.many, c.args.self.now.now.nine, few)

pub slice_bounds-unpacked-end-2 : goal.slice_bounds-unpacked-end-2
slice_bounds-unpacked-end-2 g c =
    let few = words_in-most (packed_fields c.args.self.now.now) (few-taken c.args.self.now.now.len c.args.self.now.now.fields c.args.self.now.now.few) in
    sym (length-take-le c.args.self.now.now.count c.args.self.now.now.words (omega (arith, few, c.args.self.now.now.many, c.args.self.now.now.nine)))

pub unpacked-requires-clause-many : goal.unpacked-requires-clause-many
unpacked-requires-clause-many g c =
    let few = words_in-most (packed_fields c.args.self.now.now) (few-taken c.args.self.now.now.len c.args.self.now.now.fields c.args.self.now.now.few) in
    let long : length (packed_words c.args.self.now.now) ≡ c.args.self.now.now.count =
    length-take-le c.args.self.now.now.count c.args.self.now.now.words (omega (arith, few, c.args.self.now.now.many, c.args.self.now.now.nine)) in
    long ∙ c.args.self.now.now.many
