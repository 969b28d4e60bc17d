-- There are nine words at most.
use Rattle.std.proofs.{Common.◌≡◌, Common.length, Common.arith, lemmas.List.length-take-le}
use Rattle.dspec_record.specs.Words.{packed_fields, packed_words}
use Rattle.dspec_record.proofs.{Masking.words_in-most, PackedRecords.few-taken, PackedRecords.first-zeros}
use Rattle.dspec_record.proofs.packed.Packed.words.Goals as goal

pub shared_ref_as_front-result : goal.shared_ref_as_front-result
shared_ref_as_front-result g c = omega (arith, c.args.self.now.many, words_in-most (packed_fields c.args.self.now) (few-taken c.args.self.now.len c.args.self.now.fields c.args.self.now.few))

pub returns-clause-many : goal.returns-clause-many
returns-clause-many g c =
    let few = words_in-most (packed_fields c.args.self.now) (few-taken c.args.self.now.len c.args.self.now.fields c.args.self.now.few) in
    length-take-le c.args.self.now.count c.args.self.now.words (omega (arith, few, c.args.self.now.many, c.args.self.now.nine))

pub returns-clause-zeros : goal.returns-clause-zeros
returns-clause-zeros g c =
    let few = words_in-most (packed_fields c.args.self.now) (few-taken c.args.self.now.len c.args.self.now.fields c.args.self.now.few) in
    let many : length (packed_words c.args.self.now) ≡ c.args.self.now.count =
    length-take-le c.args.self.now.count c.args.self.now.words (omega (arith, few, c.args.self.now.many, c.args.self.now.nine)) in
    first-zeros (packed_fields c.args.self.now) (packed_words c.args.self.now) (omega (arith, many, c.args.self.now.some)) c.args.self.now.clean
