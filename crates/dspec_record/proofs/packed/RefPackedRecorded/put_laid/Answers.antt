-- The words are stored as the text of the header that there is.
use Rattle.std.proofs.Common.{◌≤◌, ◌<◌, ℕ, List, length, sym, ap, subst, arith}
use Rattle.dspec_record.specs.Words.{rounded_up, layout, packed_fields, packed_words, words_in, packed_record, IsClean}
use Rattle.dspec_record.specs.declared.{field.Field.Field, header.Header.Header}
use Rattle.dspec_record.proofs.{Masking.size-in-words, PackedRecords.room-of, PackedRecords.rounds-up, PackedRecords.size-of_text, PackedRecords.text-put}
use Rattle.dspec_record.proofs.packed.RefPackedRecorded.put_laid.Goals as goal

pub put_packed-requires-clause-some : goal.put_packed-requires-clause-some
put_packed-requires-clause-some g c = omega (arith, c.words.ensures.many, c.args.self.now.now.some)

pub put_packed-requires-clause-room : goal.put_packed-requires-clause-room
put_packed-requires-clause-room g c =
    let fs : List Field = packed_fields c.args.self.now.now in
    let h : Header = g.H.KnownHeader.header_is in
    let n : ℕ = c.args.self.now.now.count in
    let Size : ℕ → Type 0 = λ k. rounded_up k 8 ≤ length c.args.out.now in
    let enough = subst Size (size-of_text h c.args.self.now.now.epid c.args.self.now.now.stamp fs (packed_words c.args.self.now.now)) c.requires.room in
    let Enough : Header → Type 0 = λ d. rounded_up (layout d fs).size 8 ≤ length c.args.out.now in
    let room = room-of c.header.result fs n (length c.args.out.now) (rounds-up fs n c.args.self.now.now.some c.args.self.now.now.many) (subst Enough (sym c.header.ensures) enough) in
    omega (arith, room, c.words.ensures.many)

pub returns-clause-put : goal.returns-clause-put
returns-clause-put g c =
    let fs : List Field = packed_fields c.args.self.now.now in
    let Clean : List ℕ → Type 0 = λ ws. IsClean fs ws in
    let some : 0 < words_in fs = omega (arith, c.args.self.now.now.some, c.args.self.now.now.many) in
    text-put g.H.KnownHeader.header_is c.header.result c.args.self.now.now.epid c.args.self.now.now.stamp fs c.words.result.now c.put_packed.new.out _ c.header.ensures
    (ap (packed_record c.args.self.now.now.epid c.args.self.now.now.stamp fs) c.words.ensures.words) (subst Clean (sym c.words.ensures.words) c.args.self.now.now.clean)
    (omega (arith, c.words.ensures.many, c.args.self.now.now.many, size-in-words fs some)) c.put_packed.ensures
