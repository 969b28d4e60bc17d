-- The values' words are stored as the text of the header that there is.
use Rattle.std.proofs.Common.{length, sym, arith}
use Rattle.dspec_record.proofs.PackedRecords.{text-put}
use Rattle.dspec_probe.proofs.Firing.{words-of_values, room-for_words, end-near}
use Rattle.dspec_probe.proofs.fired.FiredRecorded.put_laid.Goals as goal

pub overflow_add-count : goal.overflow_add-count
overflow_add-count g c = record { fits = omega (arith, end-near g.F.Fields.fields_are c.args.self.now.end g.met.F.Fields.few c.args.self.now.packed.end_is) }

pub shared_ref_as_front-put_packed : goal.shared_ref_as_front-put_packed
shared_ref_as_front-put_packed g c =
    let words = words-of_values g.F.Fields.fields_are (g.F.Fields.numbers_of c.args.self.now.values) c.args.self.now.words
    c.args.self.now.end g.met.F.Fields.few c.args.self.now.fit c.args.self.now.nine c.args.self.now.packed in
    omega (arith, words.few, c.args.self.now.nine)

pub slice_bounds-put_packed-end : goal.slice_bounds-put_packed-end
slice_bounds-put_packed-end g c =
    let words = words-of_values g.F.Fields.fields_are (g.F.Fields.numbers_of c.args.self.now.values) c.args.self.now.words
    c.args.self.now.end g.met.F.Fields.few c.args.self.now.fit c.args.self.now.nine c.args.self.now.packed in
    sym words.long

pub put_packed-requires-clause-some : goal.put_packed-requires-clause-some
put_packed-requires-clause-some g c =
    let words = words-of_values g.F.Fields.fields_are (g.F.Fields.numbers_of c.args.self.now.values) c.args.self.now.words
    c.args.self.now.end g.met.F.Fields.few c.args.self.now.fit c.args.self.now.nine c.args.self.now.packed in
    omega (arith, words.some, words.long)

pub put_packed-requires-clause-zeros : goal.put_packed-requires-clause-zeros
put_packed-requires-clause-zeros g c =
    (words-of_values g.F.Fields.fields_are (g.F.Fields.numbers_of c.args.self.now.values) c.args.self.now.words
    c.args.self.now.end g.met.F.Fields.few c.args.self.now.fit c.args.self.now.nine c.args.self.now.packed).zeros

pub put_packed-requires-clause-room : goal.put_packed-requires-clause-room
put_packed-requires-clause-room g c =
    let words = words-of_values g.F.Fields.fields_are (g.F.Fields.numbers_of c.args.self.now.values) c.args.self.now.words
    c.args.self.now.end g.met.F.Fields.few c.args.self.now.fit c.args.self.now.nine c.args.self.now.packed in
    room-for_words g.H.KnownHeader.header_is c.header.result g.F.Fields.fields_are (g.F.Fields.numbers_of c.args.self.now.values) _ (length c.args.out.now) c.args.self.now.words
    (record { epid = c.args.self.now.epid; stamp = c.args.self.now.stamp; values = g.F.Fields.numbers_of c.args.self.now.values }) c.header.ensures c.args.self.now.fit words c.requires.room

pub returns-clause-put : goal.returns-clause-put
returns-clause-put g c =
    let words = words-of_values g.F.Fields.fields_are (g.F.Fields.numbers_of c.args.self.now.values) c.args.self.now.words
    c.args.self.now.end g.met.F.Fields.few c.args.self.now.fit c.args.self.now.nine c.args.self.now.packed in
    text-put g.H.KnownHeader.header_is c.header.result c.args.self.now.epid c.args.self.now.stamp g.F.Fields.fields_are _ c.put_packed.new.out
    (record { epid = c.args.self.now.epid; stamp = c.args.self.now.stamp; values = g.F.Fields.numbers_of c.args.self.now.values }) c.header.ensures
    (words.record_is c.args.self.now.epid c.args.self.now.stamp) words.clean words.room c.put_packed.ensures
