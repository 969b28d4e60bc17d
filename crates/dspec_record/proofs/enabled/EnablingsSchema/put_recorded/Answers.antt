-- The text is that of the record's own enabling, whichever the header is.
use Rattle.std.proofs.Common.{◌≡◌, ◌≤◌, ◌+◌, IsTrue, List, ℕ, Some, length, take, sym, ◌∙◌, ap, arith}
use Rattle.dspec_record.specs.Words.{Record, EnabledRows, layout, record_text, table_accepts, table_text, enabling_of, enabled}
use Rattle.dspec_record.specs.declared.{field.Field.Field, header.Header.Header}
use Rattle.dspec_record.proofs.Gets.{enabled-row, length-accepted, table_text-is}
use Rattle.dspec_record.proofs.enabled.EnablingsSchema.put_recorded.Goals as goal

-- the row of an accepted record
record Row (e : EnabledRows) (r : Record) (fs : List Field) (h : Header) : Type 0 where
  size : length (table_text e.header (enabled e.rows) r) ≡ (layout h fs).size
  text : table_text e.header (enabled e.rows) r ≡ record_text h fs r

row : (e : EnabledRows) (r : Record) (found fs : List Field) (h : Header) → e.header ≡ h → Some found ≡ enabling_of e.rows r.epid → fs ≡ found → length fs ≤ 8
    → IsTrue (table_accepts e.header (enabled e.rows) r) → Row e r fs h
row e r found fs h is at same few accepted =
    let of = enabled-row e.rows r.epid found fs at same few in
    record {
      size = length-accepted e.header (enabled e.rows) fs r of accepted ∙ ap (λ d. (layout d fs).size) is;
      text = table_text-is e.header (enabled e.rows) fs r of ∙ ap (λ d. record_text d fs r) is;
    }

room : (e : EnabledRows) (r : Record) (fs : List Field) (h : Header) (out : List ℕ) → Row e r fs h
    → length (table_text e.header (enabled e.rows) r) + 8 ≤ length out → (layout h fs).size + 8 ≤ length out
room e r fs h out of enough = omega (arith, of.size, enough)

put : (e : EnabledRows) (r : Record) (fs : List Field) (h : Header) (out : List ℕ) → Row e r fs h → take (layout h fs).size out ≡ record_text h fs r
    → take (length (table_text e.header (enabled e.rows) r)) out ≡ table_text e.header (enabled e.rows) r
put e r fs h out of written = ap (λ n. take n out) of.size ∙ written ∙ sym of.text

pub put_record-requires-clause-room : goal.put_record-requires-clause-room
put_record-requires-clause-room g c =
    room c.args.self.now (g.R.Recorded.as_record c.args.rec) c.fields.result.now _ c.args.out.now
    (row c.args.self.now (g.R.Recorded.as_record c.args.rec) c.row-enabling.result.now c.fields.result.now _ (sym c.header.ensures ∙ c.in-One.is)
    (c.row-enabling.ensures ∙ ap (enabling_of c.args.self.now.rows) c.epid.ensures) c.fields.ensures.fields c.fields.ensures.few c.requires.accepted) c.requires.room

pub put_record-requires-in-Two-clause-room : goal.put_record-requires-in-Two-clause-room
put_record-requires-in-Two-clause-room g c =
    room c.args.self.now (g.R.Recorded.as_record c.args.rec) c.fields-in-Two.result.now _ c.args.out.now
    (row c.args.self.now (g.R.Recorded.as_record c.args.rec) c.row-enabling.result.now c.fields-in-Two.result.now _ (sym c.header.ensures ∙ c.in-Two.is)
    (c.row-enabling.ensures ∙ ap (enabling_of c.args.self.now.rows) c.epid.ensures) c.fields-in-Two.ensures.fields c.fields-in-Two.ensures.few c.requires.accepted) c.requires.room

pub returns-in-One : goal.returns-in-One
returns-in-One g c =
    put c.args.self.now (g.R.Recorded.as_record c.args.rec) c.fields.result.now _ c.put_record.new.out
    (row c.args.self.now (g.R.Recorded.as_record c.args.rec) c.row-enabling.result.now c.fields.result.now _ (sym c.header.ensures ∙ c.in-One.is)
    (c.row-enabling.ensures ∙ ap (enabling_of c.args.self.now.rows) c.epid.ensures) c.fields.ensures.fields c.fields.ensures.few c.requires.accepted) c.put_record.ensures

pub returns-in-Two : goal.returns-in-Two
returns-in-Two g c =
    put c.args.self.now (g.R.Recorded.as_record c.args.rec) c.fields-in-Two.result.now _ c.put_record-in-Two.new.out
    (row c.args.self.now (g.R.Recorded.as_record c.args.rec) c.row-enabling.result.now c.fields-in-Two.result.now _ (sym c.header.ensures ∙ c.in-Two.is)
    (c.row-enabling.ensures ∙ ap (enabling_of c.args.self.now.rows) c.epid.ensures) c.fields-in-Two.ensures.fields c.fields-in-Two.ensures.few c.requires.accepted) c.put_record-in-Two.ensures
