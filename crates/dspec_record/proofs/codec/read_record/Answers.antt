-- Each field is read where the layout has it, after zeros.
use Rattle.std.proofs.Common.{◌≡◌, ◌≤◌, ◌+◌, ◌++◌, ℕ, List, [], ◌∷◌, length, drop, arith, subst, sym, ◌∙◌, ap}
use Rattle.std.proofs.lemmas.List.{length-append}
use Rattle.dspec_record.specs.{Words.fields_start, Words.Record, Words.IsRead, Words.header-within, declared.header.Header.Header}
use Rattle.dspec_record.proofs.ReadBack.{IsReading, IsReading-start, IsReading-near, next-within, IsReading-next, IsReading-gap, IsReading-whole}
use Rattle.dspec_record.proofs.codec.read_record.Goals as goal

pub read_stamp-requires : goal.read_stamp-requires
read_stamp-requires c = omega (arith, c.requires.exact, header-within c.args.header c.args.fields.now)

pub loop-field-init : goal.loop-field-init
loop-field-init c =
    let h : Header = c.args.header in
    let stamp : ℕ = c.read_stamp.result in
    let bare : c.bare-rec.result ≡ record { epid = c.args.epid; stamp = stamp; values = [] } = c.bare-rec.ensures in
    let none : List ℕ = [] in
    let start : IsReading h c.args.fields.now c.args.epid stamp c.args.text.now (fields_start h) none 0 c.args.fields.now =
    IsReading-start h c.args.fields.now c.args.epid stamp c.args.text.now c.requires.few c.requires.exact c.requires.epid c.read_stamp.ensures.fits c.read_stamp.ensures.written in
    let Read : Record → Type 0 = λ r. IsReading h c.args.fields.now c.args.epid r.stamp c.args.text.now (fields_start h) r.values 0 c.args.fields.now in
    let At : ℕ → Type 0 = λ end. IsReading h c.args.fields.now c.args.epid c.bare-rec.result.stamp c.args.text.now end c.bare-rec.result.values 0 c.args.fields.now in
    let values : c.bare-rec.result.values ≡ none = ap (λ r. r.values) bare in
    record {
      epid_is = ap (λ r. r.epid) bare;
      reading = subst At (sym c.fields_start-end.ensures) (subst Read (sym bare) start);
      many = ap length values;
    }

pub place-place-requires : goal.place-place-requires
place-place-requires c =
    omega (arith, c.loop-field.invariant.reading.short, IsReading-near _ _ _ _ _ _ _ _ _ c.loop-field.invariant.reading)

pub overflow_add-next : goal.overflow_add-next
overflow_add-next c =
    let room : c.place-place.result + c.width.result ≤ length c.args.text.now =
    next-within _ _ _ _ _ _ _ _ _ _ c.loop-field-test.true c.loop-field.invariant.reading c.place-place.ensures c.width.ensures in
    omega (arith, c.loop-field.invariant.reading.short)

pub slice_bounds-is_zero-end : goal.slice_bounds-is_zero-end
slice_bounds-is_zero-end c =
    let room : c.place-place.result + c.width.result ≤ length c.args.text.now =
    next-within _ _ _ _ _ _ _ _ _ _ c.loop-field-test.true c.loop-field.invariant.reading c.place-place.ensures c.width.ensures in
    omega arith

pub slice_bounds-read-end : goal.slice_bounds-read-end
slice_bounds-read-end c =
    let room : c.place-place.result + c.width.result ≤ length c.args.text.now =
    next-within _ _ _ _ _ _ _ _ _ _ c.loop-field-test.true c.loop-field.invariant.reading c.place-place.ensures c.width.ensures in
    omega arith

pub loop-field-preserved : goal.loop-field-preserved
loop-field-preserved c =
    let i : ℕ = c.loop-field.field-index in
    let read : List ℕ = c.loop-field.rec.values in
    let v : ℕ = c.read.result in
    let h : Header = c.args.header in
    let stamp : ℕ = c.loop-field.rec.stamp in
    let added : c.add.new.self ≡ record { epid = c.loop-field.rec.epid; stamp = stamp; values = read ++ v ∷ [] } = c.add.ensures in
    let values : c.add.new.self.values ≡ read ++ v ∷ [] = ap (λ r. r.values) added in
    let next : IsReading h c.args.fields.now c.args.epid stamp c.args.text.now (c.place-place.result + c.width.result) (read ++ v ∷ []) (i + 1) (drop (i + 1) c.args.fields.now) =
    IsReading-next h c.args.fields.now c.args.epid stamp c.args.text.now c.loop-field.end read i c.place-place.result c.width.result v
    c.loop-field-test.true c.loop-field.invariant.reading c.place-place.ensures c.width.ensures (c.is_zero.ensures.0 c.if-not-is_zero.false) c.read.ensures.holds c.read.ensures.written in
    let Read : Record → Type 0 = λ r. IsReading h c.args.fields.now c.args.epid r.stamp c.args.text.now (c.place-place.result + c.width.result) r.values (i + 1) (drop (i + 1) c.args.fields.now) in
    record {
      epid_is = ap (λ r. r.epid) added ∙ c.loop-field.invariant.epid_is;
      reading = subst Read (sym added) next;
      many = ap length values ∙ length-append read (v ∷ []) ∙ omega (arith, c.loop-field.invariant.many);
    }

pub returns-clause-read : goal.returns-clause-read
returns-clause-read c =
    let past : length c.args.fields.now ≡ c.loop-field.field-index = omega arith in
    let h : Header = c.args.header in
    let stamp : ℕ = c.loop-field.rec.stamp in
    let whole : IsRead h c.args.fields.now c.args.epid c.args.text.now (record { epid = c.args.epid; stamp = stamp; values = c.loop-field.rec.values }) =
    IsReading-whole h c.args.fields.now c.args.epid stamp c.args.text.now c.loop-field.end c.loop-field.rec.values c.loop-field.field-index past
    c.loop-field.invariant.reading (c.is_zero-2.ensures.0 c.if-not-is_zero-2.false) in
    let Read : ℕ → Type 0 = λ e. IsRead h c.args.fields.now c.args.epid c.args.text.now (record { epid = e; stamp = stamp; values = c.loop-field.rec.values }) in
    subst Read (sym c.loop-field.invariant.epid_is) whole

pub returns-then-not-is_zero-clause-unread : goal.returns-then-not-is_zero-clause-unread
returns-then-not-is_zero-clause-unread c = λ r stamp_fit fit is.
    let zeros = IsReading-gap c.args.header c.args.fields.now c.args.epid c.loop-field.rec.stamp c.args.text.now c.loop-field.end c.loop-field.rec.values
    c.loop-field.field-index c.place-place.result c.loop-field-test.true c.loop-field.invariant.reading c.place-place.ensures r fit is in
    let yes = c.is_zero.ensures.1 zeros in
    let no = c.if-not-is_zero.true in
    absurd (cc)
