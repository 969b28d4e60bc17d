-- The header is written first; then each field finds the room that the layout left for it.
use Rattle.std.proofs.Common.{◌≡◌, ◌≤◌, ◌<◌, ◌+◌, ◌++◌, ℕ, List, length, take, drop, get_or, arith, sym, ◌∙◌, ap, subst, [], ◌∷◌}
use Rattle.std.proofs.lemmas.List.{drop_more, drop_all}
use Rattle.dspec_record.specs.Words.{width, after, fields_start, layout, Record, little_endian, gap, record_text, header-within, IsClearAfter}
use Rattle.dspec_record.specs.declared.{field.Field.Field, field.Field.TheVariants.One, header.Header.Header}
use Rattle.dspec_record.proofs.{Fitting.fits-length, Places.IsPlaced, Places.IsPlaced-start, Places.IsPlaced-place, Places.IsPlaced-next, Places.length-field_places, Writing.IsWriting}
use Rattle.dspec_record.proofs.{Writing.IsWriting-start, Writing.IsWriting-room, Writing.IsWriting-next, Writing.IsWriting-end}
use Rattle.dspec_record.proofs.codec.put_values.Goals as goal

pub put_header-end-requires : goal.put_header-end-requires
put_header-end-requires g c = record {
  room = omega (arith, c.requires.room, header-within c.args.header c.args.fields.now);
}

pub bounds-fields-i : goal.bounds-fields-i
bounds-fields-i g c =
    let same : length c.args.fields.now ≡ length (g.R.Recorded.as_record c.args.rec).values =
    fits-length c.args.fields.now (g.R.Recorded.as_record c.args.rec).values c.requires.fit in
    omega (arith, same, ap length c.requires.values)

pub bounds-places-i : goal.bounds-places-i
bounds-places-i g c =
    let same : length c.args.fields.now ≡ length (g.R.Recorded.as_record c.args.rec).values =
    fits-length c.args.fields.now (g.R.Recorded.as_record c.args.rec).values c.requires.fit in
    omega (arith, same, ap length c.requires.values, ap length c.requires.places ∙ length-field_places 4 c.args.fields.now)

-- the fields and values that are left begin with this one
here : (text : List ℕ) (size end : ℕ) (out : List ℕ) (i : ℕ) (fs : List Field) (vs : List ℕ) → i < length fs → length fs ≡ length vs → IsWriting text size end out (drop i fs) (drop i vs)
    → IsWriting text size end out (get_or fs i One ∷ drop (i + 1) fs) (get_or vs i 0 ∷ drop (i + 1) vs)
here text size end out i fs vs within same w =
    let Left : List Field → Type 0 = λ gs. IsWriting text size end out gs (drop i vs) in
    let Values : List ℕ → Type 0 = λ us. IsWriting text size end out (get_or fs i One ∷ drop (i + 1) fs) us in
    subst Values (drop_more vs i 0 (omega arith)) (subst Left (drop_more fs i One within) w)

pub put_field-end-requires-clause-place : goal.put_field-end-requires-clause-place
put_field-end-requires-clause-place g c =
    let fs : List Field = c.args.fields.now in
    let r : Record = g.R.Recorded.as_record c.args.rec in
    let many : length fs ≡ length c.args.values.now = fits-length fs r.values c.requires.fit ∙ sym (ap length c.requires.values) in
    let within : c.loop-i.i < length fs = omega (arith, many) in
    IsPlaced-place c.stamp_size-moved.result c.loop-i.end c.loop-i.i fs c.args.places.now within
    (ap length c.requires.places ∙ length-field_places 4 fs) c.loop-i.invariant.1

pub put_field-end-requires-clause-room : goal.put_field-end-requires-clause-room
put_field-end-requires-clause-room g c =
    let fs : List Field = c.args.fields.now in
    let r : Record = g.R.Recorded.as_record c.args.rec in
    let many : length fs ≡ length c.args.values.now =
    fits-length fs r.values c.requires.fit ∙ sym (ap length c.requires.values) in
    let within : c.loop-i.i < length fs = omega (arith, many) in
    IsWriting-room _ _ _ _ _ _ _ _ (here (record_text c.args.header fs r) _ c.loop-i.end c.loop-i.out c.loop-i.i fs c.args.values.now within many c.loop-i.invariant.0)
    (put_field-end-requires-clause-place g c)

pub loop-i-init : goal.loop-i-init
loop-i-init g c =
    let fs : List Field = c.args.fields.now in
    let h : Header = c.args.header in
    let r : Record = g.R.Recorded.as_record c.args.rec in
    let out : List ℕ = c.put_header-end.new.out in
    let size : ℕ = (layout h fs).size in
    let start : IsWriting (record_text h fs r) size (fields_start h) out fs r.values =
    IsWriting-start h fs r out c.requires.few c.requires.fit c.put_header-end.ensures.put (omega (arith, c.put_header-end.auto.out, c.requires.room)) c.put_header-end.ensures.clear in
    let Values : List ℕ → Type 0 = λ vs. IsWriting (record_text h fs r) size (fields_start h) out fs vs in
    let At : ℕ → Type 0 = λ end. IsWriting (record_text h fs r) size end out fs c.args.values.now in (
      subst At (sym c.put_header-end.ensures.end) (subst Values (sym c.requires.values) start),
      IsPlaced-start h c.stamp_size-moved.result c.put_header-end.result fs c.args.places.now c.stamp_size-moved.ensures.moves c.put_header-end.ensures.end c.requires.places,
    )

pub loop-i-preserved : goal.loop-i-preserved
loop-i-preserved g c =
    let fs : List Field = c.args.fields.now in
    let r : Record = g.R.Recorded.as_record c.args.rec in
    let vs : List ℕ = c.args.values.now in
    let i : ℕ = c.loop-i.i in
    let f : Field = get_or fs i One in
    let v : ℕ = get_or vs i 0 in
    let end : ℕ = c.loop-i.end in
    let out : List ℕ = c.put_field-end.new.out in
    let text : List ℕ = record_text c.args.header fs r in
    let size : ℕ = (layout c.args.header fs).size in
    let many : length fs ≡ length vs = fits-length fs r.values c.requires.fit ∙ sym (ap length c.requires.values) in
    let within : i < length fs = omega (arith, many) in
    let same : c.put_field-end.result ≡ after end (width f) (width f) = c.put_field-end.ensures.end in
    let Put : ℕ → Type 0 = λ e. take e out ≡ take end c.loop-i.out ++ (gap end (width f) ++ little_endian (width f) v) in
    let Clear : ℕ → Type 0 = λ e. IsClearAfter e out in
    let Next : ℕ → Type 0 = λ e. IsWriting text size e out (drop (i + 1) fs) (drop (i + 1) vs) in
    let Placed : ℕ → Type 0 = λ e. IsPlaced c.stamp_size-moved.result e (drop (i + 1) fs) (drop (i + 1) c.args.places.now) in
    let next : IsWriting text size (after end (width f) (width f)) out (drop (i + 1) fs) (drop (i + 1) vs) =
    IsWriting-next text size end c.loop-i.out out f (drop (i + 1) fs) v (drop (i + 1) vs) (here text size end c.loop-i.out i fs vs within many c.loop-i.invariant.0)
    c.put_field-end.auto.out (subst Put same c.put_field-end.ensures.put) (subst Clear same c.put_field-end.ensures.clear) in
    let placed : IsPlaced c.stamp_size-moved.result (after end (width f) (width f)) (drop (i + 1) fs) (drop (i + 1) c.args.places.now) =
    IsPlaced-next c.stamp_size-moved.result end i fs c.args.places.now within (ap length c.requires.places ∙ length-field_places 4 fs) c.loop-i.invariant.1 in
    (subst Next (sym same) next, subst Placed (sym same) placed)

pub returns : goal.returns
returns g c =
    let fs : List Field = c.args.fields.now in
    let r : Record = g.R.Recorded.as_record c.args.rec in
    let i : ℕ = c.loop-i.i in
    let many : length fs ≡ length c.args.values.now = fits-length fs r.values c.requires.fit ∙ sym (ap length c.requires.values) in
    let past : length fs ≤ i = omega (arith, many) in
    let Left : List Field → Type 0 = λ gs. IsWriting (record_text c.args.header fs r) (layout c.args.header fs).size c.loop-i.end c.loop-i.out gs (drop i c.args.values.now) in
    let done : IsWriting (record_text c.args.header fs r) (layout c.args.header fs).size c.loop-i.end c.loop-i.out [] (drop i c.args.values.now) =
    subst Left (drop_all i fs past) c.loop-i.invariant.0 in
    IsWriting-end _ _ _ _ _ done
