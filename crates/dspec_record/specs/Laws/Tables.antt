-- Serves proofs. A schema that is a table of fields keeps the laws of a schema, where EPID 0 has none and no EPID has more
-- than eight; the two tables of the crate are such.
use Rattle.std.proofs.Common.{◌≡◌, ◌≤◌, ◌^◌, ◌&&◌, ℕ, zero, suc, Bool, true, false, cond, ltb, leb, IsTrue, List, [], ◌++◌, length, take, Option, Some, None, option_map, refl, ap, ◌∙◌, subst, arith}
use Rattle.std.proofs.lemmas.{Bool.ltb-true, Bool.leb-true, List.take_at, List.append_assoc}
use Rattle.std.specs.{Option.option_map_or, Prelude.unwrap_or, Prelude.option_and_then}
use Rattle.dspec_record.specs.{Laws.Layouts.layout-IsShape, Laws.Texts.both, Laws.Texts.length-little_endian, Laws.Texts.length-record_text, Laws.Texts.All-record_text, Laws.Texts.record_text-same}
use Rattle.dspec_record.specs.{Laws.Texts.record_text-epid, Layout.fields_start, Layout.layout, Reading.IsShape, Reading.IsTextOf, Record.Record, RecordText.little_endian, RecordText.stamp_text}
use Rattle.dspec_record.specs.{RecordText.fields_text, RecordText.record_text, RecordText.stamp_fits, RecordText.fits, Schemas.FieldTable, Schemas.table_shape, Schemas.table_accepts}
use Rattle.dspec_record.specs.{Schemas.table_text, Schemas.within_limit, Schemas.enabling_of, Schemas.enabled, Schemas.default_fields, declared.field.Field.Field}
use Rattle.dspec_record.specs.{declared.field.Field.TheVariants.Four, declared.field.Shape.Shape, declared.header.Header.Header}

-- no EPID of the table has more than eight fields
pub IsLimited : FieldTable → Type 0
IsLimited fields = (e : ℕ) (fs : List Field) → fields e ≡ Some fs → length fs ≤ 8

row-IsShape : (d : Header) (o : Option (List Field)) (h : Shape) → ((fs : List Field) → o ≡ Some fs → length fs ≤ 8) → option_map (layout d) o ≡ Some h → IsShape h
row-IsShape d None h few e = absurd (cc)
row-IsShape d (Some fs) h few e =
    let same : layout d fs ≡ h = cc in
    subst IsShape same (layout-IsShape d fs (few fs refl))

pub table-shapes_fit : (d : Header) (fields : FieldTable) → IsLimited fields → (e : ℕ) (h : Shape) → table_shape d fields e ≡ Some h → IsShape h
unfolding IsLimited
table-shapes_fit d fields few e h is = row-IsShape d (fields e) h (few e) is

-- what an accepted record is
row-texts_fit : (d : Header) (fields : FieldTable) (r : Record) (o : Option (List Field)) → fields r.epid ≡ o → IsTrue (ltb r.epid (2 ^ 32))
    → IsTrue (option_map_or (λ fs. fits fs r.values) o false) → IsTextOf (table_shape d fields) r (record_text d (unwrap_or o []) r)
row-texts_fit d fields r None is small h = absurd (cc)
row-texts_fit d fields r (Some fs) is small h =
    record {
      epid_fits = ltb-true r.epid (2 ^ 32) small;
      shape_is = layout d fs;
      has_shape = ap (option_map (layout d)) is;
      size = length-record_text d fs r h;
      epid =
          ap (take 4) (append_assoc (little_endian 4 r.epid) (stamp_text d r.stamp) (fields_text (fields_start d) fs r.values))
          ∙ take_at (little_endian 4 r.epid) (stamp_text d r.stamp ++ fields_text (fields_start d) fs r.values) 4 (length-little_endian Four r.epid);
      bytes = All-record_text d fs r;
    }

-- the parts of what is accepted
pub record IsAccepted (d : Header) (r : Record) (o : Option (List Field)) : Type 0 where
  pub epid : IsTrue (ltb r.epid (2 ^ 32))
  pub stamp : IsTrue (stamp_fits d r.stamp)
  pub values : IsTrue (option_map_or (λ fs. fits fs r.values) o false)

pub accepted-parts : (d : Header) (fields : FieldTable) (r : Record) → IsTrue (table_accepts d fields r) → IsAccepted d r (fields r.epid)
accepted-parts d fields r h =
    let values : Bool = option_map_or (λ fs. fits fs r.values) (fields r.epid) false in
    let first = both (ltb r.epid (2 ^ 32)) (stamp_fits d r.stamp && values) h in
    let second = both (stamp_fits d r.stamp) values first.1 in
    record { epid = first.0; stamp = second.0; values = second.1 }

pub table-texts_fit : (d : Header) (fields : FieldTable) (r : Record) → IsTrue (table_accepts d fields r) → IsTextOf (table_shape d fields) r (table_text d fields r)
table-texts_fit d fields r h =
    let parts : IsAccepted d r (fields r.epid) = accepted-parts d fields r h in
    row-texts_fit d fields r (fields r.epid) refl parts.epid parts.values

row-texts_differ : (d : Header) (o : Option (List Field)) (q r : Record) (x y : List ℕ) → q.epid ≡ r.epid → IsTrue (stamp_fits d q.stamp) → IsTrue (stamp_fits d r.stamp)
    → IsTrue (option_map_or (λ fs. fits fs q.values) o false) → IsTrue (option_map_or (λ fs. fits fs r.values) o false)
    → record_text d (unwrap_or o []) q ++ x ≡ record_text d (unwrap_or o []) r ++ y → q ≡ r
row-texts_differ d None q r x y epid sq sr of_q of_r e = absurd (cc)
row-texts_differ d (Some fs) q r x y epid sq sr of_q of_r e = record_text-same d fs q r x y epid sq sr of_q of_r e

pub table-texts_differ : (d : Header) (fields : FieldTable) (q r : Record) (x y : List ℕ) → IsTrue (table_accepts d fields q) → IsTrue (table_accepts d fields r)
    → table_text d fields q ++ x ≡ table_text d fields r ++ y → q ≡ r
table-texts_differ d fields q r x y of_q of_r e =
    let parts_q : IsAccepted d q (fields q.epid) = accepted-parts d fields q of_q in
    let parts_r : IsAccepted d r (fields r.epid) = accepted-parts d fields r of_r in
    let epid : q.epid ≡ r.epid =
    record_text-epid d (unwrap_or (fields q.epid) []) (unwrap_or (fields r.epid) []) q r x y (ltb-true q.epid (2 ^ 32) parts_q.epid) (ltb-true r.epid (2 ^ 32) parts_r.epid) e in
    let Row : ℕ → Type 0 = λ n. IsTrue (option_map_or (λ fs. fits fs q.values) (fields n) false) in
    let Same : ℕ → Type 0 = λ n. record_text d (unwrap_or (fields n) []) q ++ x ≡ record_text d (unwrap_or (fields r.epid) []) r ++ y in
    row-texts_differ d (fields r.epid) q r x y epid parts_q.stamp parts_r.stamp (subst Row epid parts_q.values) parts_r.values (subst Same epid e)

within_limit-few : (gs fs : List Field) (b : Bool) → leb (length gs) 8 ≡ b → cond b (Some gs) None ≡ Some fs → length fs ≤ 8
within_limit-few gs fs true is e =
    let same : gs ≡ fs = cc in
    let Few : List Field → Type 0 = λ xs. length xs ≤ 8 in
    subst Few same (leb-true (length gs) 8 is)
within_limit-few gs fs false is e = absurd (cc)

row-few : (o : Option (List Field)) (fs : List Field) → option_and_then within_limit o ≡ Some fs → length fs ≤ 8
row-few None fs e = absurd (cc)
row-few (Some gs) fs e = within_limit-few gs fs (leb (length gs) 8) refl e

pub enabled-IsLimited : (rows : List (List Field)) → IsLimited (enabled rows)
unfolding IsLimited
enabled-IsLimited rows epid fs e = row-few (enabling_of rows epid) fs e

pub default_fields-IsLimited : IsLimited default_fields
unfolding IsLimited
default_fields-IsLimited zero fs e = absurd (cc)
default_fields-IsLimited (suc n) fs e =
    let none : [] ≡ fs = cc in
    omega (arith, ap length none)
