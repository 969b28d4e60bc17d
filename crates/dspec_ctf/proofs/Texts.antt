-- The records of a text are accepted, no more than its size allows, and their events have no more bytes than it.
use Rattle.std.proofs.Common.{ℕ, zero, suc, ◌≡◌, ◌≤◌, ◌+◌, ◌-◌, ◌*◌, ◌++◌, Bool, true, false, cond, leb, IsTrue, List, [], ◌∷◌, length, take, drop, Option, Some, None, All, ap, refl, arith}
use Rattle.std.proofs.Common.{length-append}
use Rattle.std.proofs.lemmas.{Bool.Decides.nat_tests, List.Elements.All-nil, List.Elements.All-cons}
use Rattle.std.specs.{Option.option_map_or, Prelude.option_and_then, Prelude.slice_range, Prelude.unwrap_or}
use Rattle.dspec_ctf.specs.Words.{Record, EnabledRows, enabled, table_shape, table_accepts, table_text, BufferText, most_records, Accepts, IsText, Shape, width, little_endian, fits, within_limit}
use Rattle.dspec_ctf.specs.Words.{enabling_of, IsAccepted, accepted-parts, event, events, event_fields, stamp_bytes, values_bytes, Field, Header, after, fields_start, fields_text, gap, stamp_text}
use Rattle.dspec_record.specs.declared.header.Header.TheVariants.{Two}
use Rattle.dspec_record.specs.declared.header.Header.TheVariants as header

read-accepted : (shape : ℕ → Option Shape) (accepted : Record → Bool) (text : Record → List ℕ) (place : ℕ) (bytes : List ℕ) (rs : List Record)
    → BufferText shape accepted text place bytes rs → All (λ r. IsTrue (accepted r)) rs
read-accepted shape accepted text place bytes [] is = All-nil (λ r. IsTrue (accepted r))
read-accepted shape accepted text place bytes (r ∷ rs) (gap, (rest, (stands, more))) =
    All-cons (λ r. IsTrue (accepted r)) r rs stands.is_accepted (read-accepted shape accepted text (place + length gap + length (text r)) rest rs more)

pub text-accepted : (e : EnabledRows) (text : List ℕ) (rs : List Record) → IsText e text rs → All (Accepts e) rs
text-accepted e text rs is = read-accepted (table_shape e.header (enabled e.rows)) (table_accepts e.header (enabled e.rows)) (table_text e.header (enabled e.rows)) 0 text rs is

-- A record with a stamp has 12 bytes or more.
stamped-wide : (e : EnabledRows) → e.header ≡ Two → (r : Record) → 12 ≤ length (table_text e.header (enabled e.rows) r)
stamped-wide e stamped r = grind (arith, nat_tests)

read-few : (shape : ℕ → Option Shape) (accepted : Record → Bool) (text : Record → List ℕ) → ((r : Record) → 12 ≤ length (text r)) → (place : ℕ) (bytes : List ℕ) (rs : List Record)
    → BufferText shape accepted text place bytes rs → 12 * length rs ≤ length bytes
read-few shape accepted text wide place bytes [] is = omega arith
read-few shape accepted text wide place bytes (r ∷ rs) (gap, (rest, (stands, more))) =
    omega (
      arith,
      ap length stands.bytes_are,
      length-append gap (text r ++ rest),
      length-append (text r) rest,
      wide r,
      read-few shape accepted text wide (place + length gap + length (text r)) rest rs more,
    )

-- A text of so many bytes has no more records than there is room for by its size.
pub text-few : (e : EnabledRows) → e.header ≡ Two → (text : List ℕ) (rs : List Record) → IsText e text rs → length rs ≤ most_records (length text)
text-few e stamped text rs is =
    omega (arith, read-few (table_shape e.header (enabled e.rows)) (table_accepts e.header (enabled e.rows)) (table_text e.header (enabled e.rows)) (stamped-wide e stamped) 0 text rs is)

-- ---- events aren't longer than their records' texts

fields-fit : (start : ℕ) (fs : List Field) (vs : List ℕ) → length (values_bytes fs vs) ≤ length (fields_text start fs vs)
fields-fit start [] vs = omega arith
fields-fit start (f ∷ fs) [] = omega arith
fields-fit start (f ∷ fs) (v ∷ vs) =
    let next : ℕ = after start (width f) (width f) in
    let value : List ℕ = little_endian (width f) v in
    omega (
      arith,
      length-append value (values_bytes fs vs),
      length-append (gap start (width f)) (value ++ fields_text next fs vs),
      length-append value (fields_text next fs vs),
      fields-fit next fs vs,
    )

row-fits : (start : ℕ) (gs : List Field) (vs : List ℕ) (few : Bool) → IsTrue (option_map_or (λ fs. fits fs vs) (cond few (Some gs) None) false)
    → length (values_bytes gs vs) ≤ length (fields_text start (unwrap_or (cond few (Some gs) None) []) vs)
row-fits start gs vs true is = fields-fit start gs vs
row-fits start gs vs false is = absurd (cc)

values-fit : (start : ℕ) (o : Option (List Field)) (vs : List ℕ) → IsTrue (option_map_or (λ fs. fits fs vs) (option_and_then within_limit o) false)
    → length (values_bytes (unwrap_or o []) vs) ≤ length (fields_text start (unwrap_or (option_and_then within_limit o) []) vs)
values-fit start None vs is = absurd (cc)
values-fit start (Some gs) vs is = row-fits start gs vs (leb (length gs) 8) is

stamp-alike : (h : Header) (stamp : ℕ) → length (stamp_bytes h stamp) ≡ length (stamp_text h stamp)
stamp-alike header.One stamp = refl
stamp-alike header.Two stamp = refl

event-fits : (e : EnabledRows) (r : Record) → Accepts e r → length (event e r) ≤ length (table_text e.header (enabled e.rows) r)
event-fits e r of_r =
    let parts : IsAccepted e.header r (enabled e.rows r.epid) = accepted-parts e.header (enabled e.rows) r of_r in
    let epid : List ℕ = little_endian 4 r.epid in
    let values : List ℕ = values_bytes (event_fields e r.epid) r.values in
    let fields : List ℕ = fields_text (fields_start e.header) (unwrap_or (enabled e.rows r.epid) []) r.values in
    omega (
      arith,
      length-append epid (stamp_bytes e.header r.stamp ++ values),
      length-append (stamp_bytes e.header r.stamp) values,
      length-append (epid ++ stamp_text e.header r.stamp) fields,
      length-append epid (stamp_text e.header r.stamp),
      stamp-alike e.header r.stamp,
      values-fit (fields_start e.header) (enabling_of e.rows r.epid) r.values parts.values,
    )

module _ (e : EnabledRows) where
  read-fits : (place : ℕ) (bytes : List ℕ) (rs : List Record)
      → BufferText (table_shape e.header (enabled e.rows)) (table_accepts e.header (enabled e.rows)) (table_text e.header (enabled e.rows)) place bytes rs → length (events e rs) ≤ length bytes
  read-fits place bytes [] is = omega arith
  read-fits place bytes (r ∷ rs) (gap, (rest, (stands, more))) =
      let text : List ℕ = table_text e.header (enabled e.rows) r in
      omega (
        arith,
        ap length stands.bytes_are,
        length-append gap (text ++ rest),
        length-append text rest,
        length-append (event e r) (events e rs),
        event-fits e r stands.is_accepted,
        read-fits (place + length gap + length text) rest rs more,
      )

  pub text-long : (text : List ℕ) (rs : List Record) → IsText e text rs → length (events e rs) ≤ length text
  text-long text rs is = read-fits 0 text rs is

  -- nor are those of some of them
  front-long : (n : ℕ) (rs : List Record) → length (events e (take n rs)) ≤ length (events e rs)
  front-long zero rs = omega arith
  front-long (suc n) [] = omega arith
  front-long (suc n) (r ∷ rs) =
      omega (arith, length-append (event e r) (events e (take n rs)), length-append (event e r) (events e rs), front-long n rs)

  back-long : (n : ℕ) (rs : List Record) → length (events e (drop n rs)) ≤ length (events e rs)
  back-long zero rs = omega arith
  back-long (suc n) [] = omega arith
  back-long (suc n) (r ∷ rs) = omega (arith, length-append (event e r) (events e rs), back-long n rs)

  pub part-long : (from to : ℕ) (rs : List Record) → length (events e (slice_range rs from to)) ≤ length (events e rs)
  part-long from to rs = omega (arith, front-long (to - from) (drop from rs), back-long from rs)
