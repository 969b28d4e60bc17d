-- What was written of a record is read as its event.
use Rattle.std.proofs.Common.{◌≡◌, ◌≢◌, ◌≤◌, ◌<◌, ◌+◌, ◌^◌, ◌++◌, ◌==◌, ℕ, zero, suc, Bool, true, false, cond, ltb, leb, IsTrue, List, [], ◌∷◌, length, map, Option, Some, None, option_map, refl, ap}
use Rattle.std.proofs.Common.{sym, ◌∙◌, arith, append_assoc, All}
use Rattle.std.proofs.lemmas.{Bool.ltb-true, Bool.leb-true, Bool.eqb-true, Bool.eqb-false, Bool.Decides.nat_tests, List.Elements.All-head, List.Elements.All-tail, Option.slice_get_within}
use Rattle.std.specs.{List.enumerate_from, List.range_with_len, Option.option_map_or, Prelude.option_and_then}
use Rattle.dspec_ctf_reading.specs.Words.{Record, width, little_endian, stamp_fits, fits, enabled, EnabledRows, both, IsAccepted, accepted-parts, stamp_bytes, values_bytes, event, events}
use Rattle.dspec_ctf_reading.specs.Words.{event_fields, Accepts, FieldLayout, EventLayout, EventRead, PartRead, then_read, read_number, find_event, read_payload, read_event_body, read_event}
use Rattle.dspec_ctf_reading.specs.Words.{read_events, Naming, stamp_field, field_layouts, stamp_value, named_values, event_layout, layout_by, event_read, Field, Four, Eight, Header}
use Rattle.dspec_record.specs.declared.header.Header.TheVariants as header
use Rattle.dspec_ctf_reading.proofs.{Bounds.events-on-bytes, NumbersRead.number-back}

-- values stand under the names of their fields
values-back : (name : ℕ → List ℕ) (n : ℕ) (fs : List Field) (vs rest : List ℕ) → IsTrue (fits fs vs)
    → read_payload (map (λ p. record { name = name p.0; width = width p.1 }) (enumerate_from n fs)) (values_bytes fs vs ++ rest) ≡ Some (map (λ p. (name p.0, p.1)) (enumerate_from n vs), rest)
values-back name n [] [] rest h = refl
values-back name n [] (v ∷ vs) rest h = absurd (cc)
values-back name n (f ∷ fs) [] rest h = absurd (cc)
values-back name n (f ∷ fs) (v ∷ vs) rest h =
    let parts : IsTrue (ltb v (256 ^ width f)) × IsTrue (fits fs vs) = both (ltb v (256 ^ width f)) (fits fs vs) h in
    let others : List FieldLayout = map (λ p. record { name = name p.0; width = width p.1 }) (enumerate_from (n + 1) fs) in
    let go_on : ℕ → List ℕ → PartRead (List (List ℕ × ℕ)) = λ value more. option_map (λ p. ((name n, value) ∷ p.0, p.1)) (read_payload others more) in
    ap (λ bytes. then_read (read_number (width f) bytes) go_on) (append_assoc (little_endian (width f) v) (values_bytes fs vs) rest)
    ∙ ap (λ part. then_read part go_on) (number-back f v (values_bytes fs vs ++ rest) (ltb-true v (256 ^ width f) parts.0))
    ∙ ap (option_map (λ p. ((name n, v) ∷ p.0, p.1))) (values-back name (n + 1) fs vs rest parts.1)

-- a trace with a clock has a stamp with each record
unfoldable pub HasStamps : Bool → Header → Type 0
HasStamps true header.One = ⊥
HasStamps true header.Two = Unit
HasStamps false h = Unit

pub stamps-with-two : (h : Header) → h ≡ header.Two → HasStamps true h
unfolding HasStamps
stamps-with-two header.One is = absurd (cc)
stamps-with-two header.Two is = tt

-- the stamp after the number, or as the first field
body-back : (timed : Bool) (h : Header) (id stamp : ℕ) (name : List ℕ) (fields : List FieldLayout) (vs : List (List ℕ × ℕ)) (bytes rest : List ℕ)
    → HasStamps timed h → IsTrue (stamp_fits h stamp) → read_payload fields bytes ≡ Some (vs, rest)
    → read_event_body timed (record { id = id; name = name; fields = stamp_field timed h ++ fields }) (stamp_bytes h stamp ++ bytes)
    ≡ Some (record { id = id; name = name; stamp = cond timed (Some stamp) None; values = stamp_value timed h stamp ++ vs }, rest)
unfolding HasStamps
body-back true header.One id stamp name fields vs bytes rest has low is = absurd has
body-back true header.Two id stamp name fields vs bytes rest has low is =
    let made : List (List ℕ × ℕ) × List ℕ → EventRead × List ℕ = λ p. (record { id = id; name = name; stamp = Some stamp; values = p.0 }, p.1) in
    ap (λ part. then_read (option_map (λ p. (Some p.0, p.1)) part) (λ at more. option_map (λ p. (record { id = id; name = name; stamp = at; values = p.0 }, p.1)) (read_payload fields more)))
    (number-back Eight stamp bytes (ltb-true stamp (2 ^ 64) low))
    ∙ ap (option_map made) is
body-back false header.One id stamp name fields vs bytes rest has low is =
    ap (option_map (λ p. (record { id = id; name = name; stamp = None; values = p.0 }, p.1))) is
body-back false header.Two id stamp name fields vs bytes rest has low is =
    let made : List (List ℕ × ℕ) × List ℕ → EventRead × List ℕ = λ p. (record { id = id; name = name; stamp = None; values = p.0 }, p.1) in
    let first : ℕ → List (List ℕ × ℕ) × List ℕ → List (List ℕ × ℕ) × List ℕ = λ value p. (stamp_value false header.Two value ++ p.0, p.1) in
    ap (λ part. option_map made (then_read part (λ value more. option_map (first value) (read_payload fields more))))
    (number-back Eight stamp bytes (ltb-true stamp (2 ^ 64) low))
    ∙ ap (λ part. option_map made (option_map (first stamp) part)) is

-- the layout of an EPID is found
find-from : (f : ℕ → EventLayout) → ((n : ℕ) → (f n).id ≡ n) → (k from id : ℕ) → from ≤ id → id < from + k → find_event id (map f (range_with_len from k)) ≡ Some (f id)
find-from f ids zero from id low high = absurd (omega (arith, low, high))
find-from f ids (suc k) from id low high = go ((f from).id == id) refl (λ above. find-from f ids k (from + 1) id above (omega (arith, high)))
  where
    go : (b : Bool) → ((f from).id == id) ≡ b → (from + 1 ≤ id → find_event id (map f (range_with_len (from + 1) k)) ≡ Some (f id))
        → cond b (Some (f from)) (find_event id (map f (range_with_len (from + 1) k))) ≡ Some (f id)
    go true is later = ap (λ n. Some (f n)) (sym (ids from) ∙ eqb-true (f from).id id is)
    go false is later =
        let other : from ≢ id = λ same. eqb-false (f from).id id is (ids from ∙ same) in
        later (omega (arith, low, other))

-- the EPID of a record that is accepted, and its values
pub record IsKnown (e : EnabledRows) (epid : ℕ) (vs : List ℕ) : Type 0 where
  pub low : 1 ≤ epid
  pub high : epid < 1 + length e.rows
  pub fit : IsTrue (fits (event_fields e epid) vs)
  pub few : length (event_fields e epid) ≤ 8

row-known : (gs : List Field) (vs : List ℕ) (few : Bool) → leb (length gs) 8 ≡ few → IsTrue (option_map_or (λ fs. fits fs vs) (cond few (Some gs) None) false)
    → IsTrue (fits gs vs) × (length gs ≤ 8)
row-known gs vs true is h = (h, leb-true (length gs) 8 is)
row-known gs vs false is h = absurd (cc)

pub is-known : (e : EnabledRows) (epid : ℕ) (vs : List ℕ) → IsTrue (option_map_or (λ fs. fits fs vs) (enabled e.rows epid) false) → IsKnown e epid vs
is-known e zero vs h = absurd (cc)
is-known e (suc n) vs h = grind (arith, nat_tests, row-known, slice_get_within)

module _ (called : Naming) (timed : Bool) (e : EnabledRows) (has : HasStamps timed e.header) where
  pub event-back : (r : Record) (rest : List ℕ) → Accepts e r → read_event (layout_by called timed e) (event e r ++ rest) ≡ Some (event_read called timed e r, rest)
  event-back r rest of_r =
      let parts : IsAccepted e.header r (enabled e.rows r.epid) = accepted-parts e.header (enabled e.rows) r of_r in
      let known : IsKnown e r.epid r.values = is-known e r.epid r.values parts.values in
      let values : List ℕ = values_bytes (event_fields e r.epid) r.values in
      let tail : List ℕ = stamp_bytes e.header r.stamp ++ (values ++ rest) in
      let shapes : List EventLayout = map (event_layout called timed e) (range_with_len 1 (length e.rows)) in
      let go_on : ℕ → List ℕ → PartRead EventRead = λ id more. option_and_then (λ shape. read_event_body timed shape more) (find_event id shapes) in
      let split : event e r ++ rest ≡ little_endian 4 r.epid ++ tail =
      append_assoc (little_endian 4 r.epid) (stamp_bytes e.header r.stamp ++ values) rest
      ∙ ap (λ more. little_endian 4 r.epid ++ more) (append_assoc (stamp_bytes e.header r.stamp) values rest) in
      ap (λ bytes. then_read (read_number 4 bytes) go_on) split
      ∙ ap (λ part. then_read part go_on) (number-back Four r.epid tail (ltb-true r.epid (2 ^ 32) parts.epid))
      ∙ ap (option_and_then (λ shape. read_event_body timed shape tail)) (find-from (event_layout called timed e) (λ n. refl) (length e.rows) 1 r.epid known.low known.high)
      ∙ body-back timed e.header r.epid r.stamp (called.event r.epid) (field_layouts (called.field r.epid) (event_fields e r.epid)) (named_values (called.field r.epid) r.values)
      (values ++ rest) rest has parts.stamp (values-back (called.field r.epid) 0 (event_fields e r.epid) r.values rest known.fit)

  pub events-back : (rs : List Record) → All (Accepts e) rs → read_events (layout_by called timed e) (events e rs) ≡ Some (map (event_read called timed e) rs)
  events-back [] of_rs = refl
  events-back (r ∷ rs) of_rs =
      let go_on : PartRead EventRead → Option (List EventRead) = λ part. option_and_then (λ p. option_map (λ more. p.0 ∷ more) (read_events (layout_by called timed e) p.1)) part in
      events-on-bytes (layout_by called timed e) (event e r ++ events e rs) (omega arith)
      ∙ ap go_on (event-back r (events e rs) (All-head (Accepts e) r rs of_rs))
      ∙ ap (option_map (λ more. event_read called timed e r ∷ more)) (events-back rs (All-tail (Accepts e) r rs of_rs))
