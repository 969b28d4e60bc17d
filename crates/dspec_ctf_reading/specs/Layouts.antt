-- Cited by calls. The layout that the metadata of a trace tells, and what records are, read by it.
use Rattle.std.specs.{List.enumerate_from, List.range_with_len, Option.option_map_or, Prelude.ℕ, Prelude.◌-◌, Prelude.Bool, Prelude.true, Prelude.false, Prelude.List, Prelude.[], Prelude.◌∷◌}
use Rattle.std.specs.{Prelude.◌++◌, Prelude.length, Prelude.map, Prelude.slice_get, Prelude.codes, Prelude.decimal, Prelude.Option, Prelude.Some, Prelude.None, Prelude.if◌then◌else◌}
use Rattle.dspec_ctf_reading.specs.Reading.{FieldLayout, EventLayout, Layout, EventRead, PacketRead}
use Rattle.dspec_ctf_reading.specs.Words.Outside.{Record, width, EnabledRows, event_fields, event_name, name_place, Field, Header, Names, Numbered, Given, Form, AsTaken, ByTime, ProbeNames}
use Rattle.dspec_record.specs.declared.header.Header.TheVariants as header

-- what the events of an EPID are called, and their fields by their places, counted from 0
pub record Naming : Type 0 where
  pub event : ℕ → List ℕ
  pub field : ℕ → ℕ → List ℕ

-- the stamp as an event's first field: where records have one and the trace has no clock
abbrev pub stamp_field : Bool → Header → List FieldLayout
stamp_field false header.Two = record { name = codes "stamp"; width = 8 } ∷ []
stamp_field _ _ = []

abbrev pub field_layouts : (ℕ → List ℕ) → List Field → List FieldLayout
field_layouts name fs = map (λ p. record { name = name p.0; width = width p.1 }) (enumerate_from 0 fs)

-- the same of values: the stamp where it is a field, and each value under its field's name
abbrev pub stamp_value : Bool → Header → ℕ → List (List ℕ × ℕ)
stamp_value false header.Two stamp = (codes "stamp", stamp) ∷ []
stamp_value _ _ stamp = []

abbrev pub named_values : (ℕ → List ℕ) → List ℕ → List (List ℕ × ℕ)
named_values name vs = map (λ p. (name p.0, p.1)) (enumerate_from 0 vs)

module _ (called : Naming) (timed : Bool) (e : EnabledRows) where
  abbrev pub event_layout : ℕ → EventLayout
  event_layout epid = record {
    id = epid;
    name = called.event epid;
    fields = stamp_field timed e.header ++ field_layouts (called.field epid) (event_fields e epid);
  }

  -- enablings have the EPIDs 1, 2, .. in their order
  abbrev pub layout_by : Layout
  layout_by = record { timed = timed; events = map event_layout (range_with_len 1 (length e.rows)) }

  -- a record as an event that is read
  abbrev pub event_read : Record → EventRead
  event_read r = record {
    id = r.epid;
    name = called.event r.epid;
    stamp = if timed then Some r.stamp else None;
    values = stamp_value timed e.header r.stamp ++ named_values (called.field r.epid) r.values;
  }

  -- a packet that is read, of these records
  abbrev pub packet_read : List ℕ → Option (ℕ × ℕ) → ℕ → ℕ → List Record → PacketRead
  packet_read uuid span missed cpu rs = record { uuid = uuid; cpu = cpu; discarded = missed; span = span; events = map event_read rs }

-- a trace by time has a clock
abbrev pub is_timed : Form → Bool
is_timed AsTaken = false
is_timed (ByTime frequency) = true

-- the names that were given for an EPID
abbrev pub given_for : Names → ℕ → Option ProbeNames
given_for Numbered epid = None
given_for (Given names) epid = slice_get names.now (epid - 1)

-- the name of a field by its place: the one given, or its number's; each word of a text has the text's
abbrev pub given_name : ProbeNames → ℕ → List ℕ
given_name n place = option_map_or (λ name. name.now) (slice_get n.fields.now (name_place n.kinds place)) []

abbrev pub field_name : Names → ℕ → ℕ → List ℕ
field_name Numbered epid place = codes "arg_" ++ decimal place
field_name (Given names) epid place = option_map_or (λ n. given_name n place) (slice_get names.now (epid - 1)) []

-- names as they are given, by EPIDs
abbrev pub names_by : Names → Naming
names_by names = record { event = λ epid. event_name names (epid - 1); field = field_name names }

module _ (e : EnabledRows) (names : Names) (form : Form) where
  -- what the metadata tells of these enablings, names and form
  abbrev pub layout_of : Layout
  layout_of = layout_by (names_by names) (is_timed form) e

  -- a record as it is read
  abbrev pub event_of : Record → EventRead
  event_of r = event_read (names_by names) (is_timed form) e r

  -- a packet of records as it is read
  abbrev pub packet_of : List ℕ → Option (ℕ × ℕ) → ℕ → ℕ → List Record → PacketRead
  packet_of uuid span missed cpu rs = packet_read (names_by names) (is_timed form) e uuid span missed cpu rs
