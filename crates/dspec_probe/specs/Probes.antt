-- Cited by calls. Which records are those of a probe, and which schemas have the probe.
use Rattle.std.specs.Prelude.{◌≡◌, ℕ, nat_eq, List, Option, Some, None, if◌then◌else◌}
use Rattle.dspec_probe.specs.Words.Outside.{EnabledRows, Record, IsLaidBy, Laid, enabled, enabling_of, table_shape, table_text, Field, Header}
use Rattle.dspec_probe.specs.declared.probe.Probe.{Probe}
use Rattle.dspec_record.specs.declared.header.Header.TheVariants as header

-- a stamp as a header has it: left out where it has none
abbrev pub stamp_in : Header → ℕ → ℕ
stamp_in header.One stamp = 0
stamp_in header.Two stamp = stamp

-- the EPID of a probe's records, and their header
abbrev pub epid_of_probe : {F : Type 0} → Probe F → ℕ
epid_of_probe p = p.epid

abbrev pub header_of_probe : {F : Type 0} → Probe F → Header
header_of_probe p = p.header

-- the record that a probe's values, by their numbers, stand for
abbrev pub probed_record : {F : Type 0} → Probe F → ℕ → List ℕ → Record
probed_record p stamp numbers = record { epid = p.epid; stamp = stamp_in p.header stamp; values = numbers }

-- the values of a record of the probe
abbrev pub read_values : {F : Type 0} → (List ℕ → Option F) → Probe F → Record → Option F
read_values values p r = if nat_eq r.epid p.epid then values r.values else None

-- the schema has a probe of this EPID: this header is that of all records, and the EPID has these fields
pub record HasProbe (h : Header) (epid : ℕ) (fields : List Field) (schema : EnabledRows) : Type 0 where
  pub header : schema.header ≡ h
  pub row : enabling_of schema.rows epid ≡ Some fields

abbrev pub IsProbeOf : {F : Type 0} → List Field → Probe F → EnabledRows → Type 0
IsProbeOf fields p schema = HasProbe p.header p.epid fields schema

-- the record says itself what its shape and its bytes are in each schema that has the probe, if it says anything
abbrev pub IsLaidByProbe : Header → ℕ → List Field → Record → Option Laid → Type 0
IsLaidByProbe h epid fields r laid = (schema : EnabledRows) → HasProbe h epid fields schema
    → IsLaidBy (table_shape schema.header (enabled schema.rows)) (table_text schema.header (enabled schema.rows)) r laid
