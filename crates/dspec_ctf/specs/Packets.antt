-- Cited by calls. The bytes of packets of the Common Trace Format, version 1.8: little-endian, nothing between two parts.
use Rattle.std.specs.List.{flat_map, zip}
use Rattle.std.specs.Prelude.{ℕ, ◌+◌, ◌*◌, List, [], ◌++◌, length, Option, Some, None, unwrap_or}
use Rattle.dspec_ctf.specs.Words.Outside.{Record, width, little_endian, enabling_of, EnabledRows, Field, Header}
use Rattle.dspec_record.specs.declared.header.Header.TheVariants as header

-- the fields of the records with this EPID
abbrev pub event_fields : EnabledRows → ℕ → List Field
event_fields e epid = unwrap_or (enabling_of e.rows epid) []

-- a stamp, where records have one
abbrev pub stamp_bytes : Header → ℕ → List ℕ
stamp_bytes header.One stamp = []
stamp_bytes header.Two stamp = little_endian 8 stamp

-- each value in as many bytes as its field has
abbrev pub values_bytes : List Field → List ℕ → List ℕ
values_bytes fs vs = flat_map (λ p. little_endian (width p.0) p.1) (zip fs vs)

-- a record as an event: the EPID, the stamp, the values
abbrev pub event : EnabledRows → Record → List ℕ
event e r = little_endian 4 r.epid ++ (stamp_bytes e.header r.stamp ++ values_bytes (event_fields e r.epid) r.values)

abbrev pub events : EnabledRows → List Record → List ℕ
events e rs = flat_map (event e) rs

-- what stands at the front of each packet: the magic number of the format, the trace's 16 bytes, stream 0
unfoldable pub header_bytes : List ℕ → List ℕ
header_bytes uuid = little_endian 4 3254525889 ++ (uuid ++ little_endian 4 0)

-- the stamps of the first event and of the last, in a trace by time alone
abbrev pub span_bytes : Option (ℕ × ℕ) → List ℕ
span_bytes None = []
span_bytes (Some span) = little_endian 8 span.0 ++ little_endian 8 span.1

-- the bytes before the events
abbrev pub front_size : Option (ℕ × ℕ) → ℕ
front_size None = 52
front_size (Some _) = 68

-- up to where a packet's events go and its own size, in bits, then how many events were missed so far, and the CPU
unfoldable pub context_bytes : ℕ → ℕ → ℕ → ℕ → List ℕ
context_bytes content bits missed cpu =
    little_endian 8 content ++ (little_endian 8 bits ++ (little_endian 8 missed ++ little_endian 4 cpu))

-- what stands before the events of a packet of so many bytes, whose events end after so many of them
unfoldable pub front_bytes : List ℕ → Option (ℕ × ℕ) → ℕ → ℕ → ℕ → ℕ → List ℕ
front_bytes uuid span content size missed cpu = header_bytes uuid ++ (span_bytes span ++ context_bytes (8 * content) (8 * size) missed cpu)

-- a packet around the bytes of its events, with which it ends
abbrev pub packet_around : List ℕ → Option (ℕ × ℕ) → ℕ → ℕ → List ℕ → List ℕ
packet_around uuid span missed cpu body =
    front_bytes uuid span (front_size span + length body) (front_size span + length body) missed cpu ++ body

-- a packet of these records, as they were taken
abbrev pub packet : List ℕ → EnabledRows → ℕ → ℕ → List Record → List ℕ
packet uuid e missed cpu rs = packet_around uuid None missed cpu (events e rs)
