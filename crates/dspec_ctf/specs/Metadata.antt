-- Cited by calls. The metadata of a trace: text in the format's language, which says how its packets and events are laid out.
use Rattle.std.specs.{Fmt.digit_glyph, List.flat_map, List.enumerate_from, List.range_with_len, Option.option_map_or, Prelude.ℕ, Prelude.◌+◌, Prelude.◌*◌, Prelude.◌/◌, Prelude.◌%◌, Prelude.false}
use Rattle.std.specs.{Prelude.List, Prelude.[], Prelude.◌∷◌, Prelude.◌++◌, Prelude.length, Prelude.take, Prelude.drop, Prelude.slice_get, Prelude.slice_index_or, Prelude.codes, Prelude.decimal}
use Rattle.std.specs.{Prelude.Option, Prelude.None, Prelude.if◌then◌else◌}
use Rattle.dspec_ctf.specs.Names.{labels_at}
use Rattle.dspec_ctf.specs.Packets.{event_fields}
use Rattle.dspec_ctf.specs.Words.Outside.{EnabledRows, is_next, name_place, Field, One, Two, Four, Eight, Header, Kind, Unsigned, Signed, Float, Text, TextNext, ProbeNames}
use Rattle.dspec_ctf.specs.declared.{form.Form.Form, form.Form.TheVariants.AsTaken, form.Form.TheVariants.ByTime, names.Names.Names, names.Names.TheVariants.Numbered, names.Names.TheVariants.Given}
use Rattle.dspec_ctf.specs.declared.{origin.ClockStart.ClockStart, origin.Origin.Origin, origin.Process.Process}
use Rattle.dspec_record.specs.declared.header.Header.TheVariants as header

-- two digits of base 16, in lower case
abbrev pub hex_byte : ℕ → List ℕ
hex_byte b = digit_glyph false (b / 16) ∷ digit_glyph false (b % 16) ∷ []

unfoldable pub hex : List ℕ → List ℕ
hex bytes = flat_map hex_byte bytes

-- the same after a hyphen
unfoldable pub hyphened : List ℕ → List ℕ
hyphened bytes = codes "-" ++ hex bytes

-- 16 bytes as a uuid is written: 4, 2, 2, 2 and 6 of them, with hyphens between
unfoldable pub uuid_text : List ℕ → List ℕ
uuid_text u = hex (take 4 u) ++ hyphened (take 2 (drop 4 u)) ++ hyphened (take 2 (drop 6 u))
    ++ hyphened (take 2 (drop 8 u)) ++ hyphened (take 6 (drop 10 u))

-- the integers' types
unfoldable pub types_text : List ℕ
types_text = codes "/* CTF 1.8 */\n\ntypealias integer { size = 8; align = 8; signed = false; } := uint8_t;\n"
    ++ codes "typealias integer { size = 16; align = 8; signed = false; } := uint16_t;\n"
    ++ codes "typealias integer { size = 32; align = 8; signed = false; } := uint32_t;\ntypealias integer { size = 64; align = 8; signed = false; } := uint64_t;\n"

-- the trace, before its uuid
unfoldable pub trace_front : List ℕ
trace_front = codes "\ntrace {\n\tmajor = 1;\n\tminor = 8;\n\tuuid = \""

-- the trace after its uuid, with the header of packets
unfoldable pub trace_back : List ℕ
trace_back =
    codes "\";\n\tbyte_order = le;\n\tpacket.header := struct {\n\t\tuint32_t magic;\n\t\tuint8_t uuid[16];\n\t\tuint32_t stream_id;\n\t};\n};\n\nenv {\n"

abbrev pub trace_text : List ℕ → List ℕ
trace_text u = trace_front ++ uuid_text u ++ trace_back

-- a process, by the words that other tools know
abbrev pub host_text : List ℕ → List ℕ
host_text name = codes "\thostname = \"" ++ name ++ codes "\";\n"

abbrev pub program_text : List ℕ → List ℕ
program_text name = codes "\tprocname = \"" ++ name ++ codes "\";\n"

abbrev pub pid_text : ℕ → List ℕ
pid_text pid = codes "\tvpid = " ++ decimal pid ++ codes ";\n"

unfoldable pub process_text : Process → List ℕ
process_text p = host_text p.host.now ++ program_text p.name.now ++ pid_text p.pid

-- what surrounds the trace, in braces that are open already: the process, if it is told, and who wrote this
abbrev pub environment_text : Option Process → List ℕ
environment_text process = option_map_or process_text process [] ++ codes "\ttracer_name = \"sidingyarrow\";\n};\n"

-- the uuid of a clock that several processes read
abbrev pub clock_uuid : List ℕ → List ℕ
clock_uuid u = codes "\tuuid = \"" ++ uuid_text u ++ codes "\";\n"

-- where a clock began, from 1970 on
abbrev pub seconds_text : ℕ → List ℕ
seconds_text seconds = codes "\toffset_s = " ++ decimal seconds ++ codes ";\n"

abbrev pub ticks_text : ℕ → List ℕ
ticks_text ticks = codes "\toffset = " ++ decimal ticks ++ codes ";\n\tabsolute = true;\n"

unfoldable pub clock_start : ClockStart → List ℕ
clock_start start = option_map_or clock_uuid start.clock [] ++ seconds_text start.seconds ++ ticks_text start.ticks

-- a clock of so many ticks a second, in braces that are still open
abbrev pub clock_front : ℕ → List ℕ
clock_front frequency = codes "\nclock {\n\tname = stamp;\n\tfreq = " ++ decimal frequency ++ codes ";\n"

-- where it began, if that is told
abbrev pub start_text : Option ClockStart → List ℕ
start_text start = option_map_or clock_start start []

-- the end of it, and the type of stamps
unfoldable pub clock_back : List ℕ
clock_back = codes "};\n\ntypealias integer { size = 64; align = 8; signed = false; map = clock.stamp.value; } := stamp_t;\n"

-- the clock of a trace by time, whose ticks a second are known
abbrev pub clock_text : Option ClockStart → Form → List ℕ
clock_text start AsTaken = []
clock_text start (ByTime frequency) = clock_front frequency ++ start_text start ++ clock_back

-- the context of packets, and the header of events; by time both have stamps
abbrev pub stream_text : Form → List ℕ
stream_text AsTaken =
    codes "\nstream {\n\tid = 0;\n\tpacket.context := struct {\n\t\tuint64_t content_size;\n\t\tuint64_t packet_size;\n\t\tuint64_t events_discarded;\n"
    ++ codes "\t\tuint32_t cpu_id;\n\t};\n\tevent.header := struct {\n\t\tuint32_t id;\n\t};\n};\n"
stream_text (ByTime frequency) =
    codes "\nstream {\n\tid = 0;\n\tpacket.context := struct {\n\t\tstamp_t timestamp_begin;\n\t\tstamp_t timestamp_end;\n\t\tuint64_t content_size;\n"
    ++ codes "\t\tuint64_t packet_size;\n\t\tuint64_t events_discarded;\n\t\tuint32_t cpu_id;\n\t};\n\tevent.header := struct {\n\t\tuint32_t id;\n"
    ++ codes "\t\tstamp_t timestamp;\n\t};\n};\n"

-- the type of a field's values
abbrev pub type_name : Field → List ℕ
type_name One = codes "uint8_t"
type_name Two = codes "uint16_t"
type_name Four = codes "uint32_t"
type_name Eight = codes "uint64_t"

-- The type of a number by what it means. No value of one or two bytes is a float. A text has a line of its own, below.
abbrev pub kind_type : Kind → Field → List ℕ
kind_type Unsigned f = type_name f
kind_type Signed One = codes "integer { size = 8; align = 8; signed = true; }"
kind_type Signed Two = codes "integer { size = 16; align = 8; signed = true; }"
kind_type Signed Four = codes "integer { size = 32; align = 8; signed = true; }"
kind_type Signed Eight = codes "integer { size = 64; align = 8; signed = true; }"
kind_type Float Four = codes "floating_point { exp_dig = 8; mant_dig = 24; align = 8; }"
kind_type Float Eight = codes "floating_point { exp_dig = 11; mant_dig = 53; align = 8; }"
kind_type Float f = type_name f
kind_type Text f = type_name f
kind_type TextNext f = type_name f

-- what a number is called
abbrev pub label_item : ℕ × List ℕ → List ℕ
label_item p = codes "\"" ++ p.1 ++ codes "\" = " ++ decimal p.0 ++ codes ", "

unfoldable pub label_items : List (List ℕ) → List ℕ
label_items labels = flat_map label_item (enumerate_from 0 labels)

-- the type of numbers of which those from 0 on are called so: an enumeration, but of floats, and where there are no labels
unfoldable pub labelled_type : Kind → List (List ℕ) → Field → List ℕ
labelled_type Float labels f = kind_type Float f
labelled_type kind [] f = kind_type kind f
labelled_type kind (l ∷ ls) f = codes "enum : " ++ kind_type kind f ++ codes " { " ++ label_items (l ∷ ls) ++ codes "}"

-- a field with its name
abbrev pub field_line : List ℕ → Field → List ℕ
field_line name f = codes "\t\t" ++ type_name f ++ codes " " ++ name ++ codes ";\n"

-- fields that are numbered from 0
abbrev pub numbered_lines : List Field → List ℕ
numbered_lines fs = flat_map (λ p. field_line (codes "arg_" ++ decimal p.0) p.1) (enumerate_from 0 fs)

-- a field of this type with its name
abbrev pub typed_line : List ℕ → List ℕ → List ℕ
typed_line type name = codes "\t\t" ++ type ++ codes " " ++ name ++ codes ";\n"

-- the type of a text's characters
unfoldable pub text_type : List ℕ
text_type = codes "\t\tinteger { size = 8; align = 8; signed = false; encoding = UTF8; } "

-- a text of so many bytes with its name: an array of characters
abbrev pub text_line : ℕ → List ℕ → List ℕ
text_line size name = text_type ++ name ++ codes "[" ++ decimal size ++ codes "];\n"

-- how many next words of a text stand in front of other kinds
abbrev pub next_in_front : List Kind → ℕ
next_in_front [] = 0
next_in_front (k ∷ ks) = if is_next k then 1 + next_in_front ks else 0

-- how many words the text has whose first is at this place
abbrev pub words_at : ProbeNames → ℕ → ℕ
words_at n place = 1 + next_in_front (drop (place + 1) n.kinds)

-- a field with its name, by what it means; a text's line stands at its first word
abbrev pub kind_line : ProbeNames → ℕ → Field → Kind → List ℕ → List ℕ
kind_line n place f TextNext name = []
kind_line n place f Text name = text_line (8 * words_at n place) name
kind_line n place f kind name = typed_line (labelled_type kind (labels_at n (name_place n.kinds place)) f) name

-- a field that has a name, what it means and labels by its place
unfoldable pub given_line : ProbeNames → ℕ → Field → List ℕ
given_line n place f =
    option_map_or (λ name. kind_line n place f (slice_index_or n.kinds place Unsigned) name.now) (slice_get n.fields.now (name_place n.kinds place)) []

abbrev pub given_lines : ProbeNames → List Field → List ℕ
given_lines n fs = flat_map (λ p. given_line n p.0 p.1) (enumerate_from 0 fs)

-- the stamp as a field: as taken, where records have one
abbrev pub stamp_line : Form → Header → List ℕ
stamp_line AsTaken header.Two = codes "\t\tuint64_t stamp;\n"
stamp_line _ _ = []

-- the name of the event at this place, counted from 0: the one given, or its EPID's
unfoldable pub event_name : Names → ℕ → List ℕ
event_name Numbered place = codes "epid_" ++ decimal (place + 1)
event_name (Given names) place = option_map_or (λ n. n.event.now) (slice_get names.now place) []

-- the lines of its fields
unfoldable pub field_lines : Names → ℕ → List Field → List ℕ
field_lines Numbered place fs = numbered_lines fs
field_lines (Given names) place fs =
    option_map_or (λ n. given_lines n fs) (slice_get names.now place) []

-- an event up to its name
unfoldable pub event_number : ℕ → List ℕ
event_number epid = codes "\nevent {\n\tid = " ++ decimal epid ++ codes ";\n\tname = \""

-- what stands before an event's fields
unfoldable pub event_front : Names → ℕ → List ℕ
event_front names place = event_number (place + 1) ++ event_name names place ++ codes "\";\n\tstream_id = 0;\n\tfields := struct {\n"

-- an event
unfoldable pub event_text : Form → EnabledRows → Names → ℕ → List ℕ
event_text form e names place = event_front names place ++ stamp_line form e.header
    ++ field_lines names place (event_fields e (place + 1)) ++ codes "\t};\n};\n"

-- the whole text
unfoldable pub origin_text : Origin → Form → EnabledRows → Names → List ℕ
origin_text origin form e names = types_text ++ trace_text origin.uuid ++ environment_text origin.process ++ clock_text origin.start form ++ stream_text form
    ++ flat_map (event_text form e names) (range_with_len 0 (length e.rows))

-- where nothing is told but the uuid
abbrev pub metadata_text : List ℕ → Form → EnabledRows → Names → List ℕ
metadata_text uuid form e names = origin_text (record { uuid = uuid; process = None; start = None }) form e names
