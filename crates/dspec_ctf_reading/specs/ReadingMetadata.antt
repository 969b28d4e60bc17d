-- Cited by calls. What a trace's metadata tells of its bytes. It is text in a language of the format's own, and here is so much of that language as our
-- traces have: the same lines, in the same order. Whatever else stands there is refused.
use Rattle.std.specs.Option.{option_map, option_and_then}
use Rattle.std.specs.Prelude.{ℕ, zero, suc, ◌+◌, ◌-◌, ◌*◌, ◌/◌, ◌%◌, ◌==◌, nat_le, not, Bool, true, false, ◌&&◌, ◌||◌, List, [], ◌∷◌, ◌++◌, length, replicate, codes, Option, Some, None}
use Rattle.std.specs.Prelude.{if◌then◌else◌}
use Rattle.dspec_ctf_reading.specs.Reading.{FieldLayout, EventLayout, Layout, PartRead, then_read}

-- ---- the parts of a text

-- what stands after this text, where the bytes begin with it
abbrev pub rest_past : List ℕ → List ℕ → Option (List ℕ)
rest_past [] bytes = Some bytes
rest_past (c ∷ text) [] = None
rest_past (c ∷ text) (b ∷ bytes) = if b == c then rest_past text bytes else None

-- goes on after this text
abbrev pub past : {A : Type 0} → List ℕ → List ℕ → (List ℕ → Option A) → Option A
past text bytes f = option_and_then f (rest_past text bytes)

-- goes on after this text where it is there, and else in another way
abbrev pub past_or : {A : Type 0} → Option (List ℕ) → (List ℕ → A) → A → A
past_or None f other = other
past_or (Some rest) f other = f rest

-- goes on after a part, which tells nothing of the layout
abbrev pub then_rest : {A B : Type 0} → PartRead A → (List ℕ → Option B) → Option B
then_rest part f = option_and_then (λ p. f p.1) part

-- goes on with a part and what is after it
abbrev pub with_part : {A B : Type 0} → PartRead A → (A → List ℕ → Option B) → Option B
with_part part f = option_and_then (λ p. f p.0 p.1) part

-- the bytes up to the first that fails the test, and those from it on
abbrev pub run_of : (ℕ → Bool) → List ℕ → List ℕ × List ℕ
run_of test [] = ([], [])
run_of test (b ∷ bytes) = if test b then (b ∷ (run_of test bytes).0, (run_of test bytes).1) else ([], b ∷ bytes)

-- one byte or more that pass the test
abbrev pub read_run : (ℕ → Bool) → List ℕ → PartRead (List ℕ)
read_run test bytes = if length (run_of test bytes).0 == 0 then None else Some (run_of test bytes)

-- a number by its digits
unfoldable pub is_digit : ℕ → Bool
is_digit b = nat_le 48 b && nat_le b 57

abbrev pub digits_number : ℕ → List ℕ → ℕ
digits_number n [] = n
digits_number n (b ∷ bs) = digits_number (10 * n + (b - 48)) bs

abbrev pub read_decimal : List ℕ → PartRead ℕ
read_decimal bytes = option_map (λ p. (digits_number 0 p.0, p.1)) (read_run is_digit bytes)

-- a word of English letters, digits and underscores
unfoldable pub is_word : ℕ → Bool
is_word b = ((nat_le 65 b && nat_le b 90) || ((nat_le 97 b && nat_le b 122) || b == 95)) || is_digit b

abbrev pub read_word : List ℕ → PartRead (List ℕ)
read_word bytes = read_run is_word bytes

-- a text in quotes, after the first of them: printable ASCII without quotes and backslashes
unfoldable pub is_quoted : ℕ → Bool
is_quoted b = (nat_le 32 b && nat_le b 126) && not (b == 34 || b == 92)

abbrev pub read_quoted : List ℕ → PartRead (List ℕ)
read_quoted bytes = read_run is_quoted bytes

-- ---- the types of fields

-- whole numbers, by their types' texts, with the bytes that they have
abbrev pub whole_types : List (List ℕ × ℕ)
whole_types =
    (codes "uint8_t", 1) ∷ (codes "uint16_t", 2) ∷ (codes "uint32_t", 4) ∷ (codes "uint64_t", 8)
    ∷ (codes "integer { size = 8; align = 8; signed = true; }", 1) ∷ (codes "integer { size = 16; align = 8; signed = true; }", 2)
    ∷ (codes "integer { size = 32; align = 8; signed = true; }", 4) ∷ (codes "integer { size = 64; align = 8; signed = true; }", 8) ∷ []

abbrev pub float_types : List (List ℕ × ℕ)
float_types =
    (codes "floating_point { exp_dig = 8; mant_dig = 24; align = 8; }", 4) ∷ (codes "floating_point { exp_dig = 11; mant_dig = 53; align = 8; }", 8) ∷ []

-- the first of these types that stands there
abbrev pub read_type_of : List (List ℕ × ℕ) → List ℕ → PartRead ℕ
read_type_of [] bytes = None
read_type_of (type ∷ types) bytes = past_or (rest_past type.0 bytes) (λ rest. Some (type.1, rest)) (read_type_of types bytes)

-- a label, and the number that has it
abbrev pub read_label : List ℕ → PartRead (List ℕ × ℕ)
read_label bytes =
    past (codes "\"") bytes (λ rest.
    then_read (read_quoted rest) (λ label rest.
    past (codes "\" = ") rest (λ rest.
    then_read (read_decimal rest) (λ number rest. past (codes ", ") rest (λ rest. Some ((label, number), rest))))))

-- labels up to the brace after them, of so many at most; a label takes some bytes, so as many as there are bytes are enough
abbrev pub read_labels : ℕ → List ℕ → PartRead (List (List ℕ × ℕ))
read_labels zero bytes = None
read_labels (suc most) bytes =
    past_or (rest_past (codes "}") bytes) (λ rest. Some ([], rest))
    (then_read (read_label bytes) (λ label rest. option_map (λ p. (label ∷ p.0, p.1)) (read_labels most rest)))

-- a type, and how many bytes its values have: a number's, or an enumeration of labels over a whole number's
abbrev pub read_type : List ℕ → PartRead ℕ
read_type bytes =
    past_or (rest_past (codes "enum : ") bytes)
    (λ rest. then_read (read_type_of whole_types rest) (λ width rest. past (codes " { ") rest (λ rest. option_map (λ p. (width, p.1)) (read_labels (length rest) rest))))
    (read_type_of (whole_types ++ float_types) bytes)

-- ---- events

-- a field of numbers
abbrev pub read_number_field : List ℕ → PartRead FieldLayout
read_number_field bytes =
    then_read (read_type bytes) (λ width rest.
    past (codes " ") rest (λ rest.
    then_read (read_word rest) (λ name rest. past (codes ";\n") rest (λ rest. Some (record { name = name; width = width }, rest)))))

-- what stands before a text's name: the type of its characters
abbrev pub text_front : List ℕ
text_front = codes "integer { size = 8; align = 8; signed = false; encoding = UTF8; } "

-- a text of so many bytes as words of eight: one to eight of them
abbrev pub text_layouts : List ℕ → ℕ → Option (List FieldLayout)
text_layouts name size =
    if (size % 8 == 0) && (nat_le 8 size && nat_le size 64) then Some (replicate (size / 8) (record { name = name; width = 8 })) else None

-- a text, from its name on: each of its words is a field of that name
abbrev pub read_text_field : List ℕ → PartRead (List FieldLayout)
read_text_field bytes =
    then_read (read_word bytes) (λ name rest.
    past (codes "[") rest (λ rest.
    then_read (read_decimal rest) (λ size rest. past (codes "];\n") rest (λ rest. option_map (λ fields. (fields, rest)) (text_layouts name size)))))

-- a line: a text, or one field
abbrev pub read_field : List ℕ → PartRead (List FieldLayout)
read_field bytes =
    past (codes "\t\t") bytes (λ rest.
    past_or (rest_past text_front rest) read_text_field (option_map (λ p. (p.0 ∷ [], p.1)) (read_number_field rest)))

-- fields up to the end of their event, of so many at most
abbrev pub read_fields : ℕ → List ℕ → PartRead (List FieldLayout)
read_fields zero bytes = None
read_fields (suc most) bytes =
    past_or (rest_past (codes "\t};\n};\n") bytes) (λ rest. Some ([], rest))
    (then_read (read_field bytes) (λ fields rest. option_map (λ p. (fields ++ p.0, p.1)) (read_fields most rest)))

abbrev pub read_event_text : List ℕ → PartRead EventLayout
read_event_text bytes =
    past (codes "\nevent {\n\tid = ") bytes (λ rest.
    then_read (read_decimal rest) (λ id rest.
    past (codes ";\n\tname = \"") rest (λ rest.
    then_read (read_quoted rest) (λ name rest.
    past (codes "\";\n\tstream_id = 0;\n\tfields := struct {\n") rest (λ rest.
    option_map (λ p. (record { id = id; name = name; fields = p.0 }, p.1)) (read_fields (length rest) rest))))))

-- events up to the end of the text, of so many at most
abbrev pub read_event_texts : ℕ → List ℕ → Option (List EventLayout)
read_event_texts most [] = Some []
read_event_texts zero (b ∷ bytes) = None
read_event_texts (suc most) (b ∷ bytes) =
    option_and_then (λ p. option_map (λ events. p.0 ∷ events) (read_event_texts most p.1)) (read_event_text (b ∷ bytes))

-- ---- what stands before them

-- the types, and the trace up to its uuid
abbrev pub types_lines : List ℕ
types_lines =
    codes "/* CTF 1.8 */\n\ntypealias integer { size = 8; align = 8; signed = false; } := uint8_t;\n"
    ++ codes "typealias integer { size = 16; align = 8; signed = false; } := uint16_t;\n"
    ++ codes "typealias integer { size = 32; align = 8; signed = false; } := uint32_t;\ntypealias integer { size = 64; align = 8; signed = false; } := uint64_t;\n"

abbrev pub trace_lines : List ℕ
trace_lines = codes "\ntrace {\n\tmajor = 1;\n\tminor = 8;\n\tuuid = \""

-- the byte order and the header of packets, and the environment's beginning
abbrev pub header_lines : List ℕ
header_lines =
    codes "\";\n\tbyte_order = le;\n\tpacket.header := struct {\n\t\tuint32_t magic;\n\t\tuint8_t uuid[16];\n\t\tuint32_t stream_id;\n\t};\n};\n\nenv {\n"

-- the process, where it is told
abbrev pub read_process : List ℕ → Option (List ℕ)
read_process bytes =
    past_or (rest_past (codes "\thostname = \"") bytes) (λ rest.
    then_rest (read_quoted rest) (λ rest.
    past (codes "\";\n\tprocname = \"") rest (λ rest.
    then_rest (read_quoted rest) (λ rest. past (codes "\";\n\tvpid = ") rest (λ rest. then_rest (read_decimal rest) (rest_past (codes ";\n")))))))
    (Some bytes)

-- the uuid of the clock, where it is told, and where it began
abbrev pub read_clock_uuid : List ℕ → Option (List ℕ)
read_clock_uuid bytes = past_or (rest_past (codes "\tuuid = \"") bytes) (λ rest. then_rest (read_quoted rest) (rest_past (codes "\";\n"))) (Some bytes)

abbrev pub read_clock_start : List ℕ → Option (List ℕ)
read_clock_start bytes =
    past_or (rest_past (codes "\toffset_s = ") bytes) (λ rest.
    then_rest (read_decimal rest) (λ rest. past (codes ";\n\toffset = ") rest (λ rest. then_rest (read_decimal rest) (rest_past (codes ";\n\tabsolute = true;\n")))))
    (Some bytes)

-- the clock, where there is one, with the type of its stamps
abbrev pub read_clock : List ℕ → PartRead Bool
read_clock bytes =
    past_or (rest_past (codes "\nclock {\n\tname = stamp;\n\tfreq = ") bytes) (λ rest.
    then_rest (read_decimal rest) (λ rest.
    past (codes ";\n") rest (λ rest.
    option_and_then (λ rest.
    option_and_then (λ rest.
    past (codes "};\n\ntypealias integer { size = 64; align = 8; signed = false; map = clock.stamp.value; } := stamp_t;\n") rest (λ rest. Some (true, rest)))
    (read_clock_start rest)) (read_clock_uuid rest))))
    (Some (false, bytes))

-- the context of packets and the header of events, with stamps where there is a clock
abbrev pub stream_lines : Bool → List ℕ
stream_lines false =
    codes "\nstream {\n\tid = 0;\n\tpacket.context := struct {\n\t\tuint64_t content_size;\n\t\tuint64_t packet_size;\n\t\tuint64_t events_discarded;\n"
    ++ codes "\t\tuint32_t cpu_id;\n\t};\n\tevent.header := struct {\n\t\tuint32_t id;\n\t};\n};\n"
stream_lines true =
    codes "\nstream {\n\tid = 0;\n\tpacket.context := struct {\n\t\tstamp_t timestamp_begin;\n\t\tstamp_t timestamp_end;\n\t\tuint64_t content_size;\n"
    ++ codes "\t\tuint64_t packet_size;\n\t\tuint64_t events_discarded;\n\t\tuint32_t cpu_id;\n\t};\n\tevent.header := struct {\n\t\tuint32_t id;\n"
    ++ codes "\t\tstamp_t timestamp;\n\t};\n};\n"

-- the streams, and then the events
abbrev pub read_streams : Bool → List ℕ → Option Layout
read_streams timed bytes =
    past (stream_lines timed) bytes (λ rest. option_map (λ events. record { timed = timed; events = events }) (read_event_texts (length rest) rest))

abbrev pub read_metadata : List ℕ → Option Layout
read_metadata bytes =
    past types_lines bytes (λ rest.
    past trace_lines rest (λ rest.
    then_rest (read_quoted rest) (λ rest.
    past header_lines rest (λ rest.
    option_and_then (λ rest.
    past (codes "\ttracer_name = \"sidingyarrow\";\n};\n") rest (λ rest.
    with_part (read_clock rest) read_streams)) (read_process rest)))))
