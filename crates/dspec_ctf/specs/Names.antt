-- Cited by calls. Which names events and fields may have, and which of them is the first that they may not.
use Rattle.std.specs.{List.list_any, List.list_all, List.range_with_len, Option.option_map, Option.option_map_or, Prelude.ℕ, Prelude.zero, Prelude.suc, Prelude.◌+◌, Prelude.◌==◌, Prelude.not}
use Rattle.std.specs.{Prelude.nat_le, Prelude.nat_lt, Prelude.Bool, Prelude.true, Prelude.false, Prelude.◌&&◌, Prelude.◌||◌, Prelude.List, Prelude.[], Prelude.◌∷◌, Prelude.length, Prelude.map}
use Rattle.std.specs.{Prelude.take, Prelude.slice_get, Prelude.slice_index_or, Prelude.codes, Prelude.Option, Prelude.Some, Prelude.None, Prelude.option_and_then, Prelude.if◌then◌else◌}
use Rattle.std.specs.{Str.bytes_eq}
use Rattle.dspec_ctf.specs.Packets.{event_fields}
use Rattle.dspec_ctf.specs.Words.Outside.{EnabledRows, width, next_words, Header, Field, One, Kind, Unsigned, Text, TextNext, ProbeNames}
use Rattle.dspec_ctf.specs.declared.{fault.MetadataFault.MetadataFault, fault.MetadataFault.TheVariants.NoStamp, fault.MetadataFault.TheVariants.NoFrequency, fault.MetadataFault.TheVariants.Name}
use Rattle.dspec_ctf.specs.declared.{fault.MetadataFault.TheVariants.HostName, fault.MetadataFault.TheVariants.ProcessName, fault.NameFault.NameFault, fault.NameFault.TheVariants.EventCount}
use Rattle.dspec_ctf.specs.declared.{fault.NameFault.TheVariants.Event, fault.NameFault.TheVariants.FieldCount, fault.NameFault.TheVariants.Field as FieldName, fault.NameFault.TheVariants.Label}
use Rattle.dspec_ctf.specs.declared.{fault.NameFault.TheVariants.Word, fault.NameKind.NameKind, fault.NameKind.TheVariants.TooLong, fault.NameKind.TheVariants.NotAnIdentifier}
use Rattle.dspec_ctf.specs.declared.{fault.NameKind.TheVariants.Reserved, fault.NameKind.TheVariants.Repeated, form.Form.Form, form.Form.TheVariants.AsTaken, form.Form.TheVariants.ByTime}
use Rattle.dspec_ctf.specs.declared.{names.Names.Names, names.Names.TheVariants.Numbered, names.Names.TheVariants.Given, origin.Origin.Origin, origin.Process.Process}
use Rattle.dspec_record.specs.declared.header.Header.TheVariants as header

-- an English letter or the underscore
unfoldable pub is_letter : ℕ → Bool
is_letter b = (nat_le 65 b && nat_le b 90) || ((nat_le 97 b && nat_le b 122) || b == 95)

-- one of these, or a digit
unfoldable pub is_word_byte : ℕ → Bool
is_word_byte b = is_letter b || (nat_le 48 b && nat_le b 57)

unfoldable pub begins_well : List ℕ → Bool
begins_well [] = false
begins_well (b ∷ bs) = is_letter b

abbrev pub is_identifier : List ℕ → Bool
is_identifier name = begins_well name && list_all is_word_byte name

-- the words that the language keeps for itself
unfoldable pub reserved_words : List (List ℕ)
reserved_words =
    codes "align" ∷ codes "callsite" ∷ codes "const" ∷ codes "char" ∷ codes "clock" ∷ codes "double" ∷ codes "enum"
    ∷ codes "env" ∷ codes "event" ∷ codes "floating_point" ∷ codes "float" ∷ codes "integer" ∷ codes "int" ∷ codes "long"
    ∷ codes "short" ∷ codes "signed" ∷ codes "stream" ∷ codes "string" ∷ codes "struct" ∷ codes "trace"
    ∷ codes "typealias" ∷ codes "typedef" ∷ codes "unsigned" ∷ codes "variant" ∷ codes "void" ∷ codes "_Bool"
    ∷ codes "_Complex" ∷ codes "_Imaginary" ∷ []

-- why a word is no name, if it isn't
unfoldable pub unfit : List ℕ → Option NameKind
unfit name =
    if nat_lt 255 (length name) then Some TooLong
    else if not (is_identifier name) then Some NotAnIdentifier
    else if list_any (bytes_eq name) reserved_words then Some Reserved
    else None

-- the first that there is
abbrev pub earlier : {A : Type 0} → Option A → Option A → Option A
earlier (Some x) later = Some x
earlier None later = later

-- what the first place has for which there is something
abbrev pub first_found : {A : Type 0} → (ℕ → Option A) → List ℕ → Option A
first_found f [] = None
first_found f (place ∷ places) = earlier (f place) (first_found f places)

-- why a name can't stand after these; `stamp` may be taken
unfoldable pub bad_name : Bool → List (List ℕ) → List ℕ → Option NameKind
bad_name stamped before name =
    earlier (unfit name)
    (if (stamped && bytes_eq name (codes "stamp")) || list_any (bytes_eq name) before then Some Repeated else None)

-- the first place with a bad name
unfoldable pub bad_at : Bool → List (List ℕ) → ℕ → Option (ℕ × NameKind)
bad_at stamped names place =
    option_map (λ kind. (place, kind)) (bad_name stamped (take place names) (slice_index_or names place []))

unfoldable pub first_bad : Bool → List (List ℕ) → Option (ℕ × NameKind)
first_bad stamped names = first_found (bad_at stamped names) (range_with_len 0 (length names))

-- each event has a field `stamp` as taken, where records have a stamp
abbrev pub has_stamp : Form → Header → Bool
has_stamp AsTaken header.Two = true
has_stamp _ _ = false

-- a text of one line in quotes: printable ASCII without quotes and backslashes, one byte at least
unfoldable pub is_label_byte : ℕ → Bool
is_label_byte b = (nat_le 32 b && nat_le b 126) && not (b == 34 || b == 92)

unfoldable pub is_label : List ℕ → Bool
is_label label = (nat_le 1 (length label) && nat_le (length label) 255) && list_all is_label_byte label

-- what the values of the field at a place are called, 0 first
abbrev pub labels_at : ProbeNames → ℕ → List (List ℕ)
labels_at n place = option_map_or (λ all. option_map_or (λ ls. map (λ l. l.now) ls.now) (slice_get all.now place) []) n.labels []

-- the first of them that can't be shown
unfoldable pub bad_label_at : List (List ℕ) → ℕ → Option ℕ
bad_label_at labels number = if is_label (slice_index_or labels number []) then None else Some number

unfoldable pub first_bad_label : List (List ℕ) → Option ℕ
first_bad_label labels = first_found (bad_label_at labels) (range_with_len 0 (length labels))

-- the same of the labels of the field at a place of an event
unfoldable pub label_fault_at : ℕ → ProbeNames → ℕ → Option NameFault
label_fault_at epid n place = option_map (λ number. Label epid place number) (first_bad_label (labels_at n place))

unfoldable pub labels_fault : ℕ → ProbeNames → Option NameFault
labels_fault epid n = first_found (label_fault_at epid n) (range_with_len 0 (length n.fields.now))

-- what is wrong with the names of the fields of an event, of which so many are next words of a text and have none
unfoldable pub fields_fault : Bool → ℕ → List (List ℕ) → ℕ → List Field → Option NameFault
fields_fault stamped epid names next fs =
    if length names + next == length fs then option_map (λ bad. FieldName epid bad.0 bad.1) (first_bad stamped names)
    else Some (FieldCount epid)

-- a word of a text
abbrev pub is_text : Kind → Bool
is_text Text = true
is_text TextNext = true
is_text _ = false

-- the field in front of this place is a word of a text
abbrev pub is_text_before : List Kind → ℕ → Bool
is_text_before kinds zero = false
is_text_before kinds (suc place) = is_text (slice_index_or kinds place Unsigned)

-- A field can mean this. A text's words have eight bytes, and a next word has one in front of it.
abbrev pub can_mean : Kind → Bool → Bool → Bool
can_mean Text eight before = eight
can_mean TextNext eight before = eight && before
can_mean _ eight before = true

unfoldable pub text_fault_at : ℕ → List Kind → List Field → ℕ → Option NameFault
text_fault_at epid kinds fs place =
    if can_mean (slice_index_or kinds place Unsigned) (width (slice_index_or fs place One) == 8) (is_text_before kinds place) then None
    else Some (Word epid place)

unfoldable pub texts_fault : ℕ → List Kind → List Field → Option NameFault
texts_fault epid kinds fs = first_found (text_fault_at epid kinds fs) (range_with_len 0 (length kinds))

-- the same of the event at a place, and what is wrong with its texts' words and with the labels of its fields
unfoldable pub fault_at : Bool → EnabledRows → List ProbeNames → ℕ → Option NameFault
fault_at stamped e given place =
    option_and_then
    (λ n. earlier (fields_fault stamped (place + 1) (map (λ name. name.now) n.fields.now) (next_words n.kinds) (event_fields e (place + 1)))
    (earlier (texts_fault (place + 1) n.kinds (event_fields e (place + 1))) (labels_fault (place + 1) n)))
    (slice_get given place)

-- what is wrong with the names of the events, one for each enabling
unfoldable pub events_fault : List (List ℕ) → Option NameFault
events_fault names = option_map (λ bad. Event (bad.0 + 1) bad.1) (first_bad false names)

-- the first thing that is wrong with names for these enablings; nothing where they are numbered
unfoldable pub names_fault : Form → EnabledRows → Names → Option NameFault
names_fault form e Numbered = None
names_fault form e (Given given) =
    if length given.now == length e.rows
    then earlier (events_fault (map (λ n. n.event.now) given.now))
    (first_found (fault_at (has_stamp form e.header) e given.now) (range_with_len 0 (length e.rows)))
    else Some EventCount

-- by time each record has a stamp, and the clock ticks
unfoldable pub form_fault : Form → Header → Option MetadataFault
form_fault AsTaken _ = None
form_fault (ByTime frequency) header.One = Some NoStamp
form_fault (ByTime frequency) header.Two = if frequency == 0 then Some NoFrequency else None

-- why a trace has no metadata
unfoldable pub metadata_fault : Form → EnabledRows → Names → Option MetadataFault
metadata_fault form e names = earlier (form_fault form e.header) (option_map (λ fault. Name fault) (names_fault form e names))

-- a text of the process that can't be shown
unfoldable pub process_fault : Process → Option MetadataFault
process_fault p = if not (is_label p.host.now) then Some HostName else if not (is_label p.name.now) then Some ProcessName else None

-- why a trace of this origin has no metadata
unfoldable pub origin_fault : Origin → Form → EnabledRows → Names → Option MetadataFault
origin_fault origin form e names = earlier (metadata_fault form e names) (option_and_then process_fault origin.process)
