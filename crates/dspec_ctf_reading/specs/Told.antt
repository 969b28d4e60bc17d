-- Cited by calls. What was read in code, in the words of the definitions of reading.
use Rattle.std.specs.List.{zip}
use Rattle.std.specs.Prelude.{◌≡◌, ◌<◌, ◌+◌, ◌==◌, ℕ, List, [], ◌∷◌, length, map, slice_index_or, is_some, if◌then◌else◌}
use Rattle.dspec_ctf_reading.specs.{Fronts.PacketSplit, Fronts.front_of, Reading.FieldLayout, Reading.EventLayout, Reading.Layout, Reading.EventRead, Words.Outside.width}
use Rattle.dspec_ctf_reading.specs.{declared.events.Event.Event, declared.fronts.SplitPacket.SplitPacket, declared.told.EventText.EventText, declared.told.FieldText.FieldText}
use Rattle.dspec_ctf_reading.specs.{declared.told.Label.Label, declared.told.Metadata.Metadata}

-- a label, and the number that has it
abbrev pub told_label : Label → List ℕ × ℕ
told_label label = (label.text.now, label.number)

abbrev pub told_field : FieldText → FieldLayout
told_field field = record { name = field.name.now; width = width field.width }

abbrev pub told_event : EventText → EventLayout
told_event event = record { id = event.id; name = event.name.now; fields = map told_field event.fields.items }

-- the layout that the metadata tells: a trace with a clock has stamps
abbrev pub told_layout : Metadata → Layout
told_layout metadata = record { timed = is_some metadata.clock; events = map told_event metadata.events.items }

-- ---- events

abbrev pub names_of : List FieldLayout → List (List ℕ)
names_of fields = map (λ field. field.name) fields

-- what is told at a place of a layout; nothing where it has no such place
abbrev pub text_at : List EventLayout → ℕ → EventLayout
text_at events place = slice_index_or events place (record { id = 0; name = []; fields = [] })

-- an event in memory as it is read: the text at its place, its stamp, and its values under its fields' names
abbrev pub as_read : Layout → Event → EventRead
as_read layout event = record {
  id = (text_at layout.events event.place).id;
  name = (text_at layout.events event.place).name;
  stamp = event.stamp;
  values = zip (names_of (text_at layout.events event.place).fields) event.values.items;
}

-- where the layout of the events with this number stands: the first that has it
abbrev pub first_place : ℕ → List EventLayout → ℕ
first_place id [] = 0
first_place id (event ∷ events) = if event.id == id then 0 else 1 + first_place id events

-- there is a text at its place, the first of its number, and it has a value for each field
abbrev pub Fits : Layout → Event → Type 0
Fits layout event =
    (event.place < length layout.events) × (length event.values.items ≡ length (text_at layout.events event.place).fields)
    × (first_place (text_at layout.events event.place).id layout.events ≡ event.place)

-- ---- packets

-- a packet in memory as it is split
abbrev pub told_packet : SplitPacket → PacketSplit
told_packet packet = record { front = front_of packet.front; body = packet.body.now; after = packet.after.now }
