-- Cited by calls. What the bytes of a trace's files say, in the Common Trace Format, version 1.8, by what its metadata tells of them. Numbers are
-- little-endian, and nothing stands between two parts. A packet may be longer than what it has: the bytes after its events say nothing, whatever they
-- are. What is none of this is refused.
use Rattle.std.specs.List.{flat_map}
use Rattle.std.specs.Option.{option_map, option_and_then}
use Rattle.std.specs.Prelude.{ℕ, zero, suc, ◌+◌, ◌-◌, ◌*◌, ◌/◌, ◌%◌, ◌==◌, nat_le, Bool, true, false, ◌&&◌, List, [], ◌∷◌, length, take, drop, Option, Some, None, if◌then◌else◌}

-- ---- what the metadata tells

-- a field of an event: its name, and in how many bytes its values are
pub record FieldLayout : Type 0 where
  pub name : List ℕ
  pub width : ℕ

-- the events of one number: their name, and their fields in order
pub record EventLayout : Type 0 where
  pub id : ℕ
  pub name : List ℕ
  pub fields : List FieldLayout

-- Whether the trace has a clock: then a packet has the stamps of its first event and of its last, and an event its own. And which
-- events there are.
pub record Layout : Type 0 where
  pub timed : Bool
  pub events : List EventLayout

-- ---- what is read

-- an event: its number, its name, its stamp where the trace has a clock, and each value under its field's name
pub record EventRead : Type 0 where
  pub id : ℕ
  pub name : List ℕ
  pub stamp : Option ℕ
  pub values : List (List ℕ × ℕ)

-- A packet: the trace's 16 bytes, the CPU, how many events were missed so far, the stamps between which its events lie where the
-- trace has a clock, and the events.
pub record PacketRead : Type 0 where
  pub uuid : List ℕ
  pub cpu : ℕ
  pub discarded : ℕ
  pub span : Option (ℕ × ℕ)
  pub events : List EventRead

-- ---- the parts

-- a part that was read from the front of the bytes, and the bytes after it; or nothing, where they don't begin with such a part
abbrev pub PartRead : Type 0 → Type 0
PartRead A = Option (A × List ℕ)

-- goes on after a part
abbrev pub then_read : {A B : Type 0} → PartRead A → (A → List ℕ → PartRead B) → PartRead B
then_read part f = option_and_then (λ p. f p.0 p.1) part

-- a number of so many bytes, the lowest first
abbrev pub read_number : ℕ → List ℕ → PartRead ℕ
read_number zero bytes = Some (0, bytes)
read_number (suc n) [] = None
read_number (suc n) (b ∷ bytes) = option_map (λ p. (b + 256 * p.0, p.1)) (read_number n bytes)

-- so many bytes as they stand
abbrev pub read_bytes : ℕ → List ℕ → PartRead (List ℕ)
read_bytes n bytes = if nat_le n (length bytes) then Some (take n bytes, drop n bytes) else None

-- a stamp, where there is a clock
abbrev pub read_stamp : Bool → List ℕ → PartRead (Option ℕ)
read_stamp false bytes = Some (None, bytes)
read_stamp true bytes = option_map (λ p. (Some p.0, p.1)) (read_number 8 bytes)

-- two stamps, where there is a clock
abbrev pub read_span : Bool → List ℕ → PartRead (Option (ℕ × ℕ))
read_span false bytes = Some (None, bytes)
read_span true bytes = then_read (read_number 8 bytes) (λ begin rest. option_map (λ p. (Some (begin, p.0), p.1)) (read_number 8 rest))

-- ---- events

-- the layout of the events with this number: the first that has it
abbrev pub find_event : ℕ → List EventLayout → Option EventLayout
find_event id [] = None
find_event id (event ∷ events) = if event.id == id then Some event else find_event id events

-- a value for each field, one after another
abbrev pub read_payload : List FieldLayout → List ℕ → PartRead (List (List ℕ × ℕ))
read_payload [] bytes = Some ([], bytes)
read_payload (field ∷ fields) bytes =
    then_read (read_number field.width bytes) (λ value rest. option_map (λ p. ((field.name, value) ∷ p.0, p.1)) (read_payload fields rest))

-- what stands after an event's number: its stamp, then its values
abbrev pub read_event_body : Bool → EventLayout → List ℕ → PartRead EventRead
read_event_body timed event bytes =
    then_read (read_stamp timed bytes) (λ stamp rest.
    option_map (λ p. (record { id = event.id; name = event.name; stamp = stamp; values = p.0 }, p.1)) (read_payload event.fields rest))

-- an event: a number that the metadata knows, in four bytes, and what stands after it
abbrev pub read_event : Layout → List ℕ → PartRead EventRead
read_event layout bytes =
    then_read (read_number 4 bytes) (λ id rest. option_and_then (λ event. read_event_body layout.timed event rest) (find_event id layout.events))

-- Events that end where the bytes end, of so many at most. The number only shows that this comes to an end: an event takes some bytes, so as
-- many as there are bytes are enough.
abbrev pub read_events_within : ℕ → Layout → List ℕ → Option (List EventRead)
read_events_within most layout [] = Some []
read_events_within zero layout (b ∷ bytes) = None
read_events_within (suc most) layout (b ∷ bytes) =
    option_and_then (λ p. option_map (λ events. p.0 ∷ events) (read_events_within most layout p.1)) (read_event layout (b ∷ bytes))

-- the events that fill the bytes
abbrev pub read_events : Layout → List ℕ → Option (List EventRead)
read_events layout bytes = read_events_within (length bytes) layout bytes

-- ---- packets

-- what a packet tells before its events; sizes are in bits, from the packet's first byte on
pub record FrontRead : Type 0 where
  pub uuid : List ℕ
  pub span : Option (ℕ × ℕ)
  pub content_size : ℕ
  pub packet_size : ℕ
  pub discarded : ℕ
  pub cpu : ℕ

-- a number of so many bytes that has to be this one
abbrev pub read_this : ℕ → ℕ → List ℕ → PartRead (Unit {0})
read_this n x bytes = option_and_then (λ p. if p.0 == x then Some (tt, p.1) else None) (read_number n bytes)

-- the header of a packet: the magic number of the format, the trace's 16 bytes, and the number of the stream's kind, of which there is one, 0
abbrev pub read_header : List ℕ → PartRead (List ℕ)
read_header bytes =
    then_read (read_this 4 3254525889 bytes) (λ _ rest.
    then_read (read_bytes 16 rest) (λ uuid rest. option_map (λ p. (uuid, p.1)) (read_this 4 0 rest)))

-- after the stamps: the size of what the packet has, its front and its events, its own size, how many events were missed so far, and the CPU
abbrev pub read_counts : List ℕ → Option (ℕ × ℕ) → List ℕ → PartRead FrontRead
read_counts uuid span bytes =
    then_read (read_number 8 bytes) (λ content_size rest.
    then_read (read_number 8 rest) (λ packet_size rest.
    then_read (read_number 8 rest) (λ discarded rest.
    option_map (λ p. (record { uuid = uuid; span = span; content_size = content_size; packet_size = packet_size; discarded = discarded; cpu = p.0 }, p.1))
    (read_number 4 rest))))

-- the header, and the context after it
abbrev pub read_front : Bool → List ℕ → PartRead FrontRead
read_front timed bytes =
    then_read (read_header bytes) (λ uuid rest. then_read (read_span timed rest) (λ span rest. read_counts uuid span rest))

-- Both sizes are of whole bytes. The content ends no earlier than what was read of the packet, so many bytes, and no later than the packet; the packet
-- ends no later than the file, which has so many.
abbrev pub sizes_agree : FrontRead → ℕ → ℕ → Bool
sizes_agree front read there =
    front.content_size % 8 == 0
    && (front.packet_size % 8 == 0
    && (nat_le read (front.content_size / 8) && (nat_le front.content_size front.packet_size && nat_le (front.packet_size / 8) there)))

-- the packet whose events fill these bytes
abbrev pub with_events : Layout → FrontRead → List ℕ → Option PacketRead
with_events layout front body =
    option_map (λ events. record { uuid = front.uuid; cpu = front.cpu; discarded = front.discarded; span = front.span; events = events })
    (read_events layout body)

-- A packet: its front, then events up to the end of its content. What is after them up to its own end is passed over. All bytes are given besides
-- those after the front, for the sizes.
abbrev pub read_body : Layout → List ℕ → FrontRead → List ℕ → PartRead PacketRead
read_body layout bytes front rest =
    if sizes_agree front (length bytes - length rest) (length bytes)
    then option_map (λ packet. (packet, drop (front.packet_size / 8) bytes))
    (with_events layout front (take (front.content_size / 8 - (length bytes - length rest)) rest))
    else None

abbrev pub read_packet : Layout → List ℕ → PartRead PacketRead
read_packet layout bytes = then_read (read_front layout.timed bytes) (λ front rest. read_body layout bytes front rest)

-- packets one after another up to the end of the bytes, of so many at most; as with events, as many as there are bytes are enough
abbrev pub read_packets_within : ℕ → Layout → List ℕ → Option (List PacketRead)
read_packets_within most layout [] = Some []
read_packets_within zero layout (b ∷ bytes) = None
read_packets_within (suc most) layout (b ∷ bytes) =
    option_and_then (λ p. option_map (λ packets. p.0 ∷ packets) (read_packets_within most layout p.1)) (read_packet layout (b ∷ bytes))

-- a file
abbrev pub read_file : Layout → List ℕ → Option (List PacketRead)
read_file layout bytes = read_packets_within (length bytes) layout bytes

-- all events of a file
abbrev pub events_of : List PacketRead → List EventRead
events_of packets = flat_map (λ packet. packet.events) packets

-- how many events a file says were missed, up to its end: what its last packet says, and none where there is no packet
abbrev pub loss_of : List PacketRead → ℕ
loss_of [] = 0
loss_of (packet ∷ []) = packet.discarded
loss_of (packet ∷ other ∷ packets) = loss_of (other ∷ packets)
