-- Cited by calls. The packets of files that are written while a session runs. Each has 1,024 bytes: a write that is cut off where a page of the
-- file ends leaves whole packets.
use Rattle.std.specs.List.{flat_map}
use Rattle.std.specs.Prelude.{ℕ, ◌≡◌, ◌<◌, ◌⊎◌, vec_capacity, vec_len, ◌+◌, ◌-◌, Bool, true, false, nat_le, List, [], ◌∷◌, ◌++◌, length, replicate, Option, Some, None, if◌then◌else◌}
use Rattle.std.specs.declared.vec.Vec.{Vec}
use Rattle.dspec_ctf.specs.{ByTime.span_of, Packets.event, Packets.events, Packets.front_bytes, Packets.front_size, Streams.IsText, Words.Outside.Record, Words.Outside.EnabledRows}

-- how many bytes each of these packets has
abbrev pub filled_size : ℕ
filled_size = 1024

-- the most bytes of events while such a packet is made: what it has room for, with one event more
abbrev pub most_body : ℕ
most_body = 1048

-- there is no room for so many bytes of packets, or none for the events of one packet
abbrev pub LacksBytes : ℕ → ℕ → ℕ → Type 0
LacksBytes bytes body needed = (bytes < needed) ⊎ (body < most_body)

-- so it is of packets that are made anew
abbrev pub LacksRoomAnew : {Z : Type 0} → Vec ℕ Z → Vec ℕ Z → List ℕ → Type 0
LacksRoomAnew out body packets = LacksBytes (vec_capacity out) (vec_capacity body) (length packets)

-- so it is of packets after what is there
abbrev pub LacksRoomAfter : {Z : Type 0} → Vec ℕ Z → Vec ℕ Z → List ℕ → Type 0
LacksRoomAfter out body packets = LacksBytes (vec_capacity out) (vec_capacity body) (vec_len out + length packets)

-- a packet of that size around the bytes of its events, with zeros after them
unfoldable pub filled_around : List ℕ → Option (ℕ × ℕ) → ℕ → ℕ → List ℕ → List ℕ
filled_around uuid span missed cpu body =
    front_bytes uuid span (front_size span + length body) filled_size missed cpu ++ (body ++ replicate (filled_size - (front_size span + length body)) 0)

-- by time a packet has the stamps of its first event and of its last
abbrev pub span_by : Bool → List Record → Option (ℕ × ℕ)
span_by true rs = Some (span_of rs)
span_by false rs = None

-- so many bytes stand before its events
abbrev pub front_by : Bool → ℕ
front_by true = 68
front_by false = 52

module _ (timed : Bool) (e : EnabledRows) where
  -- a packet that has these records takes another
  abbrev pub takes_another : List Record → Record → Bool
  takes_another held r = nat_le (front_by timed + (length (events e held) + length (event e r))) filled_size

  -- The records of each packet, where the first of them has these already: it takes those that come as long as they fit, and then the next packet
  -- begins.
  abbrev pub portions_from : List Record → List Record → List (List Record)
  portions_from held [] = held ∷ []
  portions_from held (r ∷ rs) = if takes_another held r then portions_from (held ++ r ∷ []) rs else held ∷ portions_from (r ∷ []) rs

  -- the records of each packet, of all these records; where there is none, one packet without events
  abbrev pub portions : List Record → List (List Record)
  portions rs = portions_from [] rs

  module _ (uuid : List ℕ) (missed cpu : ℕ) where
    -- a packet of these records
    unfoldable pub filled_packet : List Record → List ℕ
    filled_packet rs = filled_around uuid (span_by timed rs) missed cpu (events e rs)

    -- the packets of all these records, one after another
    unfoldable pub filled_packets : List Record → List ℕ
    filled_packets rs = flat_map filled_packet (portions rs)

module _ (e : EnabledRows) where
  -- the bytes are the packets of the records of this text, as they were taken
  pub record AreFilledOf (uuid : List ℕ) (missed cpu : ℕ) (text bytes : List ℕ) : Type 0 where
    pub read : List Record
    pub is_text : IsText e text read
    pub bytes_are : bytes ≡ filled_packets false e uuid missed cpu read
