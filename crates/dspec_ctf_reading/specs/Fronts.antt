-- Cited by calls. A packet split into its front, the bytes of its events and what is after it, before any event is read. What fills it up after its
-- events is left out.
use Rattle.std.specs.Option.{option_and_then}
use Rattle.std.specs.Prelude.{ℕ, ◌-◌, ◌/◌, Bool, List, length, take, drop, Option, Some, None, if◌then◌else◌}
use Rattle.dspec_ctf_reading.specs.{Reading.FrontRead, Reading.read_front, Reading.sizes_agree, declared.fronts.Front.Front}

-- a front in memory, as it is read
abbrev pub front_of : Front → FrontRead
front_of f = record {
  uuid = f.uuid;
  span = f.span;
  content_size = f.content_size;
  packet_size = f.packet_size;
  discarded = f.discarded;
  cpu = f.cpu;
}

pub record PacketSplit : Type 0 where
  pub front : FrontRead
  pub body : List ℕ
  pub after : List ℕ

-- of a packet whose sizes agree with the bytes, of which those after its front are given besides
abbrev pub split_after : List ℕ → FrontRead → List ℕ → Option PacketSplit
split_after bytes front rest =
    if sizes_agree front (length bytes - length rest) (length bytes)
    then Some (record { front = front; body = take (front.content_size / 8 - (length bytes - length rest)) rest; after = drop (front.packet_size / 8) bytes })
    else None

abbrev pub split_packet : Bool → List ℕ → Option PacketSplit
split_packet timed bytes = option_and_then (λ p. split_after bytes p.0 p.1) (read_front timed bytes)
