-- Cited by calls. When nothing is wrong with a file of a trace.
use Rattle.std.specs.{List.flat_map, Option.option_map_or, Prelude.◌≡◌, Prelude.◌≤◌, Prelude.ℕ, Prelude.Bool, Prelude.true, Prelude.List, Prelude.[], Prelude.◌∷◌, Prelude.◌++◌, Prelude.map}
use Rattle.std.specs.{Prelude.All, Prelude.Some, Prelude.unwrap_or}
use Rattle.dspec_ctf_reading.specs.{Faults.is_event_fault, Fronts.front_of, Reading.Layout, Reading.PacketRead, Reading.read_file, Told.as_read, declared.events.Event.Event}
use Rattle.dspec_ctf_reading.specs.{declared.folder.fault.Wrong.Wrong, declared.folder.packet.ReadPacket.ReadPacket}
use Rattle.dspec_ctf_reading.specs.declared.folder.fault.Wrong.TheVariants as wrong

-- from this number on, none of the list is below the one before it
abbrev pub RisesFrom : ℕ → List ℕ → Type 0
RisesFrom before [] = Unit {0}
RisesFrom before (x ∷ xs) = (before ≤ x) × RisesFrom x xs

-- the last of the list, or this number where it has none
abbrev pub last_of : ℕ → List ℕ → ℕ
last_of before [] = before
last_of before (x ∷ xs) = last_of x xs

-- so it rises, and its last is this
abbrev pub RisesTo : ℕ → List ℕ → ℕ → Type 0
RisesTo before xs last = RisesFrom before xs × (last ≡ last_of before xs)

-- the stamps of events; each has one where the trace has a clock
abbrev pub stamps_of : List Event → List ℕ
stamps_of events = map (λ e. unwrap_or e.stamp 0) events

-- the stamps that a packet tells, in order: that of its begin, those of its events, that of its end; none without a clock
abbrev pub times_of : PacketRead → List ℕ
times_of packet = option_map_or (λ span. span.0 ∷ (map (λ e. unwrap_or e.stamp 0) packet.events ++ span.1 ∷ [])) packet.span []

-- a packet in memory, as it is read
abbrev pub packet_as_read : Layout → ReadPacket → PacketRead
packet_as_read layout p = record {
  uuid = (front_of p.front).uuid;
  cpu = p.front.cpu;
  discarded = p.front.discarded;
  span = p.front.span;
  events = map (as_read layout) p.events.items;
}

-- Nothing is wrong with a file of this trace and CPU, before which the time was this: it is packets, all of this trace and CPU, and from
-- stamp to stamp that they tell the time doesn't fall.
pub record IsSoundFrom (layout : Layout) (uuid : List ℕ) (cpu last : ℕ) (bytes : List ℕ) : Type 0 where
  pub packets : List PacketRead
  pub read : read_file layout bytes ≡ Some packets
  pub whose : All (λ p. (p.uuid ≡ uuid) × (p.cpu ≡ cpu)) packets
  pub rises : RisesFrom last (flat_map times_of packets)

-- it lies in the bytes, and isn't want of memory
abbrev pub is_of_bytes : Wrong → Bool
is_of_bytes (wrong.Event fault) = is_event_fault fault
is_of_bytes _ = true
