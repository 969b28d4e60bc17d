-- Cited by calls. What files add to the counts of their CPU.
use Rattle.std.specs.List.{count_by, filter_map, fold}
use Rattle.std.specs.Prelude.{◌≡◌, ℕ, ◌+◌, ◌-◌, ◌^◌, ◌==◌, min, max, Option, Some, None, List, [], ◌∷◌, length, slice_index}
use Rattle.dspec_ctf_reading.specs.{Reading.Layout, Reading.PacketRead, Reading.events_of, Reading.loss_of, Told.first_place, declared.folder.counts.CpuCounts.CpuCounts}
use Rattle.dspec_ctf_reading.specs.{declared.folder.packet.ReadPacket.ReadPacket}

-- a sum that stops where 64 bits do
abbrev pub up_to_64 : ℕ → ℕ
up_to_64 n = min n (2 ^ 64 - 1)

-- the least and the greatest of stamps, and of a span that they widen
abbrev pub span_from : Option (ℕ × ℕ) → List ℕ → Option (ℕ × ℕ)
span_from None [] = None
span_from None (s ∷ stamps) = Some (fold min s stamps, fold max s stamps)
span_from (Some span) stamps = Some (fold min span.0 stamps, fold max span.1 stamps)

-- What packets of a file, read by its layout, add to the counts of its CPU: each event to those of its kind, and what the last of them says was missed.
pub record CountsPackets (layout : Layout) (packets : List PacketRead) (old new : CpuCounts) : Type 0 where
  pub cpu : new.cpu ≡ old.cpu
  pub files : new.files ≡ up_to_64 (old.files + 1)
  pub packets_are : new.packets ≡ up_to_64 (old.packets + length packets)
  pub missed : new.missed ≡ up_to_64 (old.missed + loss_of packets)
  pub kinds : length new.events.items ≡ length old.events.items
  pub events : (place : ℕ) → slice_index new.events.items place
      ≡ slice_index old.events.items place + count_by (λ e. first_place e.id layout.events == place) (events_of packets)
  pub span : new.span ≡ span_from old.span (filter_map (λ e. e.stamp) (events_of packets))

-- another file is counted, and nothing else
pub record BeginsFile (old new : CpuCounts) : Type 0 where
  pub cpu : new.cpu ≡ old.cpu
  pub files : new.files ≡ up_to_64 (old.files + 1)
  pub packets : new.packets ≡ old.packets
  pub missed : new.missed ≡ old.missed
  pub events : new.events ≡ old.events
  pub span : new.span ≡ old.span

-- what a packet in memory adds, where so many events were missed before its file
pub record CountsPacket (before : ℕ) (packet : ReadPacket) (old new : CpuCounts) : Type 0 where
  pub cpu : new.cpu ≡ old.cpu
  pub files : new.files ≡ old.files
  pub packets : new.packets ≡ up_to_64 (old.packets + 1)
  pub missed : new.missed ≡ up_to_64 (before + packet.front.discarded)
  pub kinds : length new.events.items ≡ length old.events.items
  pub events : (place : ℕ) → slice_index new.events.items place
      ≡ slice_index old.events.items place + count_by (λ e. e.place == place) packet.events.items
  pub span : new.span ≡ span_from old.span (filter_map (λ e. e.stamp) packet.events.items)
