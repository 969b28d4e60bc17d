-- What is counted of packets, one after another.
use Rattle.std.proofs.Common.{◌≡◌, ◌<◌, ◌+◌, ◌^◌, ◌==◌, ◌++◌, ℕ, cond, List, [], ◌∷◌, length, map, take, get_or, Option, Some, None, option_map, refl, ap, sym, ◌∙◌, arith, All, append_assoc}
use Rattle.std.proofs.Common.{length-append}
use Rattle.std.proofs.lemmas.{Bool.Decides.nat_tests, Grind.flat_map-append, List.append-nil, List.take_more, List.Elements.All-head, List.Elements.All-tail, List.Elements.filter_map-append}
use Rattle.std.proofs.lemmas.{List.Sums.fold-append, List.Sums.sum_by-append, List.Sums.sum_by-cons}
use Rattle.std.specs.List.{cons_option, count_by, filter_map}
use Rattle.dspec_ctf_reading.specs.Words.{Layout, EventRead, PacketRead, read_packet, read_file, events_of, loss_of, Fits, as_read, first_place, packet_as_read, CountsPacket, CountsPackets}
use Rattle.dspec_ctf_reading.specs.Words.{BeginsFile, span_from, up_to_64}
use Rattle.dspec_ctf_reading.specs.declared.{events.Event.Event, folder.counts.CpuCounts.CpuCounts, folder.packet.ReadPacket.ReadPacket}
use Rattle.dspec_ctf_reading.proofs.Bounds.{packets-on-bytes}

-- events in memory have the stamps that are read, and stand at the places of the texts that their numbers have
stamps-read : (layout : Layout) (events : List Event) → filter_map (λ e. e.stamp) (map (as_read layout) events) ≡ filter_map (λ e. e.stamp) events
stamps-read layout [] = refl
stamps-read layout (e ∷ events) = ap (cons_option e.stamp) (stamps-read layout events)

counts-read : (layout : Layout) (place : ℕ) (events : List Event) → All (Fits layout) events
    → count_by (λ e. first_place e.id layout.events == place) (map (as_read layout) events) ≡ count_by (λ e. e.place == place) events
counts-read layout place [] fit = refl
counts-read layout place (e ∷ events) fit =
    let of_e : Fits layout e = All-head (Fits layout) e events fit in
    let more : List EventRead = map (as_read layout) events in
    sum_by-cons (λ e. cond (first_place e.id layout.events == place) 1 0) (as_read layout e) more
    ∙ ap (λ n. cond (n == place) 1 0 + count_by (λ e. first_place e.id layout.events == place) more) of_e.2
    ∙ ap (λ n. cond (e.place == place) 1 0 + n) (counts-read layout place events (All-tail (Fits layout) e events fit))
    ∙ sym (sum_by-cons (λ e. cond (e.place == place) 1 0) e events)

-- a span that is widened twice
span-join : (span : Option (ℕ × ℕ)) (xs ys : List ℕ) → span_from (span_from span xs) ys ≡ span_from span (xs ++ ys)
span-join span xs ys = grind (arith, nat_tests, fold-append)

pub span-more : (span : Option (ℕ × ℕ)) (i : ℕ) (events : List Event) (e : Event) → i < length events → e ≡ get_or events i e
    → span_from (span_from span (filter_map (λ e. e.stamp) (take i events))) (cons_option e.stamp []) ≡ span_from span (filter_map (λ e. e.stamp) (take (i + 1) events))
span-more span i events e below is =
    let some : take (i + 1) events ≡ take i events ++ e ∷ [] = take_more events i e below ∙ ap (λ x. take i events ++ x ∷ []) (sym is) in
    span-join span (filter_map (λ e. e.stamp) (take i events)) (cons_option e.stamp [])
    ∙ ap (span_from span) (sym (ap (filter_map (λ e. e.stamp)) some ∙ filter_map-append (λ e. e.stamp) (take i events) (e ∷ [])))

pub span-none : (span : Option (ℕ × ℕ)) → span ≡ span_from span []
span-none None = refl
span-none (Some span) = refl

-- what one packet more says was missed
loss-push : (ps : List PacketRead) (p : PacketRead) → loss_of (ps ++ p ∷ []) ≡ p.discarded
loss-push [] p = refl
loss-push (q ∷ []) p = refl
loss-push (q ∷ other ∷ ps) p = loss-push (other ∷ ps) p

-- no packet of the file was read yet
adds-none : (layout : Layout) (old new : CpuCounts) → old.packets < 2 ^ 64 → old.missed < 2 ^ 64 → BeginsFile old new → CountsPackets layout [] old new
adds-none layout old new few low begun = grind (arith, nat_tests, span-none)

-- one more
adds-more : (layout : Layout) (ps : List PacketRead) (p : ReadPacket) (old mid new : CpuCounts) → CountsPackets layout ps old mid → All (Fits layout) p.events.items
    → CountsPacket old.missed p mid new → CountsPackets layout (ps ++ packet_as_read layout p ∷ []) old new
adds-more layout ps p old mid new adds fit more =
    let read : PacketRead = packet_as_read layout p in
    let all : events_of (ps ++ read ∷ []) ≡ events_of ps ++ read.events =
    flat_map-append (λ packet. packet.events) ps (read ∷ []) ∙ ap (λ more. events_of ps ++ more) (append-nil read.events) in
    let longer : length (ps ++ read ∷ []) ≡ length ps + 1 = length-append ps (read ∷ []) in
    record {
      cpu = more.cpu ∙ adds.cpu;
      files = more.files ∙ adds.files;
      packets_are = omega (arith, more.packets, adds.packets_are, longer);
      missed = more.missed ∙ ap (λ n. up_to_64 (old.missed + n)) (sym (loss-push ps read));
      kinds = more.kinds ∙ adds.kinds;
      events = λ place.
          let count : List EventRead → ℕ = λ es. count_by (λ e. first_place e.id layout.events == place) es in
          let parts : count (events_of (ps ++ read ∷ [])) ≡ count (events_of ps) + count read.events =
          ap count all ∙ sum_by-append (λ e. cond (first_place e.id layout.events == place) 1 0) (events_of ps) read.events in
          omega (arith, more.events place, adds.events place, parts, counts-read layout place p.events.items fit);
      span = more.span
          ∙ ap (λ s. span_from s (filter_map (λ e. e.stamp) p.events.items)) adds.span
          ∙ span-join old.span (filter_map (λ e. e.stamp) (events_of ps)) (filter_map (λ e. e.stamp) p.events.items)
          ∙ ap (λ stamps. span_from old.span (filter_map (λ e. e.stamp) (events_of ps) ++ stamps)) (sym (stamps-read layout p.events.items))
          ∙ ap (span_from old.span) (sym (filter_map-append (λ e. e.stamp) (events_of ps) read.events))
          ∙ ap (λ es. span_from old.span (filter_map (λ e. e.stamp) es)) (sym all);
    }

-- the packets of a file up to these bytes were counted
pub record CountedTo (layout : Layout) (bytes rest : List ℕ) (old new : CpuCounts) : Type 0 where
  pub packets : List PacketRead
  pub goes_on : read_file layout bytes ≡ option_map (λ more. packets ++ more) (read_file layout rest)
  pub adds : CountsPackets layout packets old new

none-before : (o : Option (List PacketRead)) → o ≡ option_map (λ more. [] ++ more) o
none-before None = refl
none-before (Some ps) = refl

pub counted-begin : (layout : Layout) (bytes : List ℕ) (old new : CpuCounts) → old.packets < 2 ^ 64 → old.missed < 2 ^ 64 → BeginsFile old new → CountedTo layout bytes bytes old new
counted-begin layout bytes old new few low begun = record { packets = []; goes_on = none-before (read_file layout bytes); adds = adds-none layout old new few low begun }

one-more : (ps : List PacketRead) (p : PacketRead) (o : Option (List PacketRead)) → option_map (λ more. ps ++ more) (option_map (λ more. p ∷ more) o) ≡ option_map (λ more. (ps ++ p ∷ []) ++ more) o
one-more ps p None = refl
one-more ps p (Some more) = ap Some (sym (append_assoc ps (p ∷ []) more))

pub counted-more : (layout : Layout) (bytes rest after : List ℕ) (p : ReadPacket) (old mid new : CpuCounts) → 0 < length rest → CountedTo layout bytes rest old mid
    → read_packet layout rest ≡ Some (packet_as_read layout p, after) → All (Fits layout) p.events.items → CountsPacket old.missed p mid new → CountedTo layout bytes after old new
counted-more layout bytes rest after p old mid new some counted is fit more =
    grind (
      arith,
      nat_tests,
      packets-on-bytes layout rest some,
      one-more counted.packets (packet_as_read layout p) (read_file layout after),
      adds-more layout counted.packets p old mid new counted.adds fit more,
    )

pub record Counted (layout : Layout) (bytes : List ℕ) (old new : CpuCounts) : Type 0 where
  pub packets : List PacketRead
  pub read : read_file layout bytes ≡ Some packets
  pub adds : CountsPackets layout packets old new

pub counted-end : (layout : Layout) (bytes rest : List ℕ) (old new : CpuCounts) → length rest ≡ 0 → CountedTo layout bytes rest old new → Counted layout bytes old new
counted-end = grind (arith, nat_tests, append-nil)
