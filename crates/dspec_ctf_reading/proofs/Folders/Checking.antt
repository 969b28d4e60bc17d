-- A file that is sound is one packet that is, and then the others.
use Rattle.std.proofs.Common.{◌≡◌, ◌≤◌, ◌<◌, ◌++◌, ℕ, List, [], ◌∷◌, length, map, Option, Some, None, option_map, refl, ap, sym, subst, ◌∙◌, arith}
use Rattle.std.proofs.lemmas.{Bool.Decides.nat_tests, List.Elements.All-head, List.Elements.All-tail, List.Elements.All-nil}
use Rattle.std.specs.{List.flat_map, Prelude.All, Prelude.option_and_then, Prelude.unwrap_or}
use Rattle.dspec_ctf_reading.specs.Words.{Layout, PacketRead, PartRead, read_packet, read_file, as_read, RisesFrom, last_of, stamps_of, times_of, packet_as_read, IsSoundFrom}
use Rattle.dspec_ctf_reading.specs.declared.{events.Event.Event, folder.packet.ReadPacket.ReadPacket}
use Rattle.dspec_ctf_reading.proofs.{Bounds.packets-on-bytes, Joining.some-parts}

-- a list that rises, in two parts
pub rises-append : (before : ℕ) (xs ys : List ℕ) → RisesFrom before xs → RisesFrom (last_of before xs) ys → RisesFrom before (xs ++ ys)
rises-append before [] ys first second = second
rises-append before (x ∷ xs) ys first second = (first.0, rises-append x xs ys first.1 second)

pub rises-first : (before : ℕ) (xs ys : List ℕ) → RisesFrom before (xs ++ ys) → RisesFrom before xs
rises-first before [] ys rises = tt
rises-first before (x ∷ xs) ys rises = (rises.0, rises-first x xs ys rises.1)

pub rises-second : (before : ℕ) (xs ys : List ℕ) → RisesFrom before (xs ++ ys) → RisesFrom (last_of before xs) ys
rises-second before [] ys rises = rises
rises-second before (x ∷ xs) ys rises = rises-second x xs ys rises.1

pub last-append : (before : ℕ) (xs ys : List ℕ) → last_of before (xs ++ ys) ≡ last_of (last_of before xs) ys
last-append before [] ys = refl
last-append before (x ∷ xs) ys = last-append x xs ys

-- the stamps of events as they are read
pub stamps-read : (layout : Layout) (events : List Event) → map (λ e. unwrap_or e.stamp 0) (map (as_read layout) events) ≡ stamps_of events
stamps-read layout [] = refl
stamps-read layout (e ∷ events) = ap (λ more. unwrap_or e.stamp 0 ∷ more) (stamps-read layout events)

-- the times of a packet with stamps, whose events are these
module _ (layout : Layout) (p : ReadPacket) (events : List Event) (begin end last : ℕ) (is : p.front.span ≡ Some (begin, end)) (are : events ≡ p.events.items) where
  times : times_of (packet_as_read layout p) ≡ begin ∷ (stamps_of events ++ end ∷ [])
  times = grind (arith, nat_tests, stamps-read layout p.events.items)

  pub falls-end : (from : ℕ) → from ≡ last_of begin (stamps_of events) → end < from → ¬ RisesFrom last (times_of (packet_as_read layout p))
  falls-end from same less = grind (arith, nat_tests, times, rises-second)

  pub falls-within : ¬ RisesFrom begin (stamps_of events) → ¬ RisesFrom last (times_of (packet_as_read layout p))
  falls-within none = grind (arith, nat_tests, times, rises-first)

  pub rises-whole : (from : ℕ) → last ≤ begin → RisesFrom begin (stamps_of events) → from ≡ last_of begin (stamps_of events) → from ≤ end
      → RisesFrom last (times_of (packet_as_read layout p)) × (end ≡ last_of last (times_of (packet_as_read layout p)))
  rises-whole from low rises same high = grind (arith, nat_tests, rises-append, last-append, times)

-- reading goes on after a packet
abbrev file_by : Layout → PartRead PacketRead → Option (List PacketRead)
file_by layout part = option_and_then (λ p. option_map (λ packets. p.0 ∷ packets) (read_file layout p.1)) part

module _ (layout : Layout) (uuid : List ℕ) (cpu : ℕ) where
  pub sound-nil : (last : ℕ) (rest : List ℕ) → length rest ≡ 0 → IsSoundFrom layout uuid cpu last rest
  sound-nil last [] none = record { packets = []; read = refl; whose = All-nil (λ p. (p.uuid ≡ uuid) × (p.cpu ≡ cpu)); rises = tt }
  sound-nil last (b ∷ rest) none = absurd (omega (arith, none))

  pub sound-step : (last : ℕ) (rest after : List ℕ) (p : PacketRead) → 0 < length rest → read_packet layout rest ≡ Some (p, after) → p.uuid ≡ uuid → p.cpu ≡ cpu → RisesFrom last (times_of p)
      → IsSoundFrom layout uuid cpu (last_of last (times_of p)) after → IsSoundFrom layout uuid cpu last rest
  sound-step last rest after p some is of_uuid of_cpu rises sound =
      grind (arith, nat_tests, packets-on-bytes layout rest some, rises-append last (times_of p) (flat_map times_of sound.packets) rises sound.rises)

  pub record Back (last : ℕ) (after : List ℕ) (p : PacketRead) : Type 0 where
    pub of_uuid : p.uuid ≡ uuid
    pub of_cpu : p.cpu ≡ cpu
    pub rises : RisesFrom last (times_of p)
    pub sound : IsSoundFrom layout uuid cpu (last_of last (times_of p)) after

  pub sound-back : (last : ℕ) (rest after : List ℕ) (p : PacketRead) → 0 < length rest → read_packet layout rest ≡ Some (p, after) → IsSoundFrom layout uuid cpu last rest → Back last after p
  sound-back last rest after p some is sound =
      let two = some-parts p (read_file layout after) sound.packets (sym (ap (file_by layout) is) ∙ sym (packets-on-bytes layout rest some) ∙ sound.read) in
      let whose : All (λ q. (q.uuid ≡ uuid) × (q.cpu ≡ cpu)) (p ∷ two.0) = subst (All (λ q. (q.uuid ≡ uuid) × (q.cpu ≡ cpu))) (sym two.1.1) sound.whose in
      let rises : RisesFrom last (times_of p ++ flat_map times_of two.0) = subst (λ ps. RisesFrom last (flat_map times_of ps)) (sym two.1.1) sound.rises in
      let first = All-head (λ q. (q.uuid ≡ uuid) × (q.cpu ≡ cpu)) p two.0 whose in
      record {
        of_uuid = first.0;
        of_cpu = first.1;
        rises = rises-first last (times_of p) (flat_map times_of two.0) rises;
        sound = record {
          packets = two.0;
          read = two.1.0;
          whose = All-tail (λ q. (q.uuid ≡ uuid) × (q.cpu ≡ cpu)) p two.0 whose;
          rises = rises-second last (times_of p) (flat_map times_of two.0) rises;
        };
      }

  pub sound-none : (last : ℕ) (rest : List ℕ) → 0 < length rest → read_packet layout rest ≡ None → ¬ IsSoundFrom layout uuid cpu last rest
  sound-none last rest some is = grind (arith, nat_tests, packets-on-bytes)
