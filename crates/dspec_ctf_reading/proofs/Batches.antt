-- A CPU's file of batches, whose packets stand one after another: it tells all their records, and what was missed up to the last.
use Rattle.std.proofs.Common.{◌≡◌, ◌<◌, ◌++◌, ℕ, Bool, List, [], ◌∷◌, length, map, Some, refl, ap, sym, ◌∙◌, arith, All}
use Rattle.std.proofs.lemmas.{Grind.flat_map-append, List.map-append, List.Elements.All-append, List.Elements.All-head, List.Elements.All-tail, List.Elements.All-nil, List.Elements.All-weaker}
use Rattle.std.specs.List.{flat_map}
use Rattle.dspec_ctf_reading.specs.Words.{Record, EnabledRows, Layout, EventRead, PacketRead, read_file, events_of, loss_of, Naming, event_read, layout_by, FileTells, PartTells, last_missed}
use Rattle.dspec_ctf_reading.proofs.Joining.{join}

-- bytes after others are read after them
pub both-read : (layout : Layout) (a b : List ℕ) (ps qs : List PacketRead) (es fs : List EventRead) → read_file layout a ≡ Some ps → read_file layout b ≡ Some qs
    → events_of ps ≡ es → events_of qs ≡ fs → (read_file layout (a ++ b) ≡ Some (ps ++ qs)) × (events_of (ps ++ qs) ≡ es ++ fs)
both-read layout a b ps qs es fs first second of_first of_second = (
  join layout (length a) a b ps qs (omega arith) first second,
  flat_map-append (λ p. p.events) ps qs ∙ ap (λ front. front ++ events_of qs) of_first ∙ ap (λ more. es ++ more) of_second,
)

-- what the last of these packets tells, where this was told before
abbrev loss_from : ℕ → List PacketRead → ℕ
loss_from told [] = told
loss_from told (p ∷ ps) = loss_from p.discarded ps

loss-first : (p : PacketRead) (ps : List PacketRead) → loss_of (p ∷ ps) ≡ loss_from p.discarded ps
loss-first p [] = refl
loss-first p (q ∷ ps) = loss-first q ps

loss-join : (told : ℕ) (ps qs : List PacketRead) → loss_from told (ps ++ qs) ≡ loss_from (loss_from told ps) qs
loss-join told [] qs = refl
loss-join told (p ∷ ps) qs = loss-join p.discarded ps qs

loss-is : (ps : List PacketRead) → loss_of ps ≡ loss_from 0 ps
loss-is [] = refl
loss-is (p ∷ ps) = loss-first p ps

-- what the last of these batches was told with, where this was told before
abbrev last_from : ℕ → List (ℕ × List Record) → ℕ
last_from told [] = told
last_from told (b ∷ batches) = last_from b.0 batches

last-first : (b : ℕ × List Record) (batches : List (ℕ × List Record)) → last_from b.0 batches ≡ last_missed (b ∷ batches)
last-first b [] = refl
last-first b (other ∷ batches) = last-first other batches

last-is : (batches : List (ℕ × List Record)) → last_from 0 batches ≡ last_missed batches
last-is [] = refl
last-is (b ∷ batches) = last-first b batches

module _ (called : Naming) (timed : Bool) (e : EnabledRows) (uuid : List ℕ) (cpu : ℕ) where
  -- a packet that tells this, and one that is of the CPU
  abbrev Tells : ℕ → PacketRead → Type 0
  Tells told p = (p.uuid ≡ uuid) × (p.cpu ≡ cpu) × (p.discarded ≡ told)

  abbrev IsOfCpu : PacketRead → Type 0
  IsOfCpu p = (p.uuid ≡ uuid) × (p.cpu ≡ cpu)

  loss-same : (before told : ℕ) (ps : List PacketRead) → 0 < length ps → All (Tells told) ps → loss_from before ps ≡ told
  loss-same before told [] some same = absurd (omega (arith, some))
  loss-same before told (p ∷ []) some same = (All-head (Tells told) p [] same).2
  loss-same before told (p ∷ q ∷ ps) some same = loss-same p.discarded told (q ∷ ps) (omega arith) (All-tail (Tells told) p (q ∷ ps) same)

  -- batches with these bytes, each read as a packet or more, which tell what was missed so far
  module _ (P : ℕ × List Record → Type 0) (bytes : ℕ × List Record → List ℕ)
      (part : (b : ℕ × List Record) → P b → (t : PartTells (layout_by called timed e) uuid cpu (bytes b) (map (event_read called timed e) b.1) b.0) × (0 < length t.packets)) where
    -- what is read of them, and what their last packet tells, where there is one
    record Reads (batches : List (ℕ × List Record)) : Type 0 where
      packets : List PacketRead
      read : read_file (layout_by called timed e) (flat_map bytes batches) ≡ Some packets
      has : events_of packets ≡ map (event_read called timed e) (flat_map (λ b. b.1) batches)
      last : (before : ℕ) → loss_from before packets ≡ last_from before batches
      whose : All IsOfCpu packets

    reads : (batches : List (ℕ × List Record)) → All P batches → Reads batches
    reads [] of_all = record { packets = []; read = refl; has = refl; last = λ before. refl; whose = All-nil IsOfCpu }
    reads (b ∷ batches) of_all =
        let first = part b (All-head P b batches of_all) in
        let rest : Reads batches = reads batches (All-tail P b batches of_all) in
        let both = both-read (layout_by called timed e) (bytes b) (flat_map bytes batches) first.0.packets rest.packets _ _ first.0.read rest.read first.0.has rest.has in
        record {
          packets = first.0.packets ++ rest.packets;
          read = both.0;
          has = both.1 ∙ sym (map-append (event_read called timed e) b.1 (flat_map (λ b. b.1) batches));
          last = λ before. loss-join before first.0.packets rest.packets
              ∙ ap (λ n. loss_from n rest.packets) (loss-same before b.0 first.0.packets first.1 first.0.whose) ∙ rest.last b.0;
          whose = All-append IsOfCpu first.0.packets rest.packets (All-weaker (Tells b.0) IsOfCpu (λ p is. (is.0, is.1)) first.0.packets first.0.whose) rest.whose;
        }

    pub batches-tell : (batches : List (ℕ × List Record)) → All P batches
        → FileTells (layout_by called timed e) uuid cpu (flat_map bytes batches) (map (event_read called timed e) (flat_map (λ b. b.1) batches)) (last_missed batches)
    batches-tell batches of_all =
        let all : Reads batches = reads batches of_all in
        record { packets = all.packets; read = all.read; has = all.has; misses = loss-is all.packets ∙ all.last 0 ∙ last-is batches; whose = all.whose }
