-- A CPU's file by time, and one as taken.
use Rattle.std.proofs.Common.{◌≡◌, ◌≤◌, ◌<◌, ◌+◌, ◌*◌, ◌/◌, ◌^◌, ◌++◌, ◌==◌, ℕ, zero, suc, Bool, true, false, cond, List, [], ◌∷◌, length, map, take, drop, Some, None, refl, ap, sym, ◌∙◌, arith}
use Rattle.std.proofs.Common.{All}
use Rattle.std.proofs.lemmas.Bool.{eqb-true, eqb-false, eq-eqb, Decides.nat_tests}
use Rattle.std.proofs.lemmas.List.{take-append-drop, drop_all, drop-drop, append-nil, Elements.All-take, Elements.All-drop, Elements.All-cons, Elements.All-nil}
use Rattle.std.specs.List.{flat_map, range_with_len}
use Rattle.dspec_ctf_reading.specs.Words.{Record, EnabledRows, events, packet, Accepts, span_of, packet_count, part_at, packet_at, timed_packets, PacketRead, read_file, loss_of, Naming, event_read}
use Rattle.dspec_ctf_reading.specs.Words.{layout_by, packet_read, FileTells, last_missed}
use Rattle.dspec_ctf.proofs.OneStream.{covers, events-small, few}
use Rattle.dspec_ctf_reading.proofs.{Batches.batches-tell, EventsRead.HasStamps, Files.told-low, Files.flat-read, Files.flat-events, Files.All-each, Files.All-of, Files.packet-read, Files.span-low}
use Rattle.dspec_ctf_reading.proofs.{PacketsRead.HasSpan}

-- there is no packet only where nothing was missed
none-test : (missed n : ℕ) (none gone : Bool) → (n == 0) ≡ none → (missed == 0) ≡ gone → cond none (cond gone 0 1) ((n + 4095) / 4096) ≡ 0 → missed ≡ 0
none-test = grind (arith, nat_tests, eqb-true, eqb-false)

-- the parts are all records, in order
parts-all : (rs : List Record) (k a : ℕ) → length rs ≤ 4096 * (a + k) → flat_map (part_at rs) (range_with_len a k) ≡ drop (4096 * a) rs
unfolding part_at
parts-all rs zero a short = sym (drop_all (4096 * a) rs (omega (arith, short)))
parts-all rs (suc k) a short =
    let part : List Record = take 4096 (drop (4096 * a) rs) in
    let next : 4096 * (a + 1) ≡ 4096 * a + 4096 = omega arith in
    ap (λ more. part ++ more) (parts-all rs k (a + 1) (omega (arith, short)) ∙ ap (λ n. drop n rs) next ∙ sym (drop-drop 4096 (4096 * a) rs))
    ∙ take-append-drop 4096 (drop (4096 * a) rs)

-- what the last packet tells
loss-last : (g : ℕ → PacketRead) (k a : ℕ) → loss_of (map g (range_with_len a (suc k))) ≡ (g (a + k)).discarded
loss-last g zero a = ap (λ n. (g n).discarded) (omega arith)
loss-last g (suc k) a = loss-last g k (a + 1) ∙ ap (λ n. (g n).discarded) (omega arith)

module _ (called : Naming) (e : EnabledRows) (has : HasStamps true e.header) (uuid : List ℕ) (missed cpu : ℕ) (rs : List Record)
    (long : length uuid ≡ 16) (low : missed < 2 ^ 64) (small : cpu < 2 ^ 32) (of_rs : All (Accepts e) rs) where
  count : ℕ
  count = packet_count missed (length rs)

  -- the packet at a place, as it is read
  at_place : ℕ → PacketRead
  at_place place = packet_read called true e uuid (Some (span_of (part_at rs place))) (cond (place + 1 == count) missed 0) cpu (part_at rs place)

  part-of : (place : ℕ) → All (Accepts e) (part_at rs place)
  unfolding part_at
  part-of place = All-take (Accepts e) 4096 (drop (4096 * place) rs) (All-drop (Accepts e) (4096 * place) rs of_rs)

  part-small : (place : ℕ) → length (events e (part_at rs place)) < 2 ^ 60
  unfolding part_at
  part-small place = omega (arith, events-small e (part_at rs place) (part-of place), few (drop (4096 * place) rs))

  place-read : (place : ℕ) → read_file (layout_by called true e) (packet_at uuid e missed cpu rs count place) ≡ Some (at_place place ∷ [])
  unfolding packet_at count at_place
  place-read place =
      packet-read called true e has uuid (Some (span_of (part_at rs place))) (cond (place + 1 == count) missed 0) cpu (part_at rs place) long
      (span-low e (part_at rs place) (part-of place)) (told-low (place + 1 == count) missed low) small (part-small place) (part-of place)

  loss-is : (n : ℕ) → n ≡ count → loss_of (map at_place (range_with_len 0 n)) ≡ missed
  unfolding count at_place
  loss-is zero is = sym (none-test missed (length rs) (length rs == 0) (missed == 0) refl refl (sym is))
  loss-is (suc k) is =
      loss-last at_place k 0 ∙ ap (λ b. cond b missed 0) (eq-eqb (0 + k + 1) count (omega (arith, is)))

  pub timed-back : FileTells (layout_by called true e) uuid cpu (timed_packets uuid e missed cpu rs) (map (event_read called true e) rs) missed
  unfolding timed_packets count at_place
  timed-back = record {
    packets = map at_place (range_with_len 0 count);
    read = flat-read (layout_by called true e) (λ _. Unit {0}) (packet_at uuid e missed cpu rs count) at_place (λ place _. place-read place) (range_with_len 0 count)
        (All-of (λ _. Unit {0}) (λ _. tt) (range_with_len 0 count));
    has = flat-events at_place (event_read called true e) (part_at rs) (λ place. refl) (range_with_len 0 count)
        ∙ ap (map (event_read called true e)) (parts-all rs count 0 (covers missed (length rs)));
    misses = loss-is count refl;
    whose = All-each (λ p. (p.uuid ≡ uuid) × (p.cpu ≡ cpu)) at_place (λ place. (refl, refl)) (range_with_len 0 count);
  }

-- the batches of a CPU as they were taken: what was missed so far, and the records
module _ (called : Naming) (e : EnabledRows) (uuid : List ℕ) (cpu : ℕ) (long : length uuid ≡ 16) (small : cpu < 2 ^ 32) where
  pub taken-back : (batches : List (ℕ × List Record)) → All (λ b. (b.0 < 2 ^ 64) × (length (events e b.1) < 2 ^ 60) × All (Accepts e) b.1) batches
      → FileTells (layout_by called false e) uuid cpu (flat_map (λ b. packet uuid e b.0 cpu b.1) batches) (map (event_read called false e) (flat_map (λ b. b.1) batches)) (last_missed batches)
  unfolding HasStamps HasSpan
  taken-back = batches-tell called false e uuid cpu (λ b. (b.0 < 2 ^ 64) × (length (events e b.1) < 2 ^ 60) × All (Accepts e) b.1) (λ b. packet uuid e b.0 cpu b.1)
      (λ b of_b. (
        record {
          packets = packet_read called false e uuid None b.0 cpu b.1 ∷ [];
          read = packet-read called false e tt uuid None b.0 cpu b.1 long tt of_b.0 small of_b.1 of_b.2;
          has = append-nil (map (event_read called false e) b.1);
          whose = All-cons (λ p. (p.uuid ≡ uuid) × (p.cpu ≡ cpu) × (p.discarded ≡ b.0)) (packet_read called false e uuid None b.0 cpu b.1) [] (refl, refl, refl)
              (All-nil (λ p. (p.uuid ≡ uuid) × (p.cpu ≡ cpu) × (p.discarded ≡ b.0)));
        },
        omega arith,
      ))
