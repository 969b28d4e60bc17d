-- Packets of 1,024 bytes, one after another: each is read as the records that it has.
use Rattle.std.proofs.Common.{◌≡◌, ◌≤◌, ◌<◌, ◌+◌, ◌^◌, ◌++◌, ℕ, Bool, true, false, List, [], ◌∷◌, length, map, Some, refl, ap, subst, sym, arith, ◌∙◌, All}
use Rattle.std.specs.List.{flat_map}
use Rattle.dspec_ctf_reading.specs.Words.{Record, EnabledRows, events, Accepts, filled_packet, filled_packets, filled_size, portions, portions_from, span_by, takes_another, PacketRead, read_file}
use Rattle.dspec_ctf_reading.specs.Words.{events_of, Naming, event_read, layout_by, packet_read, FileTells, PartTells, last_missed}
use Rattle.dspec_ctf_reading.proofs.{Batches.batches-tell, EventsRead.HasStamps, Files.flat-read, Files.flat-events, Files.All-each, Files.filled-read, Files.span-low, PacketsRead.HasSpan}
use Rattle.dspec_ctf.proofs.Filling.{Fits, either, front-is, none-fits, portions-all, portions-fit}

module _ (called : Naming) (timed : Bool) (e : EnabledRows) (uuid : List ℕ) (missed cpu : ℕ) where
  -- the packet of these records, as it is read
  abbrev pub portion_read : List Record → PacketRead
  portion_read rs = packet_read called timed e uuid (span_by timed rs) missed cpu rs

-- there is one packet or more
portions-some : (timed : Bool) (e : EnabledRows) (read : List Record → PacketRead) (held rs : List Record) → 0 < length (map read (portions_from timed e held rs))
portions-some timed e read held [] = omega arith
portions-some timed e read held (r ∷ rs) = either (λ ps. 0 < length (map read ps)) (takes_another timed e held r)
    (portions_from timed e (held ++ r ∷ []) rs) (held ∷ portions_from timed e (r ∷ []) rs) (λ _. portions-some timed e read (held ++ r ∷ []) rs) (omega arith)

span-has : (timed : Bool) (e : EnabledRows) (rs : List Record) → All (Accepts e) rs → HasSpan timed (span_by timed rs)
unfolding HasSpan
span-has true e rs of_rs = span-low e rs of_rs
span-has false e rs of_rs = tt

module _ (called : Naming) (timed : Bool) (e : EnabledRows) (has : HasStamps timed e.header)
    (uuid : List ℕ) (cpu : ℕ) (long : length uuid ≡ 16) (small : cpu < 2 ^ 32) where
  portion-back : (missed : ℕ) → missed < 2 ^ 64 → (rs : List Record) → Fits timed e rs
      → read_file (layout_by called timed e) (filled_packet timed e uuid missed cpu rs) ≡ Some (portion_read called timed e uuid missed cpu rs ∷ [])
  unfolding filled_packet
  portion-back missed low rs fits =
      filled-read called timed e has uuid (span_by timed rs) missed cpu rs long (span-has timed e rs fits.0) low small
      (subst (λ n. n + length (events e rs) ≤ filled_size) (sym (front-is timed e rs)) fits.1) fits.0

  -- what is read of the packets of records
  pub filled-all : (missed : ℕ) (rs : List Record) → missed < 2 ^ 64 → All (Accepts e) rs
      → read_file (layout_by called timed e) (filled_packets timed e uuid missed cpu rs) ≡ Some (map (portion_read called timed e uuid missed cpu) (portions timed e rs))
  unfolding filled_packets
  filled-all missed rs low of_rs =
      flat-read (layout_by called timed e) (Fits timed e) (filled_packet timed e uuid missed cpu) (portion_read called timed e uuid missed cpu) (portion-back missed low) (portions timed e rs)
      (portions-fit timed e [] rs (none-fits timed e) of_rs)

  portion-events : (missed : ℕ) (rs : List Record) → events_of (map (portion_read called timed e uuid missed cpu) (portions timed e rs)) ≡ map (event_read called timed e) rs
  portion-events missed rs =
      flat-events (portion_read called timed e uuid missed cpu) (event_read called timed e) (λ portion. portion) (λ portion. refl) (portions timed e rs)
      ∙ ap (map (event_read called timed e)) (portions-all timed e [] rs)

  pub filled-tells : (missed : ℕ) (rs : List Record) → missed < 2 ^ 64 → All (Accepts e) rs
      → PartTells (layout_by called timed e) uuid cpu (filled_packets timed e uuid missed cpu rs) (map (event_read called timed e) rs) missed
  filled-tells missed rs low of_rs = record {
    packets = map (portion_read called timed e uuid missed cpu) (portions timed e rs);
    read = filled-all missed rs low of_rs;
    has = portion-events missed rs;
    whose = All-each (λ p. (p.uuid ≡ uuid) × (p.cpu ≡ cpu) × (p.discarded ≡ missed)) (portion_read called timed e uuid missed cpu) (λ portion. (refl, refl, refl)) (portions timed e rs);
  }

  -- the batches of a CPU: what was missed so far, and the records
  pub batches-back : (batches : List (ℕ × List Record)) → All (λ b. (b.0 < 2 ^ 64) × All (Accepts e) b.1) batches
      → FileTells (layout_by called timed e) uuid cpu (flat_map (λ b. filled_packets timed e uuid b.0 cpu b.1) batches)
      (map (event_read called timed e) (flat_map (λ b. b.1) batches)) (last_missed batches)
  unfolding filled-tells
  batches-back = batches-tell called timed e uuid cpu (λ b. (b.0 < 2 ^ 64) × All (Accepts e) b.1) (λ b. filled_packets timed e uuid b.0 cpu b.1)
      (λ b of_b. (filled-tells b.0 b.1 of_b.0 of_b.1, portions-some timed e (portion_read called timed e uuid b.0 cpu) [] b.1))
