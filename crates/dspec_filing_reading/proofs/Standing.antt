-- What is known of a CPU's files and of the packets that were handed out, between two calls.
use Rattle.std.proofs.Common.{◌≡◌, ◌<◌, ◌≤◌, ◌+◌, ◌-◌, ◌^◌, ◌++◌, ℕ, List, [], ◌∷◌, Option, Some, None, refl, ap, sym, subst, ◌∙◌, arith, append_assoc, length, All}
use Rattle.std.proofs.lemmas.Bool.Decides.{nat_tests}
use Rattle.std.specs.Prelude.{slice_index, slice_range}
use Rattle.dspec_filing_reading.specs.Words.{Record, EnabledRows, Accepts, IsFileRun, IsFoundRun, missed_packets, run_packet, CpuFiling, as_written, AreFrontsKept, Packets, all_written, Names, Run}
use Rattle.dspec_record.specs.declared.header.Header.TheVariants as header
use Rattle.dspec_filing_reading.proofs.{FilesLaws.FilesLaws, Fronts.slice_after, Packets.Reads, Packets.reads_missed, Packets.reads_runs, Packets.reads_same, Sharing.lasts_after, Sharing.stamps_low}

-- a run that was found, by the last stamps that there were before, and whose packet wasn't handed out yet
pub record WasFound (records : List Record) (place : ℕ) (after : List ℕ) (run : Run) : Type 0 where
  pub lasts : List ℕ
  pub few : length lasts ≤ 64
  pub is_run : IsFileRun lasts records place run after

-- The packets that count as written are read as the records that are kept so far, and with the last as these and those that it has. However many more records
-- of the open batch are kept, all others are lost.
pub record Stands (uuid : List ℕ) (e : EnabledRows) (names : Names) (hertz cpu : ℕ) (f : CpuFiling) (w : Packets) (texts : List (List ℕ)) (count : ℕ) : Type 0 where
  pub uuid_is : f.uuid ≡ uuid
  pub schema_is : f.schema ≡ e
  pub cpu_is : f.cpu ≡ cpu
  pub accepted : All (Accepts e) f.records
  pub from_place : f.from ≤ f.place
  pub within : f.place ≤ length f.records
  pub few : length f.lasts ≤ 64
  pub first : slice_index f.lasts 0 < 2 ^ 64
  pub found : (run : Run) → f.run ≡ Some run → WasFound f.records f.place f.lasts run
  pub kept : List Record
  pub lost : ℕ
  pub keeps : (to : ℕ) → f.from ≤ to → to ≤ length f.records → AreFrontsKept e texts (kept ++ slice_range f.records f.from to) (lost + (length f.records - to))
  pub counted : f.missed ≡ count + lost
  pub written : Reads uuid e names hertz cpu w.written kept f.told_before
  pub all : Reads uuid e names hertz cpu (w.written ++ w.last) (kept ++ slice_range f.records f.from f.place) f.told
  pub told : f.told ≤ f.missed
  pub told_before : f.told_before ≤ f.told

module _ (uuid : List ℕ) (e : EnabledRows) (names : Names) (hertz cpu : ℕ) where
  abbrev pub Stand : CpuFiling → Packets → List (List ℕ) → ℕ → Type 0
  Stand f w texts count = Stands uuid e names hertz cpu f w texts count

  -- what was handed out last counts as written
  pub settles : (f : CpuFiling) (w : Packets) (texts : List (List ℕ)) (count : ℕ) → Stand f w texts count → Stand (as_written f) (all_written w) texts count
  settles f w texts count s = grind (arith, nat_tests, slice_after, reads_same)

module _ (laws : FilesLaws) (uuid : List ℕ) (e : EnabledRows) (names : Names) (hertz cpu : ℕ) (low : cpu < 2 ^ 32) (long : length uuid ≡ 16) (stamped : e.header ≡ header.Two) where
  -- the next run is there: it was found before, or is now
  is_found : (f : CpuFiling) (w : Packets) (texts : List (List ℕ)) (count : ℕ) → Stands uuid e names hertz cpu f w texts count → (run : Run) (lasts : List ℕ) (q : Option Run) → f.run ≡ q
      → IsFoundRun q f run lasts → (length lasts ≤ 64) × (slice_index lasts 0 < 2 ^ 64) × WasFound f.records f.place lasts run
  is_found = grind (arith, nat_tests, lasts_after, stamps_low)

  pub finds : (f : CpuFiling) (w : Packets) (texts : List (List ℕ)) (count : ℕ) (run : Run) (lasts : List ℕ) → IsFoundRun f.run f run lasts
      → Stands uuid e names hertz cpu f w texts count → Stands uuid e names hertz cpu (record f { lasts = lasts; run = Some run }) w texts count
  finds f w texts count run lasts is s = grind (arith, nat_tests, is_found f w texts count s run lasts f.run refl is)

  -- a run's packet is handed out, where all that was missed is told
  pub hands_run : (f : CpuFiling) (ws : List (ℕ × List ℕ)) (texts : List (List ℕ)) (count : ℕ) (run : Run) → f.missed ≡ f.told → f.run ≡ Some run → f.missed < 2 ^ 64
      → Stands uuid e names hertz cpu f (record { written = ws; last = [] }) texts count
      → Stands uuid e names hertz cpu (record f { place = run.end; run = None })
      (record { written = ws; last = (run.file, run_packet f.uuid f.schema f.missed f.cpu run.file (slice_range f.records f.place run.end)) ∷ [] }) texts count
  hands_run f ws texts count run told there small s =
      let was = s.found run there in
      let part : List Record = slice_range f.records f.place run.end in
      let bytes : List ℕ = run_packet uuid e f.told cpu run.file part in
      let same : bytes ≡ run_packet f.uuid f.schema f.missed f.cpu run.file part =
      ap (λ id. run_packet id e f.told cpu run.file part) (sym s.uuid_is) ∙ ap (λ x. run_packet f.uuid x f.told cpu run.file part) (sym s.schema_is)
      ∙ ap (λ n. run_packet f.uuid f.schema n cpu run.file part) (sym told) ∙ ap (λ c. run_packet f.uuid f.schema f.missed c run.file part) (sym s.cpu_is) in
      let grown : Reads uuid e names hertz cpu ((ws ++ []) ++ (run.file, bytes) ∷ []) ((s.kept ++ slice_range f.records f.from f.place) ++ part) f.told =
      reads_runs laws uuid e names hertz cpu low long stamped (ws ++ []) (s.kept ++ slice_range f.records f.from f.place) was.lasts f.lasts f.records f.place run.end (run ∷ []) f.told
      (omega (arith, told, small)) s.accepted was.few (f.lasts, (was.is_run, (refl, refl))) s.all in
      record {
        uuid_is = s.uuid_is;
        schema_is = s.schema_is;
        cpu_is = s.cpu_is;
        accepted = s.accepted;
        from_place = omega (arith, s.from_place, was.is_run.some);
        within = was.is_run.within;
        few = s.few;
        first = s.first;
        found = λ other none. absurd (cc (none));
        kept = s.kept;
        lost = s.lost;
        keeps = s.keeps;
        counted = s.counted;
        written = s.written;
        all = subst (λ bs. Reads uuid e names hertz cpu (ws ++ (run.file, bs) ∷ []) (s.kept ++ slice_range f.records f.from run.end) f.told) same
            (subst (λ qs. Reads uuid e names hertz cpu qs (s.kept ++ slice_range f.records f.from run.end) f.told) (append_assoc ws [] ((run.file, bytes) ∷ []))
            (subst (λ rs. Reads uuid e names hertz cpu ((ws ++ []) ++ (run.file, bytes) ∷ []) rs f.told)
            (sym (slice_after s.kept f.records f.from f.place run.end s.from_place (omega (arith, was.is_run.some)) was.is_run.within)) grown));
        told = s.told;
        told_before = s.told_before;
      }

  -- what was missed is handed out
  pub hands_missed : (f : CpuFiling) (ws : List (ℕ × List ℕ)) (texts : List (List ℕ)) (count : ℕ) → f.told < f.missed → f.missed < 2 ^ 64
      → Stands uuid e names hertz cpu f (record { written = ws; last = [] }) texts count
      → Stands uuid e names hertz cpu (record f { told = f.missed }) (record { written = ws; last = (0, missed_packets f.uuid f.told f.missed f.cpu f.lasts) ∷ [] }) texts count
  hands_missed f ws texts count rises small s =
      let bytes : List ℕ = missed_packets uuid f.told f.missed cpu f.lasts in
      let same : bytes ≡ missed_packets f.uuid f.told f.missed f.cpu f.lasts =
      ap (λ id. missed_packets id f.told f.missed cpu f.lasts) (sym s.uuid_is) ∙ ap (λ c. missed_packets f.uuid f.told f.missed c f.lasts) (sym s.cpu_is) in
      let stream : List Record = s.kept ++ slice_range f.records f.from f.place in
      let grown : Reads uuid e names hertz cpu ((ws ++ []) ++ (0, bytes) ∷ []) stream f.missed =
      reads_missed laws uuid e names hertz cpu low long stamped (ws ++ []) stream f.lasts f.told f.missed rises small s.first s.all in
      record {
        uuid_is = s.uuid_is;
        schema_is = s.schema_is;
        cpu_is = s.cpu_is;
        accepted = s.accepted;
        from_place = s.from_place;
        within = s.within;
        few = s.few;
        first = s.first;
        found = s.found;
        kept = s.kept;
        lost = s.lost;
        keeps = s.keeps;
        counted = s.counted;
        written = s.written;
        all = subst (λ bs. Reads uuid e names hertz cpu (ws ++ (0, bs) ∷ []) stream f.missed) same
            (subst (λ qs. Reads uuid e names hertz cpu qs stream f.missed) (append_assoc ws [] ((0, bytes) ∷ [])) grown);
        told = omega arith;
        told_before = omega (arith, s.told_before, rises);
      }
