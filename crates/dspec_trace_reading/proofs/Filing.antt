-- A CPU's files by time: what they tell, and what one batch brings to them.
use Rattle.std.proofs.Common.{◌≡◌, ◌<◌, ◌≤◌, ◌^◌, ◌++◌, inl, inr, ℕ, List, [], ◌∷◌, Option, Some, refl, ap, sym, subst, ◌∙◌, arith, length, All}
use Rattle.std.proofs.lemmas.{Bool.Decides.nat_tests, List.take_all}
use Rattle.std.specs.Prelude.{slice_index, slice_range}
use Rattle.dspec_trace_reading.specs.Words.{ReadsPackets, Record, EnabledRows, missed_packets, run_packets, Accepts, file_bytes, AreRuns, AddsAll, TakesAll, TellsMissed, row_name, FileWrite}
use Rattle.dspec_trace_reading.specs.Words.{file_of, Names, Run}
use Rattle.dspec_record.specs.declared.header.Header.TheVariants as header
use Rattle.dspec_filing_reading.proofs.{FilesLaws.FilesLaws, Packets.bytes_more, Packets.one_few, Packets.reads_missed, Packets.reads_runs, Sharing.lasts_follow, Sharing.packets_few}
use Rattle.dspec_filing_reading.proofs.{Sharing.runs_few, Sharing.stamps_low}
use Rattle.dspec_trace_reading.proofs.Taking.{grows_here, row_writes, took_all}

-- what a CPU's files tell of this stream, with so many missed: they have the bytes of packets that are read so, and their last stamps can be told
pub record Filed (uuid : List ℕ) (e : EnabledRows) (names : Names) (hertz c : ℕ) (written : Option (List FileWrite)) (lasts : List ℕ) (missed : ℕ) (stream : List Record) : Type 0 where
  pub writes : List FileWrite
  pub asked : written ≡ Some writes
  pub few : length lasts ≤ 64
  pub first : slice_index lasts 0 < 2 ^ 64
  pub packets : List (ℕ × List ℕ)
  pub reads : ReadsPackets uuid e names hertz c packets stream missed
  pub have : (file : ℕ) → file < 64 → file_of (row_name c file) writes ≡ file_bytes file packets

module _ (laws : FilesLaws) (uuid : List ℕ) (e : EnabledRows) (names : Names) (hertz c : ℕ) (low : c < 64) (long : length uuid ≡ 16) (stamped : e.header ≡ header.Two) where
  -- more packets that the place took
  have_more : (writes : List FileWrite) (ps qs : List (ℕ × List ℕ)) → All (λ (p : ℕ × List ℕ). p.0 < 64) qs → ((file : ℕ) → file < 64 → file_of (row_name c file) writes ≡ file_bytes file ps)
      → (file : ℕ) → file < 64 → file_of (row_name c file) (writes ++ row_writes c qs) ≡ file_bytes file (ps ++ qs)
  have_more writes ps qs few have file is = grows_here c file low is writes qs few ∙ ap (λ bytes. bytes ++ file_bytes file qs) (have file is) ∙ sym (bytes_more file ps qs)

  -- more was missed: the first file tells it
  pub tell : (old mid : Option (List FileWrite)) (lasts : List ℕ) (told missed : ℕ) (stream : List Record) → told ≤ missed → missed < 2 ^ 64
      → Filed uuid e names hertz c old lasts told stream → TellsMissed uuid told missed c lasts old mid → Filed uuid e names hertz c mid lasts missed stream
  tell old mid lasts told missed stream rises small f (inl nothing) =
      subst (λ n. Filed uuid e names hertz c mid lasts n stream) (sym nothing.0) (subst (λ o. Filed uuid e names hertz c o lasts told stream) (sym nothing.1) f)
  tell old mid lasts told missed stream rises small f (inr more) =
      let above : told < missed = omega (arith, rises, more.0) in
      let ps : List (ℕ × List ℕ) = (0, missed_packets uuid told missed c lasts) ∷ [] in
      record {
        writes = f.writes ++ row_writes c ps;
        asked = took_all c ps old mid f.writes f.asked (mid, (more.1, refl));
        few = f.few;
        first = f.first;
        packets = f.packets ++ ps;
        reads = reads_missed laws uuid e names hertz c (omega (arith, low)) long stamped f.packets stream lasts told missed above small f.first f.reads;
        have = have_more f.writes f.packets ps (one_few 0 (missed_packets uuid told missed c lasts) (omega arith)) f.have;
      }

  -- the packets of a batch's runs up to a place: its records up to there stand after those of the stream
  pub add_to : (mid new : Option (List FileWrite)) (lasts after : List ℕ) (missed : ℕ) (stream read : List Record) (runs : List Run) (to : ℕ) → missed < 2 ^ 64 → All (Accepts e) read
      → Filed uuid e names hertz c mid lasts missed stream → AreRuns lasts read 0 runs to after → TakesAll c mid (run_packets uuid e missed c read 0 runs) new
      → Filed uuid e names hertz c new after missed (stream ++ slice_range read 0 to)
  add_to mid new lasts after missed stream read runs to small accepted f are_runs taken =
      let ps : List (ℕ × List ℕ) = run_packets uuid e missed c read 0 runs in
      let later = lasts_follow laws.have_all laws.runs_have lasts read 0 to runs after f.few f.first (stamps_low e read accepted) are_runs in
      record {
        writes = f.writes ++ row_writes c ps;
        asked = took_all c ps mid new f.writes f.asked taken;
        few = later.0;
        first = later.1;
        packets = f.packets ++ ps;
        reads = reads_runs laws uuid e names hertz c (omega (arith, low)) long stamped f.packets stream lasts after read 0 to runs missed small accepted f.few are_runs f.reads;
        have = have_more f.writes f.packets ps (packets_few uuid e missed c read 0 runs (runs_few laws.have_all laws.runs_have lasts read 0 runs to after f.few are_runs)) f.have;
      }

  -- the packets of all runs of a batch
  pub add : (mid new : Option (List FileWrite)) (lasts after : List ℕ) (missed : ℕ) (stream read : List Record) → missed < 2 ^ 64 → All (Accepts e) read
      → Filed uuid e names hertz c mid lasts missed stream → AddsAll uuid e missed c read 0 lasts mid after new → Filed uuid e names hertz c new after missed (stream ++ read)
  add mid new lasts after missed stream read small accepted f adds = grind (arith, nat_tests, take_all, add_to)

-- what is known of a CPU's files stays, where nothing was brought to them
pub still_filed : (uuid : List ℕ) (e : EnabledRows) (names : Names) (hertz c : ℕ) (old new : Option (List FileWrite)) (lasts after : List ℕ) (told : ℕ) (stream : List Record)
    (f : Filed uuid e names hertz c old lasts told stream) (next : List FileWrite) → new ≡ Some next
    → ((file : ℕ) → file < 64 → file_of (row_name c file) next ≡ file_of (row_name c file) f.writes) → length after ≤ 64 → slice_index after 0 < 2 ^ 64
    → Filed uuid e names hertz c new after told stream
still_filed uuid e names hertz c old new lasts after told stream f next asked same few first =
    record { writes = next; asked = asked; few = few; first = first; packets = f.packets; reads = f.reads; have = λ file low. same file low ∙ f.have file low }
