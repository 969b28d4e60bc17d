-- What is read of packets, where more are written after them.
use Rattle.std.proofs.Common.{◌≡◌, ◌<◌, ◌≤◌, ◌^◌, ◌==◌, ◌++◌, ℕ, Bool, true, false, List, [], ◌∷◌, refl, ap, sym, subst, ◌∙◌, arith, length, length-append, map, All}
use Rattle.std.proofs.lemmas.{Bool.eqb-true, Bool.eqb-false, Bool.ne_eqb, Bool.Decides.nat_tests, Grind.flat_map-append, List.append-nil, List.map-append, List.Elements.All-append}
use Rattle.std.proofs.lemmas.{List.Elements.All-cons, List.Elements.All-nil, List.Elements.All-weaker, List.Elements.filter-append}
use Rattle.std.specs.Prelude.{slice_index, slice_range}
use Rattle.dspec_filing_reading.specs.Words.{Record, EnabledRows, missed_packets, of_file, run_files, run_packets, told_by, Accepts, AreRuns, FileTells, PartTells, file_bytes, event_of, layout_of}
use Rattle.dspec_filing_reading.specs.Words.{EventRead, ReadsPackets, ByTime, Names, Run}
use Rattle.dspec_record.specs.declared.header.Header.TheVariants as header
use Rattle.dspec_filing_reading.proofs.{FilesLaws.FilesLaws, FilesLaws.told_other, FilesLaws.told_same, Fronts.none_between, Growing.grown, Growing.told_more, Sharing.of_more, Sharing.packets_few}
use Rattle.dspec_filing_reading.proofs.{Sharing.runs_few, Sharing.spread_each}

-- packets, each for one of 64 files
abbrev pub AreFew : List (ℕ × List ℕ) → Type 0
AreFew ps = All (λ (p : ℕ × List ℕ). p.0 < 64) ps

-- a file has the bytes of more packets after what it has
pub bytes_more : (file : ℕ) (ps qs : List (ℕ × List ℕ)) → file_bytes file (ps ++ qs) ≡ file_bytes file ps ++ file_bytes file qs
bytes_more file ps qs = grind (arith, nat_tests, filter-append, flat_map-append)

pub one_few : (file : ℕ) (bytes : List ℕ) → file < 64 → AreFew ((file, bytes) ∷ [])
one_few file bytes few = All-cons (λ (p : ℕ × List ℕ). p.0 < 64) (file, bytes) [] few (All-nil (λ (p : ℕ × List ℕ). p.0 < 64))

module _ (uuid : List ℕ) (e : EnabledRows) (names : Names) (hertz cpu : ℕ) where
  abbrev pub Reads : List (ℕ × List ℕ) → List Record → ℕ → Type 0
  Reads packets stream told = ReadsPackets uuid e names hertz cpu packets stream told

  -- no packets and no records
  pub reads_none : Reads [] [] 0
  reads_none = grind (arith, nat_tests, All-nil, told_same)

  -- no more packets and no more records
  pub reads_same : (ps : List (ℕ × List ℕ)) (stream rs : List Record) (place told : ℕ) → Reads ps stream told → Reads (ps ++ []) (stream ++ slice_range rs place place) told
  reads_same ps stream rs place told reads = grind (arith, nat_tests, append-nil, none_between)

module _ (laws : FilesLaws) (uuid : List ℕ) (e : EnabledRows) (names : Names) (hertz cpu : ℕ) (low : cpu < 2 ^ 32) (long : length uuid ≡ 16) (stamped : e.header ≡ header.Two) where
  abbrev Tells : ℕ → List ℕ → List EventRead → ℕ → Type 0
  Tells file bytes es told = FileTells (layout_of e names (ByTime hertz)) uuid cpu bytes es (told_by file told)

  -- the packets of runs
  pub reads_runs : (ps : List (ℕ × List ℕ)) (stream : List Record) (lasts after : List ℕ) (rs : List Record) (from to : ℕ) (runs : List Run) (told : ℕ) → told < 2 ^ 64 → All (Accepts e) rs
      → length lasts ≤ 64 → AreRuns lasts rs from runs to after → Reads uuid e names hertz cpu ps stream told
      → Reads uuid e names hertz cpu (ps ++ run_packets uuid e told cpu rs from runs) (stream ++ slice_range rs from to) told
  reads_runs ps stream lasts after rs from to runs told small accepted few are reads =
      let some : List (ℕ × List ℕ) = run_packets uuid e told cpu rs from runs in
      let more : List ℕ = run_files from runs in
      let part : List Record = slice_range rs from to in
      let covers = laws.runs_have lasts after rs from to runs are in
      let all = laws.have_all lasts part more after few covers.1 in
      record {
        few_files = All-append (λ (p : ℕ × List ℕ). p.0 < 64) ps some reads.few_files
            (packets_few uuid e told cpu rs from runs (runs_few laws.have_all laws.runs_have lasts rs from runs to after few are));
        files = reads.files ++ more;
        each = omega (arith, length-append reads.files more, length-append stream part, reads.each, spread_each lasts part more after covers.1);
        few = All-append (λ file. file < 64) reads.files more reads.few
            (All-weaker (λ file. file < length after) (λ file. file < 64) (λ file there. omega (arith, there, all.3)) more all.2);
        tells = λ file.
            let tells_part : PartTells (layout_of e names (ByTime hertz)) uuid cpu (file_bytes file some) (map (event_of e names (ByTime hertz)) (of_file file more part)) (told_by file told) =
            subst (λ qs. PartTells (layout_of e names (ByTime hertz)) uuid cpu (file_bytes file some) (map (event_of e names (ByTime hertz)) (of_file file more qs)) (told_by file told)) covers.0
            (laws.runs e names hertz uuid told cpu rs file lasts after from to runs stamped long small low accepted are) in
            let split : map (event_of e names (ByTime hertz)) (of_file file reads.files stream) ++ map (event_of e names (ByTime hertz)) (of_file file more part)
            ≡ map (event_of e names (ByTime hertz)) (of_file file (reads.files ++ more) (stream ++ part)) =
            sym (ap (map (event_of e names (ByTime hertz))) (of_more file reads.files more stream part reads.each)
            ∙ map-append (event_of e names (ByTime hertz)) (of_file file reads.files stream) (of_file file more part)) in
            subst (λ bytes. Tells file bytes (map (event_of e names (ByTime hertz)) (of_file file (reads.files ++ more) (stream ++ part))) told) (sym (bytes_more file ps some))
            (subst (λ es. Tells file (file_bytes file ps ++ file_bytes file some) es told) split
            (grown laws.join (layout_of e names (ByTime hertz)) uuid cpu (file_bytes file ps) (file_bytes file some) (map (event_of e names (ByTime hertz)) (of_file file reads.files stream))
            (map (event_of e names (ByTime hertz)) (of_file file more part)) (told_by file told) (reads.tells file) tells_part));
      }

  -- what tells more as missed: the first file has it
  tells_missed : (ps : List (ℕ × List ℕ)) (lasts : List ℕ) (told missed : ℕ) (es : List EventRead) → told < missed → missed < 2 ^ 64 → slice_index lasts 0 < 2 ^ 64 → (file : ℕ)
      → Tells file (file_bytes file ps) es told → (b : Bool) → (file == 0) ≡ b
      → Tells file (file_bytes file (ps ++ (0, missed_packets uuid told missed cpu lasts) ∷ [])) es missed
  tells_missed ps lasts told missed es rises small at file tells true is =
      let bytes : List ℕ = missed_packets uuid told missed cpu lasts in
      let one : List (ℕ × List ℕ) = (0, bytes) ∷ [] in
      let grows : file_bytes 0 (ps ++ one) ≡ file_bytes 0 ps ++ bytes = bytes_more 0 ps one ∙ ap (λ xs. file_bytes 0 ps ++ xs) (append-nil bytes) in
      subst (λ n. Tells n (file_bytes n (ps ++ one)) es missed) (sym (eqb-true file 0 is))
      (subst (λ xs. FileTells (layout_of e names (ByTime hertz)) uuid cpu xs es missed) (sym grows)
      (told_more laws.join (layout_of e names (ByTime hertz)) uuid cpu (file_bytes 0 ps) bytes es told missed
      (subst (λ n. Tells n (file_bytes n ps) es told) (eqb-true file 0 is) tells)
      (laws.missed e names hertz uuid told missed cpu lasts stamped long (omega (arith, rises, small)) small low at) (omega (arith, rises))))
  tells_missed ps lasts told missed es rises small at file tells false is = grind (arith, nat_tests, ne_eqb, eqb-false, bytes_more, append-nil, told_other)

  pub reads_missed : (ps : List (ℕ × List ℕ)) (stream : List Record) (lasts : List ℕ) (told missed : ℕ) → told < missed → missed < 2 ^ 64 → slice_index lasts 0 < 2 ^ 64
      → Reads uuid e names hertz cpu ps stream told → Reads uuid e names hertz cpu (ps ++ (0, missed_packets uuid told missed cpu lasts) ∷ []) stream missed
  reads_missed ps stream lasts told missed rises small at reads = record {
    few_files = All-append (λ (p : ℕ × List ℕ). p.0 < 64) ps ((0, missed_packets uuid told missed cpu lasts) ∷ []) reads.few_files
        (one_few 0 (missed_packets uuid told missed cpu lasts) (omega arith));
    files = reads.files;
    each = reads.each;
    few = reads.few;
    tells = λ file. tells_missed ps lasts told missed (map (event_of e names (ByTime hertz)) (of_file file reads.files stream)) rises small at file (reads.tells file) (file == 0) refl;
  }
