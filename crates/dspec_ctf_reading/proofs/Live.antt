-- A CPU's file while it runs: the packets of the runs that go to it.
use Rattle.std.proofs.Common.{◌≡◌, ◌≤◌, ◌<◌, ◌-◌, ◌^◌, ◌++◌, ◌==◌, ℕ, zero, suc, Bool, true, false, cond, List, [], ◌∷◌, length, map, drop, replicate, Option, Some, refl, ap, sym, subst, ◌∙◌, arith}
use Rattle.std.proofs.Common.{All}
use Rattle.std.proofs.lemmas.Bool.{eqb-true}
use Rattle.std.proofs.lemmas.List.{map-append, length-take-le, length-drop, Elements.All-append, Elements.All-take, Elements.All-drop, Elements.All-nil, Elements.All-cons}
use Rattle.std.specs.{List.flat_map, Prelude.filter, Prelude.zip, Prelude.slice_index, Prelude.slice_range}
use Rattle.dspec_ctf_reading.specs.Words.{Record, EnabledRows, filled_around, Accepts, AreRuns, of_file, run_records, run_files, told_by, run_packet, run_packets, missed_packets, Layout, PacketRead}
use Rattle.dspec_ctf_reading.specs.Words.{read_file, Naming, event_read, layout_by, packet_read, FileTells, PartTells, file_bytes, Run}
use Rattle.dspec_ctf_reading.proofs.{Batches.both-read, EventsRead.HasStamps, Files.filled-read, Files.told-low, FilledRead.filled-tells, Joining.join, PacketsRead.HasSpan}

-- records of a run before others: they are there in the run's file
of-run : (file f k : ℕ) (xs : List Record) (fs : List ℕ) (ys : List Record) (b : Bool) → length xs ≡ k → (f == file) ≡ b
    → of_file file (replicate k f ++ fs) (xs ++ ys) ≡ cond b xs [] ++ of_file file fs ys
of-run file f zero [] fs ys true long is = refl
of-run file f zero [] fs ys false long is = refl
of-run file f zero (x ∷ xs) fs ys b long is = absurd (omega (arith, long))
of-run file f (suc k) [] fs ys b long is = absurd (omega (arith, long))
of-run file f (suc k) (x ∷ xs) fs ys true long is =
    let rest : List (ℕ × Record) = filter (λ p. p.0 == file) (zip (replicate k f ++ fs) (xs ++ ys)) in
    ap (λ b. map (λ p. p.1) (cond b ((f, x) ∷ rest) rest)) is ∙ ap (λ more. x ∷ more) (of-run file f k xs fs ys true (omega (arith, long)) is)
of-run file f (suc k) (x ∷ xs) fs ys false long is =
    let rest : List (ℕ × Record) = filter (λ p. p.0 == file) (zip (replicate k f ++ fs) (xs ++ ys)) in
    ap (λ b. map (λ p. p.1) (cond b ((f, x) ∷ rest) rest)) is ∙ of-run file f k xs fs ys false (omega (arith, long)) is

module _ (called : Naming) (e : EnabledRows) (has : HasStamps true e.header) (uuid : List ℕ) (missed cpu : ℕ)
    (long : length uuid ≡ 16) (low : missed < 2 ^ 64) (small : cpu < 2 ^ 32) where
  run-back : (file : ℕ) (rs : List Record) → All (Accepts e) rs
      → PartTells (layout_by called true e) uuid cpu (run_packet uuid e missed cpu file rs) (map (event_read called true e) rs) (told_by file missed)
  run-back file rs of_rs = filled-tells called true e has uuid cpu long small (told_by file missed) rs (told-low (file == 0) missed low) of_rs

  module _ (rs : List Record) (of_rs : All (Accepts e) rs) (file : ℕ) where
    -- what is read of the runs from a place on
    From : ℕ → List Run → Type 0
    From from runs = PartTells (layout_by called true e) uuid cpu (file_bytes file (run_packets uuid e missed cpu rs from runs))
        (map (event_read called true e) (of_file file (run_files from runs) (run_records rs from runs))) (told_by file missed)

    slice-of : (from to : ℕ) → All (Accepts e) (slice_range rs from to)
    slice-of from to = All-take (Accepts e) (to - from) (drop from rs) (All-drop (Accepts e) from rs of_rs)

    slice-long : (from to : ℕ) → from < to → to ≤ length rs → length (slice_range rs from to) ≡ to - from
    slice-long from to some within = length-take-le (to - from) (drop from rs) (omega (arith, some, within, length-drop from rs))

    step : (from : ℕ) (run : Run) (runs : List Run) → from < run.end → run.end ≤ length rs → From run.end runs → From from (run ∷ runs)
    unfolding From
    step from run runs some within rest = go (run.file == file) refl
      where
        part : List Record
        part = slice_range rs from run.end

        others : List (ℕ × List ℕ)
        others = run_packets uuid e missed cpu rs run.end runs

        mine : ℕ × List ℕ
        mine = (run.file, run_packet uuid e missed cpu run.file part)

        later_files : List ℕ
        later_files = run_files run.end runs

        later : List Record
        later = run_records rs run.end runs

        kept : List (ℕ × List ℕ)
        kept = filter (λ p. p.0 == file) others

        go : (b : Bool) → (run.file == file) ≡ b → From from (run ∷ runs)
        go true is =
            let same : run.file ≡ file = eqb-true run.file file is in
            let bytes : file_bytes file (mine ∷ others) ≡ mine.1 ++ file_bytes file others = ap (λ b. flat_map (λ p. p.1) (cond b (mine ∷ kept) kept)) is in
            let first : PartTells (layout_by called true e) uuid cpu mine.1 (map (event_read called true e) part) (told_by run.file missed) =
            run-back run.file part (slice-of from run.end) in
            let both = both-read (layout_by called true e) mine.1 (file_bytes file others) first.packets rest.packets _ _ first.read rest.read first.has rest.has in
            record {
              packets = first.packets ++ rest.packets;
              read = ap (read_file (layout_by called true e)) bytes ∙ both.0;
              has = both.1 ∙ sym (map-append (event_read called true e) part (of_file file later_files later))
                  ∙ ap (map (event_read called true e)) (sym (of-run file run.file (run.end - from) part later_files later true (slice-long from run.end some within) is));
              whose = All-append (λ p. (p.uuid ≡ uuid) × (p.cpu ≡ cpu) × (p.discarded ≡ told_by file missed)) first.packets rest.packets
                  (subst (λ f. All (λ p. (p.uuid ≡ uuid) × (p.cpu ≡ cpu) × (p.discarded ≡ told_by f missed)) first.packets) same first.whose) rest.whose;
            }
        go false is =
            let bytes : file_bytes file (mine ∷ others) ≡ file_bytes file others = ap (λ b. flat_map (λ p. p.1) (cond b (mine ∷ kept) kept)) is in
            record {
              packets = rest.packets;
              read = ap (read_file (layout_by called true e)) bytes ∙ rest.read;
              has = rest.has
                  ∙ ap (map (event_read called true e)) (sym (of-run file run.file (run.end - from) part later_files later false (slice-long from run.end some within) is));
              whose = rest.whose;
            }

    pub runs-back : (lasts : List ℕ) (from : ℕ) (runs : List Run) (to : ℕ) (new : List ℕ) → AreRuns lasts rs from runs to new
        → PartTells (layout_by called true e) uuid cpu (file_bytes file (run_packets uuid e missed cpu rs from runs))
        (map (event_read called true e) (of_file file (run_files from runs) (run_records rs from runs))) (told_by file missed)
    unfolding From
    runs-back lasts from [] to new are = record {
      packets = [];
      read = refl;
      has = refl;
      whose = All-nil (λ p. (p.uuid ≡ uuid) × (p.cpu ≡ cpu) × (p.discarded ≡ told_by file missed));
    }
    runs-back lasts from (run ∷ runs) to new (mid, (is, rest)) =
        step from run runs is.some is.within (runs-back mid run.end runs to new rest)

-- the two packets that tell what was missed
pub missed-back : (called : Naming) (e : EnabledRows) → HasStamps true e.header → (uuid : List ℕ) (before missed cpu : ℕ) (lasts : List ℕ)
    → length uuid ≡ 16 → before < 2 ^ 64 → missed < 2 ^ 64 → cpu < 2 ^ 32
    → slice_index lasts 0 < 2 ^ 64 → FileTells (layout_by called true e) uuid cpu (missed_packets uuid before missed cpu lasts) [] missed
unfolding HasSpan
missed-back called e has uuid before missed cpu lasts long low high small at =
    let span : Option (ℕ × ℕ) = Some (slice_index lasts 0, slice_index lasts 0) in
    let layout : Layout = layout_by called true e in
    let first : PacketRead = packet_read called true e uuid span before cpu [] in
    let second : PacketRead = packet_read called true e uuid span missed cpu [] in
    let one : (n : ℕ) → n < 2 ^ 64 → read_file layout (filled_around uuid span n cpu []) ≡ Some (packet_read called true e uuid span n cpu [] ∷ []) =
    λ n fits. filled-read called true e has uuid span n cpu [] long (both-low (slice_index lasts 0) at) fits small (omega arith) (All-nil (Accepts e)) in
    record {
      packets = first ∷ second ∷ [];
      read = join layout (length (filled_around uuid span before cpu [])) (filled_around uuid span before cpu []) (filled_around uuid span missed cpu []) (first ∷ []) (second ∷ []) (omega arith)
          (one before low) (one missed high);
      has = refl;
      misses = refl;
      whose = All-cons (λ p. (p.uuid ≡ uuid) × (p.cpu ≡ cpu)) first (second ∷ []) (refl, refl)
          (All-cons (λ p. (p.uuid ≡ uuid) × (p.cpu ≡ cpu)) second [] (refl, refl) (All-nil (λ p. (p.uuid ≡ uuid) × (p.cpu ≡ cpu))));
    }
  where
    both-low : (stamp : ℕ) → stamp < 2 ^ 64 → HasSpan true (Some (stamp, stamp))
    both-low stamp fits = (fits, fits)
