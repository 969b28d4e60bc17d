-- A folder that was written as batches were taken, of which some may be lost, and what is read of it.
use Rattle.std.proofs.Common.{◌≡◌, ◌≢◌, ◌<◌, ◌≤◌, ◌+◌, ◌^◌, ℕ, inl, List, [], ◌∷◌, ◌++◌, false, Some, sym, ap, ◌∙◌, subst, arith, length, map, All, codes, None}
use Rattle.std.proofs.lemmas.List.Elements.{All-head, All-tail, All-weaker}
use Rattle.std.specs.List.{flat_map}
use Rattle.dspec_trace_reading.specs.Words.{FileWrite, Record, EnabledRows, AreFrom, Passed, GotAll, passed_from, filled_packets, Accepts, FileTells, last_missed, event_of, layout_of, missed_on}
use Rattle.dspec_trace_reading.specs.Words.{file_of, GetsPacket, Tracing, cpu_name, HaveNumbers, drops_carried, told_on, BegunNew, ReadsKept, AsTaken, Names, Origin}
use Rattle.dspec_trace_reading.proofs.{Begun.asked, Begun.begun_with, Begun.metadata_is, Begun.none_yet, Begun.nothing_yet, Begun.path_is, Filled.IsFilled, Filled.path_kept, Folding.FilesRead}
use Rattle.dspec_trace_reading.proofs.{Folding.Holds, Folding.Stays, Folding.last_from, Folding.last_same, Folding.stays, Folding.stays_of, Keeping.IsExact, Keeping.Kept, Keeping.Told}
use Rattle.dspec_trace_reading.proofs.{Keeping.all_kept, Losing.leaves, Naming.cpu_named, Naming.not_metadata}

-- the last packet tells no more than what no packet tells more than
last_at_most : (n m : ℕ) (ps : List (ℕ × List Record)) → n ≤ m → All (λ (p : ℕ × List Record). p.0 ≤ m) ps → last_from n ps ≤ m
last_at_most n m [] few all = few
last_at_most n m (p ∷ ps) few all =
    last_at_most p.0 m ps (All-head (λ (q : ℕ × List Record). q.0 ≤ m) p ps all) (All-tail (λ (q : ℕ × List Record). q.0 ≤ m) p ps all)

module _ (files_law : FilesRead) (origin : Origin) (e : EnabledRows) (names : Names) (begun ended : Tracing) (is : BegunNew origin e names begun)
    (passed : List Passed) (got : GotAll (GetsPacket e) begun passed ended) where
  abbrev first_writes : List FileWrite
  first_writes = begun_with origin AsTaken e names is.before

  begun_asked : begun.written ≡ Some first_writes
  begun_asked = asked origin AsTaken e names is.before is.new begun.written is.begins.written

  -- a file that is none of a CPU's stays as it was
  others_stay : (name : List ℕ) → ((c : ℕ) → cpu_name c ≢ name) → Stays name ended.written first_writes
  others_stay name apart =
      stays (GetsPacket e) (λ (t : Tracing). t.written) name
      (λ old b new gets was asked. let one = (leaves e old new b gets.came).files was asked in (one.0, (one.1.0, one.1.1 name (λ there. apart b.cpu))))
      passed begun ended first_writes got begun_asked

  metadata_stays : Stays (codes "metadata") ended.written first_writes
  metadata_stays = others_stay (codes "metadata") not_metadata

  -- nothing was written to a file that is none of these CPUs' and not the metadata
  pub none_elsewhere : (count : ℕ) → HaveNumbers passed → AreFrom count passed → (ws : List FileWrite) → ended.written ≡ Some ws → (name : List ℕ) → name ≢ [] → name ≢ codes "metadata"
      → ((c : ℕ) → c < count → cpu_name c ≢ name) → file_of name ws ≡ []
  none_elsewhere count own from ws is_written name named other apart =
      let s = stays_of (GetsPacket e) (λ (t : Tracing). t.written) name count
      (λ old b new low gets was asked. let one = (leaves e old new b gets.came).files was asked in (one.0, (one.1.0, one.1.1 name (λ there. apart b.cpu low))))
      passed begun ended first_writes own from got begun_asked in
      let both : Some (first_writes ++ s.0) ≡ Some ws = sym s.1.0 ∙ is_written in
      let same : first_writes ++ s.0 ≡ ws = cc (both) in
      ap (λ xs. file_of name xs) (sym same) ∙ s.1.1 ∙ nothing_yet origin AsTaken e names is.before is.new name named other

  abbrev writes : List FileWrite
  writes = first_writes ++ metadata_stays.0

  module _ (c : ℕ) (low : c < 64) (rs : List Record) (long : length origin.uuid ≡ 16) (small : missed_on ended c < 2 ^ 64) (exact : IsExact c ended)
      (own : HaveNumbers passed) (hold : Holds e (passed_from c passed) rs) where
    kept : Kept e origin.uuid c low begun ended (passed_from c passed) first_writes
    kept =
        all_kept e origin.uuid c low passed begun ended first_writes rs got is.begins.uuid_is (ap length is.begins.missed) (ap length is.begins.told)
        begun_asked exact own hold

    tells_kept : FileTells (layout_of e names AsTaken) origin.uuid c (flat_map (λ p. filled_packets false e origin.uuid p.0 c p.1) kept.packets)
        (map (event_of e names AsTaken) (flat_map (λ p. p.1) kept.packets)) (last_missed kept.packets)
    tells_kept =
        files_law e names origin.uuid c kept.packets long (omega (arith, low))
        (All-weaker (Told e origin.uuid c low ended) (λ p. (p.0 < 2 ^ 64) × All (Accepts e) p.1)
        (λ p h. (omega (arith, h.0, small), h.1)) kept.packets kept.each)

    told_is : last_missed kept.packets ≡ told_on ended c
    told_is = last_same kept.packets ∙ ap (λ n. last_from n kept.packets) (sym (none_yet begun.told is.begins.told c)) ∙ kept.told

    same_writes : writes ≡ kept.writes
    same_writes =
        let both : Some writes ≡ Some kept.writes = sym metadata_stays.1.0 ∙ kept.asked in
        cc (both)

    -- where nothing is lost, all that its batches carried as drops is told
    none_lost : ended.lost ≡ None → (missed_on ended c ≡ drops_carried (passed_from c passed)) × (told_on ended c ≡ missed_on ended c)
    none_lost none =
        let w = kept.whole none in
        (omega (arith, kept.counted, w.0, none_yet begun.missed is.begins.missed c), w.1 (none_yet begun.told is.begins.told c ∙ sym (none_yet begun.missed is.begins.missed c)))

    stream_kept : ReadsKept AsTaken origin.uuid e names c (passed_from c passed) writes (told_on ended c) (missed_on ended c)
    stream_kept =
        let bytes : file_of (cpu_name c) writes ≡ flat_map (λ p. filled_packets false e origin.uuid p.0 c p.1) kept.packets =
        ap (λ ws. file_of (cpu_name c) ws) same_writes ∙ kept.bytes
        ∙ ap (λ xs. xs ++ flat_map (λ p. filled_packets false e origin.uuid p.0 c p.1) kept.packets)
        (nothing_yet origin AsTaken e names is.before is.new (cpu_name c) (cpu_named c) (not_metadata c)) in
        record {
          kept = flat_map (λ p. p.1) kept.packets;
          lost = kept.lost;
          are_kept = kept.are_kept;
          tells =
              subst (λ n. FileTells (layout_of e names AsTaken) origin.uuid c (file_of (cpu_name c) writes) (map (event_of e names AsTaken) (flat_map (λ p. p.1) kept.packets)) n) told_is
              (subst (λ xs. FileTells (layout_of e names AsTaken) origin.uuid c xs (map (event_of e names AsTaken) (flat_map (λ p. p.1) kept.packets)) (last_missed kept.packets))
              (sym bytes) tells_kept);
          counted = omega (arith, kept.counted, none_yet begun.missed is.begins.missed c);
          no_more = subst (λ n. n ≤ missed_on ended c) kept.told
              (last_at_most (told_on begun c) (missed_on ended c) kept.packets (omega (arith, none_yet begun.told is.begins.told c))
              (All-weaker (Told e origin.uuid c low ended) (λ (p : ℕ × List Record). p.0 ≤ missed_on ended c) (λ p h. h.0) kept.packets kept.each));
        }

  -- what is known of the folder
  pub filled : length origin.uuid ≡ 16 → HaveNumbers passed
      → IsFilled AsTaken origin e names is.before (λ c. passed_from c passed) ended.lost ended.written (told_on ended) (missed_on ended)
  filled long own = record {
    later = metadata_stays.0;
    asked = metadata_stays.1.0;
    at = path_kept first_writes ended.written metadata_stays (others_stay [] cpu_named) ∙ path_is origin AsTaken e names is.before is.new;
    text = metadata_stays.1.1 ∙ metadata_is origin AsTaken e names is.before is.new;
    allowed = is.begins.allowed;
    kept = λ c low rs small exact hold. stream_kept c low rs long small exact own hold;
    whole = λ c low rs small none hold. none_lost c low rs long small (inl none) own hold none;
  }
