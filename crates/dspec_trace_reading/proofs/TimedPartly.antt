-- A folder that was written by time, of which some may be lost, and what is read of it.
use Rattle.std.proofs.Common.{◌++◌, ◌≡◌, ◌≢◌, ◌<◌, ◌+◌, ◌^◌, ℕ, inl, List, [], Some, None, sym, ap, ◌∙◌, subst, arith, length, map, codes}
use Rattle.dspec_trace_reading.specs.Words.{FileWrite, Record, EnabledRows, AreFrom, Passed, GotAll, passed_from, of_file, told_by, FileTells, event_of, layout_of, ReadsKept, ByTime, Names, Origin}
use Rattle.dspec_trace_reading.specs.Words.{GetsRuns, TimedTracing, row_name, file_of, HaveNumbers, drops_carried, missed_by_time, told_by_time, TimedBegunNew}
use Rattle.dspec_filing_reading.proofs.FilesLaws.{FilesLaws}
use Rattle.dspec_trace_reading.proofs.{Begun.asked, Begun.begun_with, Begun.metadata_is, Begun.none_yet, Begun.nothing_yet, Begun.path_is, Filled.IsFilled, Filled.path_kept, Folding.Holds}
use Rattle.dspec_trace_reading.proofs.{Folding.Stays, Folding.stays, Folding.stays_of, RowNaming.row_named, RowNaming.row_not_metadata, TimedBegun.begins, TimedBegun.stamped}
use Rattle.dspec_trace_reading.proofs.{TimedKeeping.KeptByTime, TimedKeeping.all_kept, TimedLosing.IsExactByTime, TimedLosing.leaves}

module _ (laws : FilesLaws) (origin : Origin) (hertz : ℕ) (e : EnabledRows) (names : Names) (begun ended : TimedTracing)
    (is : TimedBegunNew origin hertz e names begun) (passed : List Passed) (got : GotAll (GetsRuns e) begun passed ended) where
  abbrev first_writes : List FileWrite
  first_writes = begun_with origin (ByTime hertz) e names is.before

  -- a file that is none of a CPU's stays as it was
  others_stay : (name : List ℕ) → ((c file : ℕ) → row_name c file ≢ name) → Stays name ended.written first_writes
  others_stay name apart =
      stays (GetsRuns e) (λ (t : TimedTracing). t.written) name
      (λ old b new gets was asked. let one = (leaves e old new b gets.came).files was asked in (one.0, (one.1.0, one.1.1 name (λ there file. apart b.cpu file))))
      passed begun ended first_writes got (asked origin (ByTime hertz) e names is.before is.new begun.written is.begins.written)

  metadata_stays : Stays (codes "metadata") ended.written first_writes
  metadata_stays = others_stay (codes "metadata") row_not_metadata

  -- nothing was written to a file that is none of these CPUs' and not the metadata
  pub none_elsewhere : (count : ℕ) → HaveNumbers passed → AreFrom count passed → (ws : List FileWrite) → ended.written ≡ Some ws → (name : List ℕ) → name ≢ [] → name ≢ codes "metadata"
      → ((c file : ℕ) → c < count → row_name c file ≢ name) → file_of name ws ≡ []
  none_elsewhere count own from ws is_written name named other apart =
      let s = stays_of (GetsRuns e) (λ (t : TimedTracing). t.written) name count
      (λ old b new low gets was asked. let one = (leaves e old new b gets.came).files was asked in (one.0, (one.1.0, one.1.1 name (λ there file. apart b.cpu file low))))
      passed begun ended first_writes own from got (asked origin (ByTime hertz) e names is.before is.new begun.written is.begins.written) in
      let both : Some (first_writes ++ s.0) ≡ Some ws = sym s.1.0 ∙ is_written in
      let same : first_writes ++ s.0 ≡ ws = cc (both) in
      ap (λ xs. file_of name xs) (sym same) ∙ s.1.1 ∙ nothing_yet origin (ByTime hertz) e names is.before is.new name named other

  abbrev writes : List FileWrite
  writes = first_writes ++ metadata_stays.0

  module _ (c : ℕ) (low : c < 64) (rs : List Record) (long : length origin.uuid ≡ 16) (small : missed_by_time ended c < 2 ^ 64) (exact : IsExactByTime c ended)
      (own : HaveNumbers passed) (hold : Holds e (passed_from c passed) rs) where
    all : KeptByTime laws origin.uuid e names hertz c low long (stamped origin hertz e names is.begins.allowed) begun ended (passed_from c passed) []
    all =
        all_kept laws origin.uuid e names hertz c low long (stamped origin hertz e names is.begins.allowed) passed begun ended [] rs got is.begins.uuid_is
        (ap length is.begins.missed) small exact own hold (begins origin hertz e names begun is origin.uuid c)

    -- where nothing is lost, all that its batches carried as drops is told
    none_lost : ended.lost ≡ None → (missed_by_time ended c ≡ drops_carried (passed_from c passed)) × (told_by_time ended c ≡ missed_by_time ended c)
    none_lost none =
        let w = all.whole none in (
          omega (arith, all.counted, w.0, none_yet begun.missed is.begins.missed c),
          w.1 (none_yet begun.told is.begins.told c ∙ sym (none_yet begun.missed is.begins.missed c)),
        )

    stream_kept : ReadsKept (ByTime hertz) origin.uuid e names c (passed_from c passed) writes (told_by_time ended c) (missed_by_time ended c)
    stream_kept =
        let f = all.stands.filed in
        let both : Some f.writes ≡ Some writes = sym f.asked ∙ metadata_stays.1.0 in
        let same : f.writes ≡ writes = cc (both) in
        record {
          kept = all.kept;
          lost = all.lost;
          are_kept = all.are_kept;
          tells = record {
            files = f.reads.files;
            each = f.reads.each;
            few = f.reads.few;
            tells = λ file few.
                subst (λ bytes. FileTells (layout_of e names (ByTime hertz)) origin.uuid c bytes (map (event_of e names (ByTime hertz)) (of_file file f.reads.files all.kept))
                (told_by file (told_by_time ended c))) (sym (f.have file few) ∙ ap (file_of (row_name c file)) same) (f.reads.tells file);
          };
          counted = omega (arith, all.counted, none_yet begun.missed is.begins.missed c);
          no_more = all.stands.told;
        }

  -- what is known of the folder
  pub filled : length origin.uuid ≡ 16 → HaveNumbers passed
      → IsFilled (ByTime hertz) origin e names is.before (λ c. passed_from c passed) ended.lost ended.written (told_by_time ended) (missed_by_time ended)
  filled long own = record {
    later = metadata_stays.0;
    asked = metadata_stays.1.0;
    at = path_kept first_writes ended.written metadata_stays (others_stay [] row_named) ∙ path_is origin (ByTime hertz) e names is.before is.new;
    text = metadata_stays.1.1 ∙ metadata_is origin (ByTime hertz) e names is.before is.new;
    allowed = is.begins.allowed;
    kept = λ c low rs small exact hold. stream_kept c low rs long small exact own hold;
    whole = λ c low rs small none hold. none_lost c low rs long small (inl none) own hold none;
  }
