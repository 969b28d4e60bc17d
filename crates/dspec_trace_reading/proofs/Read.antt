-- What is read of a session that was traced, by what it promises of the batches that its sink got.
use Rattle.std.proofs.Common.{◌≡◌, ◌<◌, ℕ, List, [], ◌∷◌, ◌∙◌, append_assoc, slice_get, Some, subst, sym}
use Rattle.dspec_trace_reading.specs.Words.{EnabledRows, enabled, table_accepts, table_shape, table_text, CallsMade, waiting, passed_from, HaveNumbers, KeptIsRead, ListedBy, TakenIsRead}
use Rattle.dspec_trace_reading.specs.Words.{TimedIsRead, TimedKeptIsRead, TracedBy, told_on, missed_on, told_by_time, missed_by_time, Config, Batch, Left, AsTaken, ByTime}
use Rattle.dspec_filing_reading.proofs.FilesLaws.{FilesLaws}
use Rattle.dspec_ctf_reading.proofs.AllowedWords.{get-some}
use Rattle.dspec_trace_reading.proofs.{Filled.reads_back, Filled.reads_kept, Folding.FilesRead, Folding.Holds, Folding.MetadataReads, OwnNumbers.Numbered, OwnNumbers.have_numbers}
use Rattle.dspec_trace_reading.proofs.{OwnNumbers.taken_numbered, Partly.filled, TimedPartly.filled as timed_filled}

module _ (e : EnabledRows) (does : ℕ → CallsMade → CallsMade → Type 0) where
  module _ {K : Type 0} (gets : K → Batch → K → Type 0) (k : Config) (begun : K) (left : List Left) (ended : K) (t : TracedBy e does gets k begun left ended) where
    -- by the lists that the session has
    pub numbered : ListedBy e does gets k begun left ended → HaveNumbers t.passed
    numbered h = have_numbers k.cpus t.passed t.from (λ d lt.
        let found = get-some left d (subst (λ n. d < n) (sym h.closes.all) lt) in
        subst (λ bs. Numbered d bs) (sym (t.whole d found.0 found.1))
        (taken_numbered (table_shape e.header (enabled e.rows)) (table_accepts e.header (enabled e.rows)) (table_text e.header (enabled e.rows)) k d (t.promised.own d) (t.entered d) (t.taken d)
        found.0 (t.promised.sealed d found.0 found.1) (h.closes.each d found.0 found.1).last.of_cpu))

    held : (c : ℕ) (l : Left) (there : slice_get left c ≡ Some l) → Holds e (passed_from c t.passed) (t.promised.each c l there).seen
    held c l there =
        subst (λ bs. Holds e bs (t.promised.each c l there).seen) (append_assoc (t.taken c) (waiting l.rest) (l.last ∷ []) ∙ sym (t.whole c l there)) (t.promised.each c l there).hold

  pub taken_read : MetadataReads → FilesRead → TakenIsRead e does
  taken_read metadata files origin names k begun ended left is t h none long numbers small =
      reads_back metadata AsTaken origin e names is.before (λ c. passed_from c t.passed) ended.lost ended.written (told_on ended) (missed_on ended)
      (filled files origin e names begun ended is t.passed t.got long (numbered _ k begun left ended t h)) left (λ c l there. (t.promised.each c l there).seen) numbers
      (held _ k begun left ended t) none small

  pub kept_read : MetadataReads → FilesRead → KeptIsRead e does
  kept_read metadata files origin names k begun ended left is t h long numbers small =
      reads_kept metadata AsTaken origin e names is.before (λ c. passed_from c t.passed) ended.lost ended.written (told_on ended) (missed_on ended)
      (filled files origin e names begun ended is t.passed t.got long (numbered _ k begun left ended t h)) left (λ c l there. (t.promised.each c l there).seen) numbers
      (held _ k begun left ended t) small

  pub timed_read : MetadataReads → FilesLaws → TimedIsRead e does
  timed_read metadata laws origin hertz names k begun ended left is t h none long numbers small =
      reads_back metadata (ByTime hertz) origin e names is.before (λ c. passed_from c t.passed) ended.lost ended.written (told_by_time ended) (missed_by_time ended)
      (timed_filled laws origin hertz e names begun ended is t.passed t.got long (numbered _ k begun left ended t h)) left (λ c l there. (t.promised.each c l there).seen) numbers
      (held _ k begun left ended t) none small

  pub timed_kept_read : MetadataReads → FilesLaws → TimedKeptIsRead e does
  timed_kept_read metadata laws origin hertz names k begun ended left is t h long numbers small =
      reads_kept metadata (ByTime hertz) origin e names is.before (λ c. passed_from c t.passed) ended.lost ended.written (told_by_time ended) (missed_by_time ended)
      (timed_filled laws origin hertz e names begun ended is t.passed t.got long (numbered _ k begun left ended t h)) left (λ c l there. (t.promised.each c l there).seen) numbers
      (held _ k begun left ended t) small
