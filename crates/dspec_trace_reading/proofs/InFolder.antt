-- What is read of a folder into which a session was traced by one call, of either form.
use Rattle.std.proofs.Common.{◌∷◌, ◌++◌, ◌≡◌, ◌≢◌, ◌<◌, ◌≤◌, ◌+◌, ◌-◌, ◌^◌, ℕ, List, [], ◌⊎◌, inl, inr, Option, Some, None, refl, sym, ap, ◌∙◌, subst, arith, codes, length, slice_get, slice_index}
use Rattle.std.proofs.Common.{replicate, Result, Ok, IfOk, IsOk, Err}
use Rattle.std.proofs.lemmas.Bool.Decides.{nat_tests}
use Rattle.dspec_trace_reading.specs.Words.{EnabledRows, start_fault, CallsMade, passed_from, HasNumbers, FileWrite, file_of, drops_carried, IsFileOf, IsInFolder, missed_in, RanBegun}
use Rattle.dspec_trace_reading.specs.Words.{HasOriginNumbers, AreCountable, AreNamesOf, ticks_of, TellsProgram, all_counted, lost_records, made_at, written_in, KeptOf, Reads, ReadsKept, ReadsPart}
use Rattle.dspec_trace_reading.specs.Words.{Config, Batch, Left, ProbeNames, Form, AsTaken, ByTime, Names, Numbered, Given, ClockStart, Origin, Loss, GetsPacket, GetsRuns, Tracing, TimedTracing}
use Rattle.dspec_trace_reading.specs.Words.{IsBegunTrace, IsBegunByTime, IsOfTrace, IsOfTimedTrace, BegunNew, TimedBegunNew, IsByOneList}
use Rattle.dspec_trace_reading.specs.declared.{fault.ToFolderFault.ToFolderFault, folder_trace.FolderTrace.FolderTrace, running.Begun.Begun, running.Ran.Ran}
use Rattle.dspec_filing_reading.proofs.FilesLaws.{FilesLaws}
use Rattle.dspec_trace_reading.proofs.{Answered.counts, Begun.begun_with, Begun.first, Begun.none_yet, Bounded.Counts, Bounded.bounded, Bounded.lost_answered, Carried.Carries, Carried.in_both}
use Rattle.dspec_trace_reading.proofs.{Filled.IsFilled, Filled.metadata_read, Folding.FilesRead, Folding.MetadataReads, Kept.kept_before, Kept.whole_read, Partly.filled, Partly.none_elsewhere}
use Rattle.dspec_trace_reading.proofs.{Placing.made_new, Placing.made_there, Summing.most, Summing.one_within, TimedAnswered.counts as timed_counts, TimedPartly.filled as timed_filled}
use Rattle.dspec_trace_reading.proofs.{TimedPartly.none_elsewhere as timed_elsewhere}

-- with what is so of the probes
pub all_numbers : (origin : Origin) (form : Form) (e : EnabledRows) (ps : List ProbeNames) (names : Names) → HasOriginNumbers origin → ticks_of form < 2 ^ 64 → AreNamesOf ps names
    → AreCountable e ps → HasNumbers origin form e names
all_numbers origin form e ps Numbered told rate named few = absurd named
all_numbers origin form e ps (Given ns) told rate named few = grind (arith, nat_tests)

module _ (metadata : MetadataReads) (form : Form) (start : Option ClockStart) {K T : Type 0} (gets : K → Batch → K → Type 0) (sees : T → Batch → T → Type 0)
    (does : ℕ → CallsMade → CallsMade → Type 0) (e : EnabledRows) (ps : List ProbeNames) (path name : List ℕ) (k : Config) (old new : K) where
  -- such a folder is read so, and the page of its session is that of one list
  abbrev pub Into : List Left → List ℕ → Option Loss → Option (List FileWrite) → Type 0
  Into left uuid lost written =
      (read : IsInFolder gets does e form start (KeptOf form e) (λ u. Reads form u e) ps path name k old left new uuid lost written) × IsByOneList gets does e k old left new read.kept

  -- a trace of this form: what it missed of each CPU and told, what it answers as lost, and what its place was asked for
  module _ (missing telling : T → List ℕ) (losing : T → Option Loss) (writing : T → Option (List FileWrite)) (counts : Counts e sees missing losing)
      (left : List Left) (begun ended : T) (c : Carries gets sees does e k old left new begun ended) (fine : start_fault k ≡ None) (zero : missing begun ≡ replicate 64 0)
      (unlost : losing begun ≡ None) (small : (d : ℕ) → slice_index (missing ended) d < 2 ^ 64) (uuid : List ℕ) (origin : Origin) (names : Names) (named : AreNamesOf ps names)
      (whose : TellsProgram origin uuid name start) (numbers : HasOriginNumbers origin) (rate : ticks_of form < 2 ^ 64)
      (f : IsFilled form origin e names (made_at path ∷ []) (λ d. passed_from d c.all) (losing ended) (writing ended) (λ d. slice_index (telling ended) d) (λ d. slice_index (missing ended) d))
      (lost : Option Loss) (written : Option (List FileWrite)) (loses : losing ended ≡ lost) (puts : writing ended ≡ written)
      (others : (ws : List FileWrite) → writing ended ≡ Some ws → (other : List ℕ) → other ≢ [] → other ≢ codes "metadata"
      → ((d : ℕ) → d < length left → IsFileOf form d other → ⊥) → file_of other ws ≡ []) where
    abbrev writes : List FileWrite
    writes = begun_with origin form e names (made_at path ∷ []) ++ f.later

    abbrev told : ℕ → ℕ
    told d = slice_index (telling ended) d

    abbrev missed : ℕ → ℕ
    missed d = slice_index (missing ended) d

    reads : (d : ℕ) (l : Left) → slice_get left d ≡ Some l → (lost ≡ None) ⊎ (missed d + 1 < 2 ^ 64) → ReadsKept form uuid e names d (passed_from d c.all) writes (told d) (missed d)
    reads d l at exact =
        subst (λ u. ReadsKept form u e names d (passed_from d c.all) writes (told d) (missed d)) whose.trace
        (f.kept d (c.low fine d l at) ((c.kept.page.each d l at).seen) (small d) (subst (λ o. (o ≡ None) ⊎ (missed d + 1 < 2 ^ 64)) (sym loses) exact) (c.holds d l at))

    -- no more was missed of a CPU than its report counts
    few : (d : ℕ) (l : Left) → slice_get left d ≡ Some l → missed d ≤ l.report.accepted + missed_in l.report
    few d l at =
        let most = bounded e sees missing losing counts d (c.low fine d l at) c.all begun ended ((c.kept.page.each d l at).seen) c.got (ap length zero) c.own (c.holds d l at) in
        omega (arith, most, none_yet (missing begun) zero d, c.missed d l at, c.accepted d l at)

    whole : lost ≡ None → (d : ℕ) (l : Left) (at : slice_get left d ≡ Some l) → Reads form uuid e names d ((c.kept.page.each d l at).seen) (missed_in l.report) writes
    whole none d l at =
        let rs = (c.kept.page.each d l at).seen in
        subst (λ n. Reads form uuid e names d rs n writes) (c.missed d l at)
        (whole_read e form uuid names d (passed_from d c.all) writes (told d) (missed d) rs (reads d l at (inl none)) (c.holds d l at)
        (f.whole d (c.low fine d l at) rs (small d) (loses ∙ none) (c.holds d l at)))

    -- what a CPU missed beyond the drops that its batches carried is lost
    abbrev lost_on : ℕ → ℕ
    lost_on d = missed d - drops_carried (passed_from d c.all)

    part : (d : ℕ) (l : Left) → slice_get left d ≡ Some l → l.report.accepted + missed_in l.report + 1 < 2 ^ 64
        → ReadsPart (KeptOf form e) (Reads form uuid e names d) (passed_from d c.kept.passed) (missed_in l.report) (lost_on d) writes
    part d l at below =
        let r = reads d l at (inr (omega (arith, few d l at, below))) in
        let end = c.ends d l at in
        let so_many : r.lost ≡ lost_on d = omega (arith, r.counted) in
        record {
          kept = r.kept;
          are_kept =
              subst (λ n. KeptOf form e (passed_from d c.kept.passed) r.kept n) so_many
              (kept_before e form (passed_from d c.kept.passed) end.0 r.kept r.lost end.1.bare (subst (λ bs. KeptOf form e bs r.kept r.lost) end.2 r.are_kept));
          told = told d;
          tells = r.tells;
          no_more = omega (arith, r.no_more, r.counted, c.missed d l at, so_many);
        }

    counted : all_counted left + 1 < 2 ^ 64 → (d : ℕ) (l : Left) → slice_get left d ≡ Some l → missed d ≡ drops_carried (passed_from d c.all) + lost_on d
    counted below d l at =
        let r = reads d l at (inr (omega (arith, few d l at, one_within left d l at, below))) in
        omega (arith, r.counted)

    in_folder : IsInFolder gets does e form start (KeptOf form e) (λ u. Reads form u e) ps path name k old left new uuid lost written
    in_folder = record {
      kept = c.kept;
      names = names;
      named = named;
      writes = writes;
      asked = sym puts ∙ f.asked;
      at = f.at ∙ made_there path;
      made = (first origin form e names ∷ f.later, refl);
      origin = origin;
      whose = whose;
      text = f.text;
      metadata = λ countable.
          metadata_read metadata form origin e names (made_at path ∷ []) (λ d. passed_from d c.all) (losing ended) (writing ended) told missed f
          (all_numbers origin form e ps names numbers rate named countable);
      only = λ other there apart none. others writes f.asked other there apart none;
      whole = whole;
      lost_on = lost_on;
      part = part;
      told = λ below. ap lost_records (sym loses)
          ∙ lost_answered e sees missing losing counts begun ended zero unlost c.all c.got left (most left (c.low fine)) c.from c.own few lost_on (counted below) below;
    }

    pub into : Into left uuid lost written
    unfolding in_folder
    into = (in_folder, (c.one_list, c.alike.0, c.alike.1))

  -- what comes of a folder that was begun so and ran so
  abbrev pub EndsSo : (List ℕ → T → Type 0) → (Ran T → FolderTrace → Type 0) → Type 0
  EndsSo begins ends = (b : Begun T) (r : Ran T) (t : FolderTrace) → begins b.at_end.uuid b.sink.sink → Carries gets sees does e k old r.closed new b.sink.sink r.sink → ends r t
      → start_fault k ≡ None → (t.closed ≡ r.closed) × (t.uuid ≡ r.uuid)
      × Into r.closed b.at_end.uuid t.lost (written_in t.folder)

  -- so it is of one that was begun and ran, whatever was answered
  pub read_if : (begins : List ℕ → T → Type 0) (ends : Ran T → FolderTrace → Type 0) → EndsSo begins ends → (begun : Result (Begun T) ToFolderFault) (ran : Result (Ran T) ToFolderFault)
      (answer : Result FolderTrace ToFolderFault) → IfOk ran (λ _. start_fault k ≡ None) → IfOk begun (λ b. begins b.at_end.uuid b.sink.sink)
      → IfOk ran (λ r. RanBegun sees gets does e k old begun r new) → IfOk answer (λ t. IfOk ran (λ r. ends r t)) → IfOk answer (λ _. IsOk ran)
      → IfOk answer (λ t. Into t.closed t.uuid t.lost (written_in t.folder))
  read_if begins ends each begun ran (Err fault) fine is has so well = record {}
  read_if begins ends each begun (Err fault) (Ok t) fine is has so well = absurd (cc (well))
  read_if begins ends each (Err fault) (Ok r) (Ok t) fine is (b, rest) so well = let same = rest.0 in absurd (cc (same))
  read_if begins ends each (Ok c) (Ok r) (Ok t) fine is (b, rest) so well =
      let same = rest.0 in
      let one : c ≡ b = cc (same) in
      let begun = subst (λ (x : Begun T). begins x.at_end.uuid x.sink.sink) one is in
      let all = each b r t begun (in_both sees gets does e k old new b.sink r.closed r.sink rest.2) so fine in
      subst (λ l. Into l t.uuid t.lost (written_in t.folder)) (sym all.0)
      (subst (λ u. Into r.closed u t.lost (written_in t.folder)) (sym (all.1 ∙ rest.1)) all.2)

module _ (metadata : MetadataReads) {K : Type 0} (gets : K → Batch → K → Type 0) (does : ℕ → CallsMade → CallsMade → Type 0) (e : EnabledRows)
    (ps : List ProbeNames) (path name : List ℕ) (k : Config) (old new : K) where
  -- as the batches were taken
  pub taken_if : FilesRead → (begun : Result (Begun Tracing) ToFolderFault) (ran : Result (Ran Tracing) ToFolderFault) (answer : Result FolderTrace ToFolderFault)
      → IfOk ran (λ _. start_fault k ≡ None) → IfOk begun (λ b. IsBegunTrace e ps path name b.at_end.uuid b.sink.sink) → IfOk ran (λ r. RanBegun (GetsPacket e) gets does e k old begun r new)
      → IfOk answer (λ t. IfOk ran (λ r. IsOfTrace r t)) → IfOk answer (λ _. IsOk ran)
      → IfOk answer (λ t. Into metadata AsTaken None gets (GetsPacket e) does e ps path name k old new t.closed t.uuid t.lost (written_in t.folder))
  taken_if files = read_if metadata AsTaken None gets (GetsPacket e) does e ps path name k old new (IsBegunTrace e ps path name) IsOfTrace (λ b r t is c so fine.
      let begins : BegunNew is.origin e is.names b.sink.sink = record { before = made_at path ∷ []; new = made_new path; begins = is.is } in (
        so.closed,
        so.uuid,
        into metadata AsTaken None gets (GetsPacket e) does e ps path name k old new (λ (s : Tracing). s.missed) (λ (s : Tracing). s.told) (λ (s : Tracing). s.lost) (λ (s : Tracing). s.written)
            (counts e) r.closed b.sink.sink r.sink c fine is.is.missed is.is.lost so.counts b.at_end.uuid is.origin is.names is.named is.whose is.numbers (omega arith)
            (filled files is.origin e is.names b.sink.sink r.sink begins c.all c.got is.long c.own) t.lost (written_in t.folder) so.loses so.puts
            (λ ws asked other there apart none. none_elsewhere files is.origin e is.names b.sink.sink r.sink begins c.all c.got (length r.closed) c.own c.from ws asked other there apart none),
      ))

  -- by time
  pub timed_if : FilesLaws → (hertz : ℕ) (start : Option ClockStart) (begun : Result (Begun TimedTracing) ToFolderFault) (ran : Result (Ran TimedTracing) ToFolderFault)
      (answer : Result FolderTrace ToFolderFault) → IfOk ran (λ _. start_fault k ≡ None)
      → IfOk begun (λ b. IsBegunByTime e ps path name hertz start b.at_end.uuid b.sink.sink) → IfOk ran (λ r. RanBegun (GetsRuns e) gets does e k old begun r new)
      → IfOk answer (λ t. IfOk ran (λ r. IsOfTimedTrace r t)) → IfOk answer (λ _. IsOk ran)
      → IfOk answer (λ t. Into metadata (ByTime hertz) start gets (GetsRuns e) does e ps path name k old new t.closed t.uuid t.lost (written_in t.folder))
  timed_if laws hertz start = read_if metadata (ByTime hertz) start gets (GetsRuns e) does e ps path name k old new (IsBegunByTime e ps path name hertz start) IsOfTimedTrace (λ b r t is c so fine.
      let begins : TimedBegunNew is.origin hertz e is.names b.sink.sink = record { before = made_at path ∷ []; new = made_new path; begins = is.is } in (
        so.closed,
        so.uuid,
        into metadata (ByTime hertz) start gets (GetsRuns e) does e ps path name k old new (λ (s : TimedTracing). s.missed) (λ (s : TimedTracing). s.told) (λ (s : TimedTracing). s.lost)
            (λ (s : TimedTracing). s.written) (timed_counts e) r.closed b.sink.sink r.sink c fine is.is.missed is.is.lost so.counts b.at_end.uuid is.origin is.names is.named is.whose is.numbers
            is.frequency (timed_filled laws is.origin hertz e is.names b.sink.sink r.sink begins c.all c.got is.long c.own) t.lost (written_in t.folder) so.loses so.puts
            (λ ws asked other there apart none. timed_elsewhere laws is.origin hertz e is.names b.sink.sink r.sink begins c.all c.got (length r.closed) c.own c.from ws asked other there apart
            (λ d file low same. none d low (file, same))),
      ))

-- of what comes of a call the first part
pub first_if : {A E : Type 0} (P : A → Type 0) (Q : (a : A) → P a → Type 0) (answer : Result A E) → IfOk answer (λ a. (x : P a) × Q a x) → IfOk answer P
first_if P Q (Ok a) both = both.0
first_if P Q (Err e) both = record {}
