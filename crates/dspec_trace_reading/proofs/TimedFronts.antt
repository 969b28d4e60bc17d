-- What one batch brings to a CPU's files by time, where some may be lost: its first records are kept.
use Rattle.std.proofs.Common.{◌≡◌, ◌<◌, ◌≤◌, ◌+◌, ◌-◌, ◌^◌, ◌++◌, inl, inr, ℕ, List, [], None, refl, sym, ap, subst, ◌∙◌, arith, length, drop, take, get_or, slice_index}
use Rattle.std.proofs.lemmas.List.{append-nil, length-drop, take-append-drop}
use Rattle.std.specs.Prelude.{slice_range}
use Rattle.dspec_trace_reading.specs.Words.{Record, EnabledRows, IsText, AddsBatch, HasNoCpu, HasSoManyRecords, LosesBatch, LosesOfFiles, LosesRest, TimedTracing, missed_by_time, told_by_time}
use Rattle.dspec_trace_reading.specs.Words.{Batch, Names}
use Rattle.dspec_record.specs.declared.header.Header.TheVariants as header
use Rattle.dspec_trace_reading.proofs.{Asking.some_lost, Filing.Filed, Losing.exactly, TimedAsking.lasts_of, TimedAsking.missed_before, TimedAsking.missed_here, TimedAsking.missed_then}
use Rattle.dspec_trace_reading.proofs.{TimedAsking.told_here, TimedAsking.told_now, TimedAsking.told_then, TimedFiles.HasFiled, TimedFiles.all_added, TimedFiles.filed_now, TimedFiles.filed_then}
use Rattle.dspec_trace_reading.proofs.{TimedFiles.front_added, TimedFiles.none_added, TimedLosing.CameByTime, TimedLosing.IsExactByTime, TimedLosing.exact, TimedLosing.small_then}
use Rattle.dspec_filing_reading.proofs.FilesLaws.{FilesLaws}

-- what is known of a CPU after some batches, of whose records these are kept so far
pub record StandsInPart (uuid : List ℕ) (e : EnabledRows) (names : Names) (hertz c : ℕ) (t : TimedTracing) (stream : List Record) : Type 0 where
  pub told : slice_index t.told c ≤ missed_by_time t c
  pub filed : HasFiled uuid e names hertz c t stream

-- a batch of the CPU: its first records are kept, and the others are counted, as its drops are
pub record KeepsFront (uuid : List ℕ) (e : EnabledRows) (names : Names) (hertz c : ℕ) (old : TimedTracing) (b : Batch) (new : TimedTracing) (stream : List Record) : Type 0 where
  pub front : List Record
  pub back : List Record
  pub text : IsText e b.buffer.text (front ++ back)
  pub counted : missed_by_time new c ≡ missed_by_time old c + b.drops + length back
  pub stands : StandsInPart uuid e names hertz c new (stream ++ front)
  pub whole : new.lost ≡ None → (length back ≡ 0) × (told_by_time new c ≡ missed_by_time new c)

-- A batch of these records, whose text has no others: where 64 bits are enough, those that are lost are counted.
module _ (laws : FilesLaws) (e : EnabledRows) (names : Names) (hertz : ℕ) (stamped : e.header ≡ header.Two) (b : Batch) (old new : TimedTracing) (long : length old.uuid ≡ 16)
    (low : b.cpu < 64) (wide : length old.missed ≡ 64) (fits : missed_by_time new b.cpu < 2 ^ 64) (is : IsExactByTime b.cpu new) (rs : List Record) (is_text : IsText e b.buffer.text rs)
    (unique : (qs : List Record) → IsText e b.buffer.text qs → qs ≡ rs) (stream : List Record) (s : StandsInPart old.uuid e names hertz b.cpu old stream) where
  abbrev Keeps : Type 0
  Keeps = KeepsFront old.uuid e names hertz b.cpu old b new stream

  -- all of it is written
  keeps_all : AddsBatch e old b new → Keeps
  keeps_all adds =
      let now = missed_here e old new b adds in
      let before = missed_before e old new b adds in
      let told = told_then old new b adds.before adds.files adds.after adds.has adds.changes in
      let first = filed_then old.uuid e names hertz old new b adds.before adds.files adds.after adds.has adds.changes stream s.filed in
      record {
        front = adds.added.read;
        back = [];
        text = subst (λ qs. IsText e b.buffer.text qs) (sym (append-nil adds.added.read)) adds.added.is_text;
        counted = omega (arith, now, before);
        stands = record {
          told = omega (arith, told_here e old new b adds, now);
          filed = filed_now old.uuid e names hertz old new b adds.before adds.files adds.after adds.has adds.changes (stream ++ adds.added.read)
              (all_added laws e names hertz stamped old.uuid long adds.before b low adds.files adds.after stream (omega (arith, told, s.told, before)) (omega (arith, fits, now)) first adds.added);
        };
        whole = λ none. (refl, told_here e old new b adds ∙ sym now);
      }

  -- where something of it is lost
  some_of : (loses : LosesBatch e old b new) → new.lost ≡ None → (rs : List Record) → (length rs ≡ 0) × (told_by_time new b.cpu ≡ missed_by_time new b.cpu)
  some_of loses none qs = absurd (some_lost old.lost loses.loss (sym loses.lost ∙ none))

  small : (loses : LosesBatch e old b new) → missed_by_time new b.cpu + 1 < 2 ^ 64
  small loses = small_then e old new b b.cpu loses is

  -- nothing of it is written
  keeps_none : (loses : LosesBatch e old b new) → HasSoManyRecords e b loses.loss.records → slice_index new.told b.cpu ≡ slice_index old.told b.cpu
      → HasFiled old.uuid e names hertz b.cpu new stream → Keeps
  keeps_none loses has told filed =
      let sum = exact e old new b low wide (small loses) loses in
      let many = exactly e b rs is_text unique loses.loss.records (omega (arith, sum, small loses)) has in
      record {
        front = [];
        back = rs;
        text = is_text;
        counted = omega (arith, sum, many);
        stands = record {
          told = omega (arith, told, s.told, sum);
          filed = subst (λ qs. HasFiled old.uuid e names hertz b.cpu new qs) (sym (append-nil stream)) filed;
        };
        whole = λ none. some_of loses none rs;
      }

  -- its first records are written
  keeps_front : (loses : LosesBatch e old b new) (l : LosesOfFiles e old b new loses.loss) → LosesRest old.uuid e l.before b l.files l.after loses.loss → Keeps
  keeps_front loses l r =
      let sum = exact e old new b low wide (small loses) loses in
      let before = missed_then old new b l.before l.files l.after l.has l.changes in
      let told = told_then old new b l.before l.files l.after l.has l.changes in
      let now = told_now old new b l.before l.files l.after l.has l.changes in
      let to : ℕ = r.stops.to in
      let from_start : to - 0 ≡ to = omega arith in
      let both : slice_range r.read 0 to ++ drop to r.read ≡ r.read = ap (λ n. take n r.read ++ drop to r.read) from_start ∙ take-append-drop to r.read in
      let first = filed_then old.uuid e names hertz old new b l.before l.files l.after l.has l.changes stream s.filed in
      record {
        front = slice_range r.read 0 to;
        back = drop to r.read;
        text = subst (λ qs. IsText e b.buffer.text qs) (sym both) r.is_text;
        counted = omega (arith, sum, r.stops.stops.rest, length-drop to r.read);
        stands = record {
          told = omega (arith, now, r.told, before, sum);
          filed = filed_now old.uuid e names hertz old new b l.before l.files l.after l.has l.changes (stream ++ slice_range r.read 0 to)
              (front_added laws e names hertz stamped old.uuid long l.before b low l.files l.after stream loses.loss (omega (arith, told, s.told, before)) (omega (arith, small loses, sum, before))
              first r);
        };
        whole = λ none. some_of loses none (drop to r.read);
      }

  -- some of its CPU's files
  keeps_some : (loses : LosesBatch e old b new) → LosesOfFiles e old b new loses.loss → Keeps
  keeps_some loses l =
      let now = told_now old new b l.before l.files l.after l.has l.changes in
      let then = told_then old new b l.before l.files l.after l.has l.changes in
      let first = filed_then old.uuid e names hertz old new b l.before l.files l.after l.has l.changes stream s.filed in
      elim l.loses [
        | inl n ↦ keeps_none loses n.has (now ∙ ap (λ f. f.told) n.same ∙ then)
            (filed_now old.uuid e names hertz old new b l.before l.files l.after l.has l.changes stream
            (subst (λ f. Filed old.uuid e names hertz b.cpu f.written f.lasts f.told stream) (sym n.same) first))
        | inr (inl a) ↦ keeps_none loses a.has (now ∙ a.told ∙ then)
            (filed_now old.uuid e names hertz old new b l.before l.files l.after l.has l.changes stream
            (none_added laws e names hertz stamped old.uuid long l.before b low l.files l.after stream loses.loss first a))
        | inr (inr r) ↦ keeps_front loses l r
      ]

  no_cpu : (loses : LosesBatch e old b new) → HasNoCpu e old b new loses.loss → Keeps
  no_cpu loses n = keeps_none loses n.has (ap (λ (xs : List ℕ). slice_index xs b.cpu) n.told)
      (subst (λ o. Filed old.uuid e names hertz b.cpu o (lasts_of new b.cpu) (slice_index new.told b.cpu) stream) (sym n.written)
      (subst (λ (xs : List (List ℕ)). Filed old.uuid e names hertz b.cpu old.written (get_or xs b.cpu []) (slice_index new.told b.cpu) stream) (sym n.lasts)
      (subst (λ (xs : List ℕ). Filed old.uuid e names hertz b.cpu old.written (lasts_of old b.cpu) (slice_index xs b.cpu) stream) (sym n.told) s.filed)))

  pub keeps : CameByTime e old b new → Keeps
  keeps (inl adds) = keeps_all adds
  keeps (inr loses) = elim loses.why [
    | inl n ↦ no_cpu loses n
    | inr l ↦ keeps_some loses l
  ]
