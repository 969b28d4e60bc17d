-- What proofs of folders have in common.
use Rattle.std.proofs.Common.{◌++◌, ◌≡◌, ◌<◌, arith, ℕ, List, [], ◌∷◌, Option, Some, None, refl, ap, sym, ◌∙◌, append_assoc}
use Rattle.std.proofs.lemmas.List.{append-nil, Elements.All-head, Elements.All-tail}
use Rattle.dspec_trace_reading.specs.Words.{FilledFilesReadBack, HasNumbers, MetadataTells, last_missed, origin_fault, Record, EnabledRows, enabled, table_shape, table_accepts, table_text, IsText}
use Rattle.dspec_trace_reading.specs.Words.{FileWrite, file_of, AreFrom, HaveNumbers, Passed, GotAll, HoldRecords, Form, Names, Origin, Batch}
use Rattle.dspec_buffer.proofs.OneReading.{one_reading}
use Rattle.dspec_ctf_sink.proofs.Silent.{laws}

-- what the last packet tells, and this number where there is none
abbrev pub last_from : ℕ → List (ℕ × List Record) → ℕ
last_from n [] = n
last_from n (p ∷ ps) = last_from p.0 ps

last_of : (p : ℕ × List Record) (ps : List (ℕ × List Record)) → last_missed (p ∷ ps) ≡ last_from p.0 ps
last_of p [] = refl
last_of p (q ∷ ps) = last_of q ps

pub last_same : (ps : List (ℕ × List Record)) → last_missed ps ≡ last_from 0 ps
last_same [] = refl
last_same (p ∷ ps) = last_of p ps

module _ (e : EnabledRows) where
  abbrev pub Holds : List Batch → List Record → Type 0
  Holds bs rs = HoldRecords (table_shape e.header (enabled e.rows)) (table_accepts e.header (enabled e.rows)) (table_text e.header (enabled e.rows)) bs rs

  -- a text is of one list of records alone
  pub one_text : (b : Batch) (rs read : List Record) → IsText e b.buffer.text rs → IsText e b.buffer.text read → read ≡ rs
  one_text b rs read has is =
      one_reading (table_shape e.header (enabled e.rows)) (table_accepts e.header (enabled e.rows)) (table_text e.header (enabled e.rows)) (laws e) 0 b.buffer.text read rs is has

-- the place took writes after those of before, which left the file of this name as it was
abbrev pub Stays : List ℕ → Option (List FileWrite) → List FileWrite → Type 0
Stays name written was = (added : List FileWrite) × ((written ≡ Some (was ++ added)) × (file_of name (was ++ added) ≡ file_of name was))

-- so it is of all batches that a trace of either form got, where it is of each
module _ {T : Type 0} (gets : T → Batch → T → Type 0) (writing : T → Option (List FileWrite)) (name : List ℕ)
    (one : (old : T) (b : Batch) (new : T) → gets old b new → (was : List FileWrite) → writing old ≡ Some was → Stays name (writing new) was) where
  pub stays : (bs : List Passed) (old new : T) (was : List FileWrite) → GotAll gets old bs new → writing old ≡ Some was → Stays name (writing new) was
  stays [] old new was got asked = ([], (ap writing (sym got) ∙ asked ∙ ap Some (sym (append-nil was)), ap (λ ws. file_of name ws) (append-nil was)))
  stays (x ∷ xs) old new was (mid, gets, rest) asked =
      let first = one old x.batch mid gets was asked in
      let all = stays xs mid new (was ++ first.0) rest first.1.0 in
      let both = append_assoc was first.0 all.0 in
      (first.0 ++ all.0, (all.1.0 ∙ ap Some both, ap (λ ws. file_of name ws) (sym both) ∙ all.1.1 ∙ first.1.1))

-- so it is of all batches of so many CPUs, where it is of each of these
module _ {T : Type 0} (gets : T → Batch → T → Type 0) (writing : T → Option (List FileWrite)) (name : List ℕ) (count : ℕ)
    (one : (old : T) (b : Batch) (new : T) → b.cpu < count → gets old b new → (was : List FileWrite) → writing old ≡ Some was → Stays name (writing new) was) where
  pub stays_of : (bs : List Passed) (old new : T) (was : List FileWrite) → HaveNumbers bs → AreFrom count bs → GotAll gets old bs new → writing old ≡ Some was → Stays name (writing new) was
  stays_of [] old new was own from got asked = ([], (ap writing (sym got) ∙ asked ∙ ap Some (sym (append-nil was)), ap (λ ws. file_of name ws) (append-nil was)))
  stays_of (x ∷ xs) old new was (own, owns) from (mid, gets, rest) asked =
      let low : x.batch.cpu < count = omega (arith, own, All-head (λ (y : Passed). y.from < count) x xs from) in
      let first = one old x.batch mid low gets was asked in
      let all = stays_of xs mid new (was ++ first.0) owns (All-tail (λ (y : Passed). y.from < count) x xs from) rest first.1.0 in
      let both = append_assoc was first.0 all.0 in
      (first.0 ++ all.0, (all.1.0 ∙ ap Some both, ap (λ ws. file_of name ws) (sym both) ∙ all.1.1 ∙ first.1.1))

-- that metadata is read as its layout, and a file of packets as their events
abbrev pub MetadataReads : Type 0
MetadataReads = (origin : Origin) (form : Form) (e : EnabledRows) (names : Names) → origin_fault origin form e names ≡ None → HasNumbers origin form e names
    → MetadataTells origin form e names

abbrev pub FilesRead : Type 0
FilesRead = (e : EnabledRows) (names : Names) → FilledFilesReadBack e names
