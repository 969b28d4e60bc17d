-- A folder of either form, after its metadata: what is known of it, and what is read of it.
use Rattle.std.proofs.Common.{◌++◌, ◌≡◌, ◌<◌, ◌+◌, ◌^◌, ◌⊎◌, inl, inr, ℕ, List, [], Option, Some, None, sym, ap, ◌∙◌, arith, codes, slice_get}
use Rattle.dspec_trace_reading.specs.Words.{FileWrite, Record, EnabledRows, origin_fault, origin_text, layout_of, read_metadata, HasNumbers, file_of, drops_carried, path_of, ReadsAllKept, ReadsBack}
use Rattle.dspec_trace_reading.specs.Words.{ReadsKept, Batch, Left, Loss, Form, Names, Origin}
use Rattle.dspec_trace_reading.proofs.{Begun.begun_with, Folding.Holds, Folding.MetadataReads, Folding.Stays, Kept.whole_read}

-- the folder is where it was
pub path_kept : (was : List FileWrite) (written : Option (List FileWrite)) (metadata : Stays (codes "metadata") written was) → Stays [] written was → path_of (was ++ metadata.0) ≡ path_of was
path_kept was written metadata path =
    let both : Some (was ++ metadata.0) ≡ Some (was ++ path.0) = sym metadata.1.0 ∙ path.1.0 in
    let same : was ++ metadata.0 ≡ was ++ path.0 = cc (both) in
    ap path_of same ∙ path.1.1

-- After what the folder was made with (`before`) and the metadata there are other writes, which leave its path and the metadata as they were. What is kept of
-- each CPU's batches is read, where nothing was lost or 64 bits are enough; and where nothing was lost, all drops that they carried are told.
pub record IsFilled (form : Form) (origin : Origin) (e : EnabledRows) (names : Names) (before : List FileWrite) (batches : ℕ → List Batch) (lost : Option Loss)
    (written : Option (List FileWrite)) (told missed : ℕ → ℕ) : Type 0 where
  pub later : List FileWrite
  pub asked : written ≡ Some (begun_with origin form e names before ++ later)
  pub at : path_of (begun_with origin form e names before ++ later) ≡ path_of before
  pub text : file_of (codes "metadata") (begun_with origin form e names before ++ later) ≡ origin_text origin form e names
  pub allowed : origin_fault origin form e names ≡ None
  pub kept : (c : ℕ) → c < 64 → (rs : List Record) → missed c < 2 ^ 64 → (lost ≡ None) ⊎ (missed c + 1 < 2 ^ 64) → Holds e (batches c) rs
      → ReadsKept form origin.uuid e names c (batches c) (begun_with origin form e names before ++ later) (told c) (missed c)
  pub whole : (c : ℕ) → c < 64 → (rs : List Record) → missed c < 2 ^ 64 → lost ≡ None → Holds e (batches c) rs → (missed c ≡ drops_carried (batches c)) × (told c ≡ missed c)

module _ (metadata_law : MetadataReads) (form : Form) (origin : Origin) (e : EnabledRows) (names : Names) (before : List FileWrite) (batches : ℕ → List Batch) (lost : Option Loss)
    (written : Option (List FileWrite)) (told missed : ℕ → ℕ) (f : IsFilled form origin e names before batches lost written told missed) where
  abbrev writes : List FileWrite
  writes = begun_with origin form e names before ++ f.later

  pub metadata_read : HasNumbers origin form e names → read_metadata (file_of (codes "metadata") writes) ≡ Some (layout_of e names form)
  metadata_read numbers = ap read_metadata f.text ∙ metadata_law origin form e names f.allowed numbers

  module _ (left : List Left) (seen : (c : ℕ) (l : Left) → slice_get left c ≡ Some l → List Record) (numbers : HasNumbers origin form e names)
      (holds : (c : ℕ) (l : Left) (there : slice_get left c ≡ Some l) → Holds e (batches c) (seen c l there)) where
    pub reads_kept : ((c : ℕ) → missed c + 1 < 2 ^ 64) → ReadsAllKept form origin.uuid e names left batches written told missed
    reads_kept small = record {
      writes = writes;
      asked = f.asked;
      metadata = metadata_read numbers;
      streams = λ c l low there. f.kept c low (seen c l there) (omega (arith, small c)) (inr (small c)) (holds c l there);
    }

    pub reads_back : lost ≡ None → ((c : ℕ) → missed c < 2 ^ 64) → ReadsBack form origin.uuid e names left seen batches written
    reads_back none small = record {
      writes = writes;
      asked = f.asked;
      metadata = metadata_read numbers;
      streams = λ c l low there.
          let rs = seen c l there in
          whole_read e form origin.uuid names c (batches c) writes (told c) (missed c) rs (f.kept c low rs (small c) (inl none) (holds c l there)) (holds c l there)
          (f.whole c low rs (small c) none (holds c l there));
    }
