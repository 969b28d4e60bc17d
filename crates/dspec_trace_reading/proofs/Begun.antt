-- A folder of either form in which the metadata was written, and no packet yet.
use Rattle.std.proofs.Common.{◌≡◌, ◌≢◌, ◌∙◌, ℕ, zero, suc, Option, get_or, List, [], ◌∷◌, ◌++◌, Some, None, refl, sym, ap, codes, replicate, slice_index}
use Rattle.dspec_trace_reading.specs.Words.{EnabledRows, origin_text, FileWrite, file_of, path_of, LeaveNone, Takes, Form, Names, Origin}
use Rattle.dspec_ctf_sink.proofs.Written.{brought_elsewhere, brought_whole}
use Rattle.dspec_trace_reading.proofs.{Asking.took, Naming.metadata_named, Placing.alone, Placing.path_stays}

pub same_at : {A : Type 0} (n i : ℕ) (d : A) → get_or (replicate n d) i d ≡ d
same_at zero i d = refl
same_at (suc n) zero d = refl
same_at (suc n) (suc i) d = same_at n i d

-- of no CPU anything is counted
pub none_yet : (counts : List ℕ) → counts ≡ replicate 64 0 → (c : ℕ) → slice_index counts c ≡ 0
none_yet counts is c = ap (λ (xs : List ℕ). slice_index xs c) is ∙ same_at 64 c 0

-- the write of the metadata, after those of before
abbrev pub first : Origin → Form → EnabledRows → Names → FileWrite
first origin form e names = record { name = codes "metadata"; bytes = origin_text origin form e names; refused = None }

abbrev pub begun_with : Origin → Form → EnabledRows → Names → List FileWrite → List FileWrite
begun_with origin form e names before = before ++ first origin form e names ∷ []

module _ (origin : Origin) (form : Form) (e : EnabledRows) (names : Names) (before : List FileWrite) (new : LeaveNone before) where
  pub asked : (written : Option (List FileWrite)) → Takes (Some before) (codes "metadata") (origin_text origin form e names) written → written ≡ Some (begun_with origin form e names before)
  asked written takes = took (Some before) written before (codes "metadata") (origin_text origin form e names) refl takes

  pub metadata_is : file_of (codes "metadata") (begun_with origin form e names before) ≡ origin_text origin form e names
  metadata_is =
      alone before (first origin form e names) (codes "metadata") new metadata_named ∙ brought_whole (codes "metadata") (codes "metadata") (origin_text origin form e names) refl

  pub nothing_yet : (name : List ℕ) → name ≢ [] → name ≢ codes "metadata" → file_of name (begun_with origin form e names before) ≡ []
  nothing_yet name named other = alone before (first origin form e names) name new named ∙ brought_elsewhere name (first origin form e names) (λ s. other (sym s))

  pub path_is : path_of (begun_with origin form e names before) ≡ path_of before
  path_is = path_stays before (first origin form e names) metadata_named
