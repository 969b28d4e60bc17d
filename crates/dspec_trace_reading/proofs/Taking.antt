-- What packets of one CPU by time bring to files, which a place took one after another.
use Rattle.std.proofs.Common.{◌≡◌, ◌≢◌, ◌<◌, ◌==◌, ◌++◌, ◌⊎◌, inl, inr, ℕ, Bool, true, false, cond, List, [], ◌∷◌, Option, Some, None, refl, ap, sym, ◌∙◌, append_assoc, map, All}
use Rattle.std.proofs.lemmas.{Bool.eqb-true, Bool.eqb-false, Grind.flat_map-append, List.append-nil, List.Elements.All-head, List.Elements.All-tail}
use Rattle.std.specs.{List.flat_map, Prelude.filter}
use Rattle.dspec_trace_reading.specs.Words.{missed_packets, file_bytes, TakesAll, TellsMissed, row_name, FileWrite, brought_to, file_of}
use Rattle.dspec_ctf_sink.proofs.Written.{brought_elsewhere, brought_whole}
use Rattle.dspec_trace_reading.proofs.{Asking.took, RowNaming.files_differ}

-- the write of a packet, and of some
abbrev pub row_write : ℕ → ℕ × List ℕ → FileWrite
row_write cpu p = record { name = row_name cpu p.0; bytes = p.1; refused = None }

abbrev pub row_writes : ℕ → List (ℕ × List ℕ) → List FileWrite
row_writes cpu ps = map (row_write cpu) ps

-- a place that took them was asked for these writes
pub took_all : (cpu : ℕ) (ps : List (ℕ × List ℕ)) (old new : Option (List FileWrite)) (was : List FileWrite) → old ≡ Some was → TakesAll cpu old ps new
    → new ≡ Some (was ++ row_writes cpu ps)
took_all cpu [] old new was asked same = same ∙ asked ∙ ap Some (sym (append-nil was))
took_all cpu (p ∷ ps) old new was asked (mid, (takes, rest)) =
    took_all cpu ps mid new (was ++ row_write cpu p ∷ []) (took old mid was (row_name cpu p.0) p.1 asked takes) rest
    ∙ ap Some (append_assoc was (row_write cpu p ∷ []) (row_writes cpu ps))

-- what tells what was missed is no packet or two in one write, where there is more than was told
pub record Telling (uuid : List ℕ) (told missed cpu : ℕ) (lasts : List ℕ) (old new : Option (List FileWrite)) : Type 0 where
  pub packets : List (ℕ × List ℕ)
  pub takes : TakesAll cpu old packets new
  pub are : ((missed ≡ told) × (packets ≡ [])) ⊎ ((missed ≢ told) × (packets ≡ (0, missed_packets uuid told missed cpu lasts) ∷ []))

pub telling : (uuid : List ℕ) (told missed cpu : ℕ) (lasts : List ℕ) (old new : Option (List FileWrite)) → TellsMissed uuid told missed cpu lasts old new
    → Telling uuid told missed cpu lasts old new
telling uuid told missed cpu lasts old new (inl nothing) = record { packets = []; takes = nothing.1; are = inl (nothing.0, refl) }
telling uuid told missed cpu lasts old new (inr more) = record {
  packets = (0, missed_packets uuid told missed cpu lasts) ∷ [];
  takes = (new, (more.1, refl));
  are = inr (more.0, refl);
}

-- a file of another name stays as it was
none_here : (cpu : ℕ) (name : List ℕ) → ((file : ℕ) → row_name cpu file ≢ name) → (ps : List (ℕ × List ℕ)) → file_of name (row_writes cpu ps) ≡ []
none_here cpu name apart [] = refl
none_here cpu name apart (p ∷ ps) =
    ap (λ xs. xs ++ file_of name (row_writes cpu ps)) (brought_elsewhere name (row_write cpu p) (apart p.0)) ∙ none_here cpu name apart ps

pub stays_elsewhere : (cpu : ℕ) (name : List ℕ) → ((file : ℕ) → row_name cpu file ≢ name) → (was : List FileWrite) (ps : List (ℕ × List ℕ))
    → file_of name (was ++ row_writes cpu ps) ≡ file_of name was
stays_elsewhere cpu name apart was ps =
    flat_map-append (brought_to name) was (row_writes cpu ps) ∙ ap (λ xs. file_of name was ++ xs) (none_here cpu name apart ps) ∙ append-nil (file_of name was)

-- a file of the CPU has those with its number after what it had

all_here : (cpu file : ℕ) → cpu < 64 → file < 64 → (ps : List (ℕ × List ℕ)) → All (λ (p : ℕ × List ℕ). p.0 < 64) ps
    → file_of (row_name cpu file) (row_writes cpu ps) ≡ file_bytes file ps
all_here cpu file low few [] all = refl
all_here cpu file low few (p ∷ ps) all = go (p.0 == file) refl (all_here cpu file low few ps (All-tail (λ (x : ℕ × List ℕ). x.0 < 64) p ps all)) where
  go : (b : Bool) → (p.0 == file) ≡ b → file_of (row_name cpu file) (row_writes cpu ps) ≡ file_bytes file ps
      → brought_to (row_name cpu file) (row_write cpu p) ++ file_of (row_name cpu file) (row_writes cpu ps) ≡ file_bytes file (p ∷ ps)
  go true is rest =
      ap (λ xs. xs ++ file_of (row_name cpu file) (row_writes cpu ps)) (brought_whole (row_name cpu p.0) (row_name cpu file) p.1 (ap (λ n. row_name cpu n) (eqb-true p.0 file is)))
      ∙ ap (λ xs. p.1 ++ xs) rest
      ∙ ap (λ b. flat_map (λ (x : ℕ × List ℕ). x.1) (cond b (p ∷ filter (λ (x : ℕ × List ℕ). x.0 == file) ps) (filter (λ (x : ℕ × List ℕ). x.0 == file) ps))) (sym is)
  go false is rest =
      ap (λ xs. xs ++ file_of (row_name cpu file) (row_writes cpu ps))
      (brought_elsewhere (row_name cpu file) (row_write cpu p)
      (files_differ cpu p.0 file low (All-head (λ (x : ℕ × List ℕ). x.0 < 64) p ps all) few (λ s. eqb-false p.0 file is s)))
      ∙ rest
      ∙ ap (λ b. flat_map (λ (x : ℕ × List ℕ). x.1) (cond b (p ∷ filter (λ (x : ℕ × List ℕ). x.0 == file) ps) (filter (λ (x : ℕ × List ℕ). x.0 == file) ps))) (sym is)

pub grows_here : (cpu file : ℕ) → cpu < 64 → file < 64 → (was : List FileWrite) (ps : List (ℕ × List ℕ)) → All (λ (p : ℕ × List ℕ). p.0 < 64) ps
    → file_of (row_name cpu file) (was ++ row_writes cpu ps) ≡ file_of (row_name cpu file) was ++ file_bytes file ps
grows_here cpu file low few was ps all =
    flat_map-append (brought_to (row_name cpu file)) was (row_writes cpu ps) ∙ ap (λ xs. file_of (row_name cpu file) was ++ xs) (all_here cpu file low few ps all)
