-- What a folder's files have, and what it was asked for, where a write is added.
use Rattle.std.proofs.Common.{arith, ◌≡◌, ◌≢◌, ℕ, List, [], ◌∷◌, ◌++◌, ap, sym, subst, ◌∙◌, set, get_or, slice_get, All, Some, None, Ok, Err, Option, Result, true, false, OnOk, IfErr}
use Rattle.std.proofs.Math.Logic.{∥∥₁_elim, ∥∥₁_prop}
use Rattle.std.proofs.lemmas.{Bool.Decides.nat_tests, Option.get_or_from_slice_get}
use Rattle.std.specs.{Io.KnownBytes.Appends, Result.result_err}
use Rattle.dspec_ctf_sink.specs.{Words.FileWrite, Words.FilesHave, Words.HaveBesides, Words.Held, Words.IsFileAt, Words.LeavesFile, declared.fault.FolderFault.FolderFault}
use Rattle.dspec_ctf_sink.proofs.Written.{asks_in_vain, has_left, has_more, none_among, one_file_has, one_file_more}

-- a file was made and pushed
pub made : (files mid new : List Held) (file : Held) (known : Option (List ℕ)) (called name : List ℕ) → mid ≡ files → new ≡ mid ++ file ∷ []
    → file ≡ record { name = called; bytes = known; broken = false }
    → known ≡ Some [] → called ≡ name → All (λ f. f.name ≢ name) files → (writes : List FileWrite) → FilesHave files writes → FilesHave new writes
made files mid new file known called name kept pushed is none called_so apart writes has =
    let named : file.name ≡ name = ap (λ (x : Held). x.name) is ∙ called_so in
    subst (λ xs. FilesHave xs writes) (sym (pushed ∙ ap (λ xs. xs ++ file ∷ []) kept))
    (one_file_more files file writes (ap (λ (x : Held). x.bytes) is ∙ none) (λ place f got e. none_among files name apart place f got (e ∙ named)) has)

module _ (files mid : List Held) (place : ℕ) (old new : Held) (name bytes : List ℕ) (there : IsFileAt mid name place) (read : old ≡ get_or mid place old)
    (named : new.name ≡ old.name) (stays : old.broken ≡ true → new ≡ old) (kept : (writes : List FileWrite) → FilesHave files writes → FilesHave mid writes) where
  is : old ≡ there.0
  is = read ∙ get_or_from_slice_get mid place there.0 old there.1.0

  got : slice_get mid place ≡ Some old
  got = there.1.0 ∙ ap Some (sym is)

  called : name ≡ old.name
  called = sym (ap (λ (x : Held). x.name) is ∙ there.1.1)

  pub taken : (answer : Result (Unit {0}) FolderFault) → OnOk answer (Appends old.bytes new.bytes bytes × (new.broken ≡ false))
      → OnOk answer (HaveBesides files (record { name = name; bytes = bytes; refused = None }) (set mid place new))
  taken (Ok u) more = grind (arith, nat_tests, one_file_has, got, called, has_more)
  taken (Err fault) more = record {}

  pub refused : (answer : Result (Unit {0}) FolderFault) → IfErr answer (LeavesFile old new)
      → IfErr answer (λ fault. HaveBesides files (record { name = name; bytes = bytes; refused = Some fault }) (set mid place new))
  refused (Ok u) left = record {}
  refused (Err fault) left = grind (arith, nat_tests, one_file_has, got, called, has_left)

-- where there is no place, no file was written
pub in_vain : (files mid : List Held) (name bytes : List ℕ) (fault : FolderFault) → ((writes : List FileWrite) → FilesHave files writes → FilesHave mid writes)
    → HaveBesides files (record { name = name; bytes = bytes; refused = Some fault }) mid
in_vain files mid name bytes fault kept writes has = asks_in_vain mid name bytes fault writes (kept writes has)

-- the write was noted with its answer
pub tied : (old new : List Held) (asked then : List FileWrite) (name bytes : List ℕ) (answer : Result (Unit {0}) FolderFault) (why : Option FolderFault)
    → OnOk answer (HaveBesides old (record { name = name; bytes = bytes; refused = None }) new)
    → IfErr answer (λ fault. HaveBesides old (record { name = name; bytes = bytes; refused = Some fault }) new)
    → why ≡ result_err answer → then ≡ asked ++ record { name = name; bytes = bytes; refused = why } ∷ [] → ∥ FilesHave old asked ∥₁ → ∥ FilesHave new then ∥₁
tied old new asked then name bytes (Ok u) why took refuses is noted has =
    ∥∥₁_elim has ∥∥₁_prop (λ h. ∣ subst (λ ws. FilesHave new ws) (sym (noted ∙ ap (λ w. asked ++ record { name = name; bytes = bytes; refused = w } ∷ []) is)) (took asked h) ∣₁)
tied old new asked then name bytes (Err fault) why took refuses is noted has =
    ∥∥₁_elim has ∥∥₁_prop (λ h. ∣ subst (λ ws. FilesHave new ws) (sym (noted ∙ ap (λ w. asked ++ record { name = name; bytes = bytes; refused = w } ∷ []) is)) (refuses asked h) ∣₁)
