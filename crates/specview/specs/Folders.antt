-- Cited by calls. What is written into a folder.
use Rattle.std.specs.Prelude.{◌≡◌, ℕ, ◌+◌, ◌==◌, List, [], ◌∷◌, ◌++◌, length, map, Option, Some, None, codes, decimal, string_bytes, if◌then◌else◌}
use Rattle.specview.specs.declared.trace.Trace.{Trace}

-- a file's name and its bytes
pub record NamedFile : Type 0 where
  pub name : List ℕ
  pub bytes : List ℕ

abbrev pub named_file : List ℕ → List ℕ → List NamedFile
named_file name bytes = record { name = name; bytes = bytes } ∷ []

-- where the files of a folder are known, these come after them
abbrev pub AddsFiles : Option (List NamedFile) → Option (List NamedFile) → List NamedFile → Type 0
AddsFiles None new files = Unit {0}
AddsFiles (Some xs) None files = ⊥
AddsFiles (Some xs) (Some ys) files = ys ≡ xs ++ files

-- where the files of a folder are known, there is none
abbrev pub IsEmpty : Option (List NamedFile) → Type 0
IsEmpty None = Unit {0}
IsEmpty (Some xs) = xs ≡ []

-- a CPU's file, where it has bytes
abbrev pub written_files : ℕ → List ℕ → List NamedFile
written_files cpu bytes = if length bytes == 0 then [] else named_file (codes "cpu_" ++ decimal cpu) bytes

-- the files of CPUs, from this one upwards
abbrev pub cpu_files : ℕ → List (List ℕ) → List NamedFile
cpu_files cpu [] = []
cpu_files cpu (bytes ∷ files) = written_files cpu bytes ++ cpu_files (cpu + 1) files

-- the files of a trace, the metadata last
abbrev pub trace_files : Trace → List NamedFile
trace_files t = cpu_files 0 (map (λ f. f.items) t.files.items) ++ named_file (codes "metadata") (string_bytes t.metadata)
