-- Cited by calls. What a place that takes files was asked for.
use Rattle.std.specs.List.{flat_map}
use Rattle.std.specs.Prelude.{ℕ, ◌≡◌, ◌≢◌, ◌⊎◌, ◌&&◌, if◌then◌else◌, is_none, bytes_eq, List, [], ◌∷◌, ◌++◌, Option, Some, None}
use Rattle.dspec_ctf_sink.specs.{Faults.IsWriteFault, declared.fault.FolderFault.FolderFault, declared.fault.FolderFault.TheVariants.Memory}

-- one write: a file's name, the bytes that are to come after those that it has, and why they weren't taken whole, where they weren't
pub record FileWrite : Type 0 where
  pub name : List ℕ
  pub bytes : List ℕ
  pub refused : Option FolderFault

-- where it is known what a place was asked for, this write comes after
abbrev pub AddsWrite : Option (List FileWrite) → Option (List FileWrite) → FileWrite → Type 0
AddsWrite None new w = Unit {0}
AddsWrite (Some xs) None w = ⊥
AddsWrite (Some xs) (Some ys) w = ys ≡ xs ++ w ∷ []

-- a place was asked for this write, and took it
abbrev pub Takes : Option (List FileWrite) → List ℕ → List ℕ → Option (List FileWrite) → Type 0
Takes old name bytes new = AddsWrite old new (record { name = name; bytes = bytes; refused = None })

-- a place was asked for this write, and refused it for that
pub record Refuses (old : Option (List FileWrite)) (name bytes : List ℕ) (new : Option (List FileWrite)) (fault : FolderFault) : Type 0 where
  pub known : IsWriteFault fault
  pub asked : AddsWrite old new (record { name = name; bytes = bytes; refused = Some fault })

-- a write wasn't taken, for that: memory was wanting to ask for it, or the place refused it
abbrev pub IsNotTaken : Option (List FileWrite) → List ℕ → List ℕ → Option (List FileWrite) → FolderFault → Type 0
IsNotTaken old name bytes new fault = ((fault ≡ Memory) × (new ≡ old)) ⊎ Refuses old name bytes new fault

-- what a write brings to the file of this name: its bytes, where it is one of that file and was taken
abbrev pub brought_to : List ℕ → FileWrite → List ℕ
brought_to name w = if (is_none w.refused && bytes_eq w.name name) then w.bytes else []

-- what these writes leave of the file of this name: the bytes of those that were taken, one after another
abbrev pub file_of : List ℕ → List FileWrite → List ℕ
file_of name writes = flat_map (brought_to name) writes

-- a folder was made at this path: that stands first among what it was asked for, under no name
abbrev pub made_at : List ℕ → FileWrite
made_at path = record { name = []; bytes = path; refused = None }

-- where the folder was made that was asked for these
abbrev pub path_of : List FileWrite → List ℕ
path_of writes = file_of [] writes

-- these left no file anything
abbrev pub LeaveNone : List FileWrite → Type 0
LeaveNone writes = (name : List ℕ) → name ≢ [] → file_of name writes ≡ []
