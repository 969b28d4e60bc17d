-- Cited by calls. What is told of a trace folder and of its files.
use Rattle.std.specs.Prelude.{◌≡◌, ◌≢◌, ◌<◌, ℕ, List, ◌++◌, length, take, drop, slice_get, Option, Some, None, codes, decimal}
use Rattle.std.specs.declared.io.{Error.Error, ErrorKind.ErrorKind}
use Rattle.std.specs.declared.io.ErrorKind.TheVariants as kind
use Rattle.dspec_folder_view.specs.Words.Outside.{Layout, split_packet, IsSoundFrom, MetadataReadFault, Line, TooLarge, no_memory, Whose, FileFault}
use Rattle.dspec_folder_view.specs.declared.{folder_fault.TraceFolderFault.TraceFolderFault, judging.Mend.Mend, judging.Mend.TheVariants.Nothing, judging.Mend.TheVariants.CutAt}
use Rattle.dspec_folder_view.specs.declared.{judging.Mend.TheVariants.Leave, naming.FileName.FileName}
use Rattle.dspec_folder_view.specs.declared.folder_fault.TraceFolderFault.TheVariants as folder

-- ---- names

-- the name of a CPU's file, and of one of several that it has
abbrev pub file_name : ℕ → Option ℕ → List ℕ
file_name cpu None = codes "cpu_" ++ decimal cpu
file_name cpu (Some number) = codes "cpu_" ++ (decimal cpu ++ (codes "_" ++ decimal number))

-- ---- statuses

-- the exit status that tells of a fault: 1 for what a folder has, 2 for memory, 3 for what the system refuses
abbrev pub status_of_folder : TraceFolderFault → ℕ
status_of_folder (folder.Text path reason) = 3
status_of_folder (folder.File path file reason) = 3
status_of_folder (folder.NoTextFile path) = 1
status_of_folder (folder.NoFile path file) = 1
status_of_folder (folder.NoMetadata path) = 1
status_of_folder (folder.Metadata path fault) = 1
status_of_folder (folder.Uuid path) = 1
status_of_folder folder.Clocks = 1
status_of_folder (folder.NoField name) = 1
status_of_folder (folder.NoPath number) = 1
status_of_folder folder.NoDate = 1
status_of_folder folder.Memory = 2

-- what is told of a folder whose metadata can't be read
abbrev pub IsMetadataTold : List ℕ → MetadataReadFault → TraceFolderFault → Type 0
IsMetadataTold path no_memory told = told ≡ folder.Memory
IsMetadataTold path fault (folder.Metadata named why) = (named.now ≡ path) × (why ≡ fault)
IsMetadataTold path fault told = ⊥

-- what is told of a folder whose metadata the system refuses, by the kind of its reason
abbrev pub IsTextRefused : List ℕ → Error → ErrorKind → TraceFolderFault → Type 0
IsTextRefused path reason kind.OutOfMemory told = told ≡ folder.Memory
IsTextRefused path reason kind (folder.Text named why) = (named.now ≡ path) × (why ≡ reason)
IsTextRefused path reason kind told = ⊥

-- the same of a file of a CPU
abbrev pub IsFileRefused : List ℕ → FileName → Error → ErrorKind → TraceFolderFault → Type 0
IsFileRefused path file reason kind.OutOfMemory told = told ≡ folder.Memory
IsFileRefused path file reason kind (folder.File named one why) = (named.now ≡ path) × ((one ≡ file) × (why ≡ reason))
IsFileRefused path file reason kind told = ⊥

-- ---- files

-- nothing is wrong with a file of this trace and CPU
abbrev pub IsSoundFile : Layout → Whose → List ℕ → Type 0
IsSoundFile layout whose bytes = IsSoundFrom layout whose.uuid whose.cpu 0 bytes

-- what is told of a file: nothing where it is sound, and only there
abbrev pub IsVerdict : Layout → Whose → List ℕ → Option FileFault → Type 0
IsVerdict layout whose bytes None = IsSoundFile layout whose bytes
IsVerdict layout whose bytes (Some fault) = ¬ IsSoundFile layout whose bytes

-- What is to be done with a file. Where bytes are cut off, what stands before is sound, and no packet begins with what is cut off; a file
-- that is sound is never cut, nor left as wrong.
abbrev pub IsMend : Layout → Whose → List ℕ → Mend → Type 0
IsMend layout whose bytes Nothing = IsSoundFile layout whose bytes
IsMend layout whose bytes (CutAt at) =
    (¬ IsSoundFile layout whose bytes) × (IsSoundFile layout whose (take at bytes) × ((at < length bytes) × (split_packet layout.timed (drop at bytes) ≡ None)))
IsMend layout whose bytes (Leave fault) = ¬ IsSoundFile layout whose bytes

-- ---- uuids

-- the first place of a uuid among these, or that it isn't among them
abbrev pub IsUuidPlace : List (List ℕ) → List ℕ → Option ℕ → Type 0
IsUuidPlace uuids uuid None = (place : ℕ) → slice_get uuids place ≢ Some uuid
IsUuidPlace uuids uuid (Some place) = (slice_get uuids place ≡ Some uuid) × ((before : ℕ) → before < place → slice_get uuids before ≢ Some uuid)
