-- Cited by calls. Files that are held open while they are written.
use Rattle.std.specs.{Fmt.signed_decimal, Io.KnownBytes.Appends, Io.KnownBytes.Keeps, Prelude.ℕ, Prelude.ℤ, Prelude.◌≡◌, Prelude.◌≢◌, Prelude.Bool, Prelude.true, Prelude.false, Prelude.List}
use Rattle.std.specs.{Prelude.[], Prelude.◌∷◌, Prelude.Option, Prelude.Some, Prelude.None, Prelude.⊤, Prelude.length, Prelude.slice_get, Prelude.take, Prelude.codes, Prelude.◌++◌}
use Rattle.dspec_ctf_sink.specs.Writes.{FileWrite, file_of}
use Rattle.dspec_ctf_sink.specs.declared.fault.FolderFault.{FolderFault}
use Rattle.dspec_ctf_sink.specs.declared.fault.FolderFault.TheVariants.{Cpu, Cut, Memory, Metadata, NotEmpty, Packet, Read, Write}

-- a file that is held: its name, the bytes that it has, where they are known, and whether it ends with a broken write
pub record Held : Type 0 where
  pub name : List ℕ
  pub bytes : Option (List ℕ)
  pub broken : Bool

-- known bytes are so many
abbrev pub IsLong : Option (List ℕ) → ℕ → Type 0
IsLong None n = ⊤
IsLong (Some xs) n = length xs ≡ n

-- of known bytes the first so many are left
abbrev pub IsCut : Option (List ℕ) → Option (List ℕ) → ℕ → Type 0
IsCut None new n = ⊤
IsCut (Some xs) None n = ⊥
IsCut (Some xs) (Some ys) n = ys ≡ take n xs

-- known bytes stay in front, and some are after them that nobody answers for
abbrev pub KeepsInFront : Option (List ℕ) → Option (List ℕ) → Type 0
KeepsInFront old new = (more : List ℕ) × Appends old new more

-- what a refused write leaves of the bytes that a file had: all and no more, unless what it had written couldn't be cut off
abbrev pub LeavesBytes : Option (List ℕ) → Option (List ℕ) → FolderFault → Type 0
LeavesBytes old new (Write code) = Keeps old new
LeavesBytes old new Memory = Keeps old new
LeavesBytes old new Cut = KeepsInFront old new
LeavesBytes old new Read = ⊥
LeavesBytes old new NotEmpty = ⊥
LeavesBytes old new (Metadata fault) = ⊥
LeavesBytes old new (Packet cpu fault) = ⊥
LeavesBytes old new (Cpu cpu) = ⊥

-- and of the file: only where that couldn't be cut off it takes no more
abbrev pub LeavesFile : Held → Held → FolderFault → Type 0
LeavesFile old new (Write code) = Keeps old.bytes new.bytes × (new.broken ≡ false)
LeavesFile old new Memory = Keeps old.bytes new.bytes × (new.broken ≡ false)
LeavesFile old new Cut = KeepsInFront old.bytes new.bytes × (new.broken ≡ true)
LeavesFile old new Read = ⊥
LeavesFile old new NotEmpty = ⊥
LeavesFile old new (Metadata fault) = ⊥
LeavesFile old new (Packet cpu fault) = ⊥
LeavesFile old new (Cpu cpu) = ⊥

-- the file of that name stands at this place
abbrev pub IsFileAt : List Held → List ℕ → ℕ → Type 0
IsFileAt files name place = (file : Held) × ((slice_get files place ≡ Some file) × (file.name ≡ name))

-- the path of a file in the folder that is open under this number
abbrev pub path_in : ℤ → List ℕ → List ℕ
path_in number name = codes "/proc/self/fd/" ++ (signed_decimal number ++ (codes "/" ++ name))

-- the file has these bytes, and more at most where it ends with a broken write
pub record HasWritten (file : Held) (bytes : List ℕ) : Type 0 where
  pub more : List ℕ
  pub has : file.bytes ≡ Some (bytes ++ more)
  pub whole : file.broken ≡ false → more ≡ []

-- none of these files has this name
abbrev pub IsNotAmong : List Held → List ℕ → Type 0
IsNotAmong files name = (place : ℕ) (file : Held) → slice_get files place ≡ Some file → file.name ≢ name

-- each file has what these writes brought to it, no two have one name, and to any other name they brought nothing
pub record FilesHave (files : List Held) (writes : List FileWrite) : Type 0 where
  pub each : (place : ℕ) (file : Held) → slice_get files place ≡ Some file → HasWritten file (file_of file.name writes)
  pub apart : (a b : ℕ) (f g : Held) → slice_get files a ≡ Some f → slice_get files b ≡ Some g → f.name ≡ g.name → a ≡ b
  pub others : (name : List ℕ) → IsNotAmong files name → file_of name writes ≡ []

-- whatever writes these files had, now they have one more
abbrev pub HaveBesides : List Held → FileWrite → List Held → Type 0
HaveBesides old w new = (writes : List FileWrite) → FilesHave old writes → FilesHave new (writes ++ w ∷ [])
