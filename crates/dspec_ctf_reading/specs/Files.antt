-- Cited by calls. What the bytes of a file tell by its layout.
use Rattle.std.specs.{List.flat_map, Prelude.◌≡◌, Prelude.◌==◌, Prelude.ℕ, Prelude.List, Prelude.[], Prelude.◌∷◌, Prelude.All, Prelude.Some, Prelude.filter}
use Rattle.dspec_ctf_reading.specs.{Reading.Layout, Reading.EventRead, Reading.PacketRead, Reading.read_file, Reading.events_of, Reading.loss_of, Words.Outside.Record}

-- A file of this trace and of this CPU: it is read as packets that have these events, in order, and tell that so many were missed.
pub record FileTells (layout : Layout) (uuid : List ℕ) (cpu : ℕ) (bytes : List ℕ) (events : List EventRead) (loss : ℕ) : Type 0 where
  pub packets : List PacketRead
  pub read : read_file layout bytes ≡ Some packets
  pub has : events_of packets ≡ events
  pub misses : loss_of packets ≡ loss
  pub whose : All (λ p. (p.uuid ≡ uuid) × (p.cpu ≡ cpu)) packets

-- The same of a part of a file, of which each packet tells that so many were missed.
pub record PartTells (layout : Layout) (uuid : List ℕ) (cpu : ℕ) (bytes : List ℕ) (events : List EventRead) (told : ℕ) : Type 0 where
  pub packets : List PacketRead
  pub read : read_file layout bytes ≡ Some packets
  pub has : events_of packets ≡ events
  pub whose : All (λ p. (p.uuid ≡ uuid) × (p.cpu ≡ cpu) × (p.discarded ≡ told)) packets

-- the bytes of a file, where each packet stands with the number of its file
abbrev pub file_bytes : ℕ → List (ℕ × List ℕ) → List ℕ
file_bytes file packets = flat_map (λ p. p.1) (filter (λ p. p.0 == file) packets)

-- what the last of these batches was told with, and nothing where there is none: batches of records, each with how many were missed so far
abbrev pub last_missed : List (ℕ × List Record) → ℕ
last_missed [] = 0
last_missed (batch ∷ []) = batch.0
last_missed (batch ∷ other ∷ batches) = last_missed (other ∷ batches)
