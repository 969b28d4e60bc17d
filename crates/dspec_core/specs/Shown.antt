-- Cited by calls. What a machine keeps of a CPU, and the words, show of the list of deeds.
use Rattle.std.specs.Prelude.{ℕ, ◌≡◌, ◌<◌, ◌-◌, ◌^◌, List, [], ◌∷◌, length, slice_get, Some}
use Rattle.dspec_core.specs.Words.Outside.{Record, Piece, records, SlotState, word_at, Sealing, empty_batch, batches, contents, stream, taken, ShowsList, IsSlot, Config, Deed}
use Rattle.dspec_core.specs.declared.machine.cpu.Cpu.{Cpu}

-- the batch sealed last
abbrev pub first_or_empty : List Sealing → Sealing
first_or_empty [] = empty_batch
first_or_empty (b ∷ bs) = b

abbrev pub batch_of_last_seal : ℕ → List Deed → Sealing
batch_of_last_seal c h = first_or_empty (batches c h)

-- the words show the list: the word of slot s stands at place s - 1
pub record ShowsWords (k : Config) (h : List Deed) (words : List SlotState) : Type 0 where
  pub count : length words ≡ k.nspec
  pub slots : (s : ℕ) → IsSlot k s → slice_get words (s - 1) ≡ Some (word_at s h)

module _ {S B : Type 0} (has : B → S → List Piece → Type 0) (capacity : B → ℕ) (schema : S) where
  -- a buffer of that size has these records, however they were reserved
  pub record HasRecords (size : ℕ) (rs : List Record) (b : B) : Type 0 where
    pub sized : capacity b ≡ size
    pub pieces : List Piece
    pub has_pieces : has b schema pieces
    pub are : records pieces ≡ rs

  -- what is kept of a CPU shows the list: the side does, which counts the worn calls too, as far as 64 bits go; the second principal buffer has the
  -- records of the batch sealed last; and what the CPU has accepted, what was taken of it, and the drops of that batch
  pub record ShowsCpu (k : Config) (c : ℕ) (h : List Deed) (own : Cpu B) : Type 0 where
    pub side : ShowsList (λ b. has b schema) capacity k c h own.side
    pub worn : own.side.counts.worn ≡ own.progress.worn
    pub few_worn : own.progress.worn < 2 ^ 64
    pub second : HasRecords k.bufsize (contents (batch_of_last_seal c h).offers) own.second
    pub accepted : own.accepted ≡ stream c h
    pub took : own.taken ≡ taken own.progress.takes c h
    pub sealed_drops : own.sealed_drops ≡ (batch_of_last_seal c h).drops
