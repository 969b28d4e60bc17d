-- Cited by calls. What an operation of a side says of each list that the side showed before it.
use Rattle.std.specs.Prelude.{ℕ, ◌≡◌, ◌+◌, ◌||◌, Bool, true, List, [], ◌∷◌, length, map, slice_get, slice_set, Option, Some, if◌then◌else◌}
use Rattle.dspec_cpu_state.specs.Counting.{counts_of, with_decided}
use Rattle.dspec_cpu_state.specs.CpuStates.{IsCaller, IsFilledWith, ShowsList}
use Rattle.dspec_cpu_state.specs.Words.Outside.{Record, Piece, one, block, piece_fits, Speculation, is_commit, is_discard, is_lost, CpuLegal, fits_principal, fits_speculative, is_closed, active}
use Rattle.dspec_cpu_state.specs.Words.Outside.{contents, growing, held, Shape, Config, DecideFate, SpeculateFate, TraceFate, Deed, Seal, Speculate}
use Rattle.dspec_cpu_state.specs.declared.{counts.Counts.Counts, cpu_state.CpuState.CpuState}
use Rattle.dspec_deeds.specs.declared.deed.SpeculateFate.TheVariants as spoken
use Rattle.dspec_deeds.specs.declared.deed.TraceFate.TheVariants as traced

-- what becomes of a record that is kept or not: one that is traced, and one that is granted to a speculation
abbrev pub kept_trace : Bool → TraceFate
kept_trace kept = if kept then traced.Kept else traced.Dropped

abbrev pub kept_grant : Bool → SpeculateFate
kept_grant kept = if kept then spoken.Kept else spoken.Dropped

-- a commit or a discard, by which a block ends
abbrev pub ends_block : DecideFate → Bool
ends_block f = is_commit f || is_discard f

-- what a caller has of a speculation; a CPU that is none has nothing of it
abbrev pub own_only : {A : Type 0} → Bool → List A → List A
own_only mine xs = if mine then xs else []

-- the block that ends a CPU's buffer of a speculation fits after these pieces
abbrev pub block_fits : (ℕ → Option Shape) → List Piece → Bool → List Record → ℕ → Bool
block_fits shape ps mine rs size = piece_fits shape ps (block (own_only mine rs)) size

-- a side after a decision, but for its buffers, which are as they are after it
abbrev pub decided_side : {B : Type 0} → DecideFate → CpuState B → CpuState B → CpuState B
decided_side fate before after = record before {
  calls = before.calls + 1;
  active = after.active;
  speculative = after.speculative;
  drops = before.drops + (if is_lost fate then 1 else 0);
  counts = with_decided fate before.counts;
}

-- a side after a settlement, but for its buffers and acknowledgements, which are as they are after it
abbrev pub settled_side : {B : Type 0} → DecideFate → CpuState B → CpuState B → CpuState B
settled_side fate before after = record before {
  acks = after.acks;
  active = after.active;
  speculative = after.speculative;
  drops = before.drops + (if is_lost fate then 1 else 0);
  counts = with_decided fate before.counts;
}

-- of each list with these counts, and each block of so many records: where `room` says whether the active principal buffer has room
-- for the block, this is whether that buffer takes it
abbrev pub TellsBlock : Config → Counts → Bool → ℕ → Bool → Type 0
TellsBlock k counts room count takes =
    (shape : ℕ → Option Shape) (c worn : ℕ) (p : List Deed) (rs : List Record) → counts ≡ counts_of k c worn p → count ≡ length rs
    → room ≡ piece_fits shape (active c p) (block rs) k.bufsize → takes ≡ fits_principal shape k c (block rs) p

-- the buffer at this place of a list has changed; its size is the same, and `Changes` says what it has become
abbrev pub ChangesAt : {B : Type 0} → (B → ℕ) → ℕ → List B → List B → (B → B → Type 0) → Type 0
ChangesAt {B} capacity place before after Changes =
    (b : B) → slice_get before place ≡ Some b → (n : B) × (capacity n ≡ capacity b) × (after ≡ slice_set before place n) × Changes b n

module _ {B : Type 0} (keeps : B → List Piece → Type 0) (capacity : B → ℕ) where
  -- the block of the buffer at this place is said to fit only where it does; where it is said to, the active buffer has it in front
  abbrev pub TakesBlock : (ℕ → Option Shape) → Bool → Bool → ℕ → List B → B → B → Type 0
  TakesBlock shape mine fit place buffers before after =
      (ps : List Piece) (rs : List Record) (b : B) → slice_get buffers place ≡ Some b → keeps before ps → keeps b (map one rs)
      → (fit ≡ true → block_fits shape ps mine rs (capacity before) ≡ true) → keeps after (if fit then block (own_only mine rs) ∷ ps else ps)

  -- a buffer of a speculation keeps a record where that fits after what the CPU has there, and still has what the CPU has there
  abbrev pub KeepsRecord : (ℕ → Option Shape) → Bool → Record → Bool → B → B → Type 0
  KeepsRecord shape mine r kept before after =
      (ps : List Piece) → keeps before ps → (kept ≡ piece_fits shape (own_only mine ps) (one r) (capacity before))
      × keeps after (if kept then one r ∷ own_only mine ps else own_only mine ps)

  module _ (k : Config) (c : ℕ) (p : List Deed) where
    -- after the deed, a side that showed this list shows it with the deed in front
    abbrev pub ShowsNext : Deed → CpuState B → CpuState B → Type 0
    ShowsNext d before after = ShowsList keeps capacity k c p before → ShowsList keeps capacity k c (d ∷ p) after

    -- after a Seal, where the buffer that was to be the active one is empty
    abbrev pub ShowsSeal : B → CpuState B → CpuState B → Type 0
    ShowsSeal next before after =
        ShowsList keeps capacity k c p before → IsFilledWith keeps capacity k.bufsize [] next → ShowsList keeps capacity k c (Seal c ∷ p) after

    -- after a record that was granted to a speculation, of which the CPU was a caller before or not, and kept or not
    abbrev pub ShowsGrant : Speculation → Bool → Record → Bool → CpuState B → CpuState B → Type 0
    ShowsGrant id mine r kept before after =
        ShowsList keeps capacity k c p before → IsCaller c id mine p → ShowsList keeps capacity k c (Speculate c id r (kept_grant kept) ∷ p) after

    -- a deed that ends the CPU's block of a speculation: the side shows it in front where it does end one and is legal
    abbrev pub ShowsEnded : (ℕ → Option Shape) → Speculation → Bool → Bool → Deed → CpuState B → CpuState B → Type 0
    ShowsEnded shape id mine ends d before after =
        ShowsList keeps capacity k c p before → IsCaller c id mine p → ends ≡ true → CpuLegal shape k p d → ShowsList keeps capacity k c (d ∷ p) after

    -- of a side that shows this list: whether the active principal buffer, closed or not, takes a record
    abbrev pub TellsRecordRoom : (ℕ → Option Shape) → Bool → Record → CpuState B → Bool → Type 0
    TellsRecordRoom shape closed r side fits =
        ShowsList keeps capacity k c p side → closed ≡ is_closed k c p → fits ≡ fits_principal shape k c (one r) p

    -- whether it takes the CPU's block of a speculation
    abbrev pub TellsBlockRoom : (ℕ → Option Shape) → Speculation → Bool → CpuState B → Bool → Type 0
    TellsBlockRoom shape id mine side fits =
        ShowsList keeps capacity k c p side → IsCaller c id mine p → fits ≡ fits_principal shape k c (block (contents (held c id p))) p

    -- whether the CPU's buffer of a speculation takes a record
    abbrev pub TellsSlotRoom : (ℕ → Option Shape) → Speculation → Bool → Record → CpuState B → Bool → Type 0
    TellsSlotRoom shape id mine r side fits =
        ShowsList keeps capacity k c p side → IsCaller c id mine p → fits ≡ fits_speculative shape k c id r p

    -- a sealed buffer is the one that has grown since the list's last Seal, and these are its drops
    abbrev pub IsGrown : B → ℕ → Type 0
    IsGrown b drops = IsFilledWith keeps capacity k.bufsize (active c p) b × (drops ≡ (growing c p).drops)
