-- Cited by calls. What a CPU's side shows of a list of that CPU's own deeds.
use Rattle.std.specs.Prelude.{ℕ, ◌≡◌, ◌+◌, ◌==◌, Bool, false, List, []}
use Rattle.dspec_cpu_state.specs.{Counting.counts_of, Words.Outside.Piece, Words.Outside.Speculation, Words.Outside.mark, Words.Outside.held, Words.Outside.StateParts, Words.Outside.ShowsOwnState}
use Rattle.dspec_cpu_state.specs.{Words.Outside.own_side, Words.Outside.Config, Words.Outside.Deed, declared.cpu_state.CpuState.CpuState}

-- the numbers and buffers of a side
abbrev pub parts_of_side : {B : Type 0} → CpuState B → StateParts B
parts_of_side side = record {
  calls = side.calls;
  seals = side.seals;
  drops = side.drops;
  missed_busy = side.missed_busy;
  active = side.active;
  speculative = side.speculative.items;
  marks = side.marks;
  specdrops = side.specdrops.items;
  acks = side.acks.items;
}

module _ {B : Type 0} (keeps : B → List Piece → Type 0) (capacity : B → ℕ) where
  -- a buffer of that size has these pieces
  pub record IsFilledWith (size : ℕ) (ps : List Piece) (b : B) : Type 0 where
    pub sized : capacity b ≡ size
    pub has : keeps b ps

  -- numbers and buffers are what the list tells of the CPU, and so are the counts, of which that of worn calls rests on no deed
  pub record ShowsList (k : Config) (c : ℕ) (p : List Deed) (side : CpuState B) : Type 0 where
    pub parts : ShowsOwnState IsFilledWith k (own_side c p) (parts_of_side side)
    pub counted : side.counts ≡ counts_of k c side.counts.worn p

-- whether the CPU is a caller of the speculation, as its mark tells; where it is none, it holds nothing of it
pub record IsCaller (c : ℕ) (id : Speculation) (mine : Bool) (p : List Deed) : Type 0 where
  pub marked : mine ≡ (mark c id.slot p == id.issue + 1)
  pub empty : mine ≡ false → held c id p ≡ []
