-- Cited by calls. How a CPU's active buffer is switched for a spare one.
use Rattle.std.specs.Prelude.{ℕ, ◌≡◌, ◌≢◌, ◌<◌, ◌≤◌, ◌+◌, ◌⊎◌, Bool, true, false, List, [], ◌∷◌, ◌++◌, length, Option, Some, None, if◌then◌else◌}
use mathlib.Core.List.{IsPrefix}
use Rattle.dspec_cpu.specs.Words.Outside.{Stored, CpuKnows, cpu_moved, is_fill, LoadedAsk, Batch, Config, Deed, Seal, View, CpuSeat}
use Rattle.dspec_cpu.specs.declared.parts.CpuParts.{CpuParts as Cpu}

-- what a switch moves: the CPU's end of the rings, the batch held back, the spare in hand, the active buffer, the drops since the
-- last Seal, and the number of Seals
pub record Buffers : Type 0 where
  pub end : CpuKnows
  pub held_back : Option Batch
  pub spare : Option Stored
  pub active : Stored
  pub drops : ℕ
  pub seals : ℕ

abbrev pub buffers_of : {S : Type 0} → Cpu S → Buffers
buffers_of cpu = record { end = cpu.end; held_back = cpu.held_back; spare = cpu.spare; active = cpu.side.active; drops = cpu.side.drops; seals = cpu.side.seals }

-- the CPU with these, at a seat
abbrev pub with_buffers : {S : Type 0} → Cpu S → CpuSeat → Buffers → Cpu S
with_buffers cpu seat x = record cpu { seat = seat; end = x.end; held_back = x.held_back; spare = x.spare; side = record cpu.side { active = x.active; drops = x.drops; seals = x.seals } }

-- all else is as it was
abbrev pub IsSameBeside : {S : Type 0} → Cpu S → Cpu S → Type 0
IsSameBeside old new = new ≡ with_buffers old new.seat (buffers_of new)

-- the batch went into the ring, by one push
pub record IsHanded (e : CpuKnows) (b : Batch) (f : CpuKnows) : Type 0 where
  pub pair : f.pair ≡ e.pair
  pub handed : f.handed ≡ e.handed ++ b ∷ []
  pub room : e.room ≤ f.room + 1
  pub spares : f.spares ≡ e.spares
  pub waiting : f.waiting ≡ e.waiting
  pub moves : f.moves ≡ e.moves + 1

-- A batch held back is handed on, or stays held back, and that only where the ring has no free place that the end knows of: one push
-- either way, and no move where there is none.
abbrev pub HandsOn : CpuKnows → Option Batch → CpuKnows → Option Batch → Type 0
HandsOn e None f left = (f ≡ e) × (left ≡ None)
HandsOn e (Some b) f None = IsHanded e b f
HandsOn e (Some b) f (Some back) = (back ≡ b) × (f ≡ cpu_moved e) × (e.room ≡ 0)

-- a batch came out of the ring, by one pop
pub record HasCome (e : CpuKnows) (b : Batch) (f : CpuKnows) : Type 0 where
  pub pair : f.pair ≡ e.pair
  pub handed : f.handed ≡ e.handed
  pub room : f.room ≡ e.room
  pub spares : f.spares ≡ e.spares ++ b ∷ []
  pub next : IsPrefix e.waiting (b ∷ f.waiting)
  pub moves : f.moves ≡ e.moves + 1

-- The spare is the one in hand. Where there is none the ring is asked for the next, by one pop: a buffer of that size. There is no
-- spare where the ring gave nothing, though it does where the end knows of one, or gave a buffer of another size.
abbrev pub FindsSpare : ℕ → CpuKnows → Option Stored → CpuKnows → Option Stored → Type 0
FindsSpare size e (Some b) f found = (f ≡ e) × (found ≡ Some b)
FindsSpare size e None f (Some b) = (came : Batch) × HasCome e came f × (b ≡ came.buffer) × (b.size ≡ size)
FindsSpare size e None f None = ((f ≡ cpu_moved e) × (e.waiting ≡ [])) ⊎ ((came : Batch) × HasCome e came f × (came.buffer.size ≢ size))

-- a buffer without pieces
abbrev pub emptied : Stored → Stored
emptied b = record { text = []; count = 0; size = b.size }

-- the batch that a Seal makes of the active buffer
abbrev pub batch_of : ℕ → Buffers → Batch
batch_of c x = record { cpu = c; drops = x.drops; buffer = x.active }

-- What a CPU does about an ask that it was shown: whether it seals, and the buffers after that. It seals where the ask is above
-- its Seals, these are below the most, and a spare is found; but never while a batch is held back, which can be only where more
-- spares came than batches were handed.
pub data Heeds (k : Config) (c ask : ℕ) (x : Buffers) : Bool → Buffers → Type 0 where
  not_asked : ask ≤ x.seals → Heeds k c ask x false x
  worn_out : x.seals < ask → k.max_calls ≤ x.seals → Heeds k c ask x false x
  no_spare : x.seals < ask → x.seals < k.max_calls → (f : CpuKnows) → FindsSpare k.bufsize x.end x.spare f None → Heeds k c ask x false (record x { end = f; spare = None })
  held_up : x.seals < ask → x.seals < k.max_calls → (f : CpuKnows) (s : Stored) → FindsSpare k.bufsize x.end x.spare f (Some s)
      → (b : Batch) → x.held_back ≡ Some b → length f.handed < length f.spares → Heeds k c ask x false (record x { end = f; spare = Some s })
  switched : x.seals < ask → x.seals < k.max_calls → (f : CpuKnows) (s : Stored) → FindsSpare k.bufsize x.end x.spare f (Some s)
      → x.held_back ≡ None → (g : CpuKnows) (left : Option Batch) → HandsOn f (Some (batch_of c x)) g left
      → Heeds k c ask x true (record { end = g; held_back = left; spare = None; active = emptied s; drops = 0; seals = x.seals + 1 })

-- What the first part of a service did. Under policy Fill nothing at all: neither the ask is loaded nor a ring touched. Else
-- a batch held back goes first, and then the ask is loaded.
pub data Switches (k : Config) (c : ℕ) (v : View) (x : Buffers) : Bool → View → Buffers → Type 0 where
  never : is_fill k.policy ≡ true → Switches k c v x false v x
  looked : is_fill k.policy ≡ false → (e : CpuKnows) (left : Option Batch) → HandsOn x.end x.held_back e left → (ask : ℕ) (w : View) → LoadedAsk c v ask w
      → (sealed : Bool) (y : Buffers) → Heeds k c ask (record x { end = e; held_back = left }) sealed y → Switches k c v x sealed w y

-- how many moves of its rings a service makes at most: one for a batch held back, one for a spare, and one for the batch sealed
abbrev pub most_moves : Option Batch → ℕ
most_moves None = 2
most_moves (Some b) = 3

-- the list with the Seal in front, where there was one
abbrev pub with_seal : Bool → ℕ → List Deed → List Deed
with_seal sealed c p = if sealed then Seal c ∷ p else p
