-- Cited by calls. What settlements do: which steps a CPU's seat makes, and what becomes of its own blocks.
use Rattle.std.specs.Prelude.{ℕ, zero, suc, ◌≡◌, ◌<◌, ◌≤◌, ◌+◌, ◌*◌, ◌^◌, ◌==◌, Bool, true, false, List, [], ◌∷◌, ◌++◌, length, Option, if◌then◌else◌}
use Rattle.dspec_cpu.specs.Calls.{Goes}
use Rattle.dspec_cpu.specs.Lists.{AreShown}
use Rattle.dspec_cpu.specs.Words.Outside.{Record, Stored, awaits, Speculation, settle_at, SlotState, is_granted, is_lost, ack, owed, part, scan, word_at, IsSound, mark, held, bare, settled_fate}
use Rattle.dspec_cpu.specs.Words.Outside.{LoadedWord, SettledWord, parts_of_side, HasRoom, Shape, Batch, Granted, Code, Config, CpuActor, Deed, Settle, Doing, View, CpuState}
use Rattle.dspec_cpu.specs.declared.parts.CpuParts.{CpuParts as Cpu}
use Rattle.dspec_deeds.specs.declared.calls.CpuOp.TheVariants as op
use Rattle.dspec_deeds.specs.Settling as settling

-- the speculation of a slot whose word was shown
abbrev pub shown_at : ℕ → SlotState → Speculation
shown_at slot word = record { issue = word.issue; slot = slot }

-- a call of service in flight, of whose block that much is known
abbrev pub serving : Bool → ℕ → Bool → Doing
serving fit n mine = record { op = op.Service; fits = fit; count = n; mine = mine }

-- after the load of a slot's word: the speculation that it shows was settled, or nothing was done
abbrev pub SettledAfter : Bool → ℕ → ℕ → SlotState → View → List Deed → View → Type 0
SettledAfter false c slot shown v ds w = (ds ≡ []) × (v ≡ w)
SettledAfter true c slot shown v ds w =
    (doing : Doing) × (doing.op ≡ op.Service) × (ds ≡ Settle c (shown_at slot shown) (settled_fate shown.code doing.fits doing.count) ∷ [])
    × SettledWord doing (shown_at slot shown) shown.code v w

-- after the load of a slot's word, which can be released: no release is owed, and the table grants to the CPU's own
-- acknowledgement that what the word shows is settled
pub record IsDueAt (c slot : ℕ) (shown : SlotState) (v : View) : Type 0 where
  pub rests : owed v.seen ≡ 0
  pub here : word_at slot v.seen ≡ shown
  pub limit : shown.issue < 2 ^ 57
  pub granted : settle_at shown (ack c slot v.own) ≡ Granted

-- what was due is settled: its Settle comes in front of every list that the CPU had
pub record DueSettled (c slot : ℕ) (shown : SlotState) (had : List Deed → Type 0) (v : View) (has : List Deed → Type 0) (w : View) : Type 0 where
  pub settles : List Deed
  pub after : SettledAfter true c slot shown v settles w
  pub goes : Goes v settles w
  pub list : (p : List Deed) → had p → has (settles ++ p)

-- one slot of a service: its word is loaded, and settled exactly where the table grants it to the CPU's acknowledgement
pub record SettledSlot (c slot : ℕ) (v : View) (hit : Bool) (ds : List Deed) (w : View) : Type 0 where
  pub shown : SlotState
  pub loaded : View
  pub load : LoadedWord (serving false 0 false) slot v shown loaded
  pub granted : hit ≡ is_granted (settle_at shown (ack c slot v.own))
  pub after : SettledAfter hit c slot shown loaded ds w

-- its Settle, if there is one, comes in front of every list that the CPU had
pub record SlotDone (c slot : ℕ) (hit : Bool) (had : List Deed → Type 0) (v : View) (has : List Deed → Type 0) (w : View) : Type 0 where
  pub settles : List Deed
  pub slot_is : SettledSlot c slot v hit settles w
  pub goes : Goes v settles w
  pub bounded : w.steps ≤ v.steps + 2
  pub list : (p : List Deed) → had p → has (settles ++ p)

-- the slots up to the nth, upwards, and the Settles, the latest first
abbrev pub SettledSlots : ℕ → View → ℕ → List Deed → View → Type 0
SettledSlots c v zero ds w = (ds ≡ []) × (v ≡ w)
SettledSlots c v (suc n) ds w =
    (before : List Deed) × (u : View) × (hit : Bool) × (here : List Deed) × SettledSlots c v n before u × SettledSlot c (suc n) u hit here w
    × (ds ≡ here ++ before)

-- n slots of a service, of which so many were settled: the Settles come in front of every list that the CPU had
pub record Settled (c n count : ℕ) (had : List Deed → Type 0) (v : View) (has : List Deed → Type 0) (w : View) : Type 0 where
  pub settles : List Deed
  pub slots : SettledSlots c v n settles w
  pub number : count ≡ length settles
  pub goes : Goes v settles w
  pub bounded : w.steps ≤ v.steps + 2 * n
  pub list : (p : List Deed) → had p → has (settles ++ p)

-- a service's settlements leave what goes through the rings alone
pub record KeepsBatches {S : Type 0} (old new : Cpu S) : Type 0 where
  pub end : new.end ≡ old.end
  pub spare : new.spare ≡ old.spare
  pub held_back : new.held_back ≡ old.held_back
  pub seals : new.side.seals ≡ old.side.seals

-- A list of the CPU's own is its part, but for the Seals, of a list that is legal in its common part; no release is owed, and
-- no call of speculation of the CPU is under way.
pub record IsPartOf (k : Config) (c : ℕ) (log p : List Deed) : Type 0 where
  pub sound : IsSound k log
  pub rests : owed log ≡ 0
  pub idle : scan k c log ≡ 0
  pub part_is : bare p ≡ part (CpuActor c) log

module _ (shape : ℕ → Option Shape) (accepted : Record → Bool) (text : Record → List ℕ) where
  -- a list is shown, in which the CPU can settle a speculation whose word of that code waits for every CPU: where it isn't
  -- marked for it, it holds nothing of it; and the counts have room for its block
  pub record CanSettle (k : Config) (c : ℕ) (side : CpuState Stored) (batches : List Batch) (id : Speculation) (code : Code) (p : List Deed) : Type 0 where
    pub shown : AreShown shape accepted text k c (parts_of_side side) batches side.counts p
    pub low : 1 ≤ id.slot
    pub high : id.slot ≤ k.nspec
    pub unmarked : (mark c id.slot p == id.issue + 1) ≡ false → held c id p ≡ []
    pub waits : awaits code ≡ true
    pub room : HasRoom (settling.settle_fate shape k c p id code) side.counts
    pub drops : side.drops + (if is_lost (settling.settle_fate shape k c p id code) then 1 else 0) < 2 ^ 64

  -- the block is settled: as the code says, by whether it fits and how many records it has; and the Settle is shown too
  pub record BlockSettled (k : Config) (c : ℕ) (new : CpuState Stored) (batches : List Batch) (id : Speculation) (code : Code) (doing : Doing) (p : List Deed) : Type 0 where
    pub fate : settled_fate code doing.fits doing.count ≡ settling.settle_fate shape k c p id code
    pub shown : AreShown shape accepted text k c (parts_of_side new) batches new.counts (Settle c id (settling.settle_fate shape k c p id code) ∷ p)
