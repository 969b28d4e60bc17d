-- Cited by calls. What a part of a call did, said of the CPU before it and of the CPU after it.
use Rattle.std.specs.Prelude.{ℕ, Bool, List, Option}
use Rattle.dspec_cpu.specs.{Calls.Decides, Lists.config_of, Lists.number_in, Lists.seat_of, Scans.Opens, Serving.Serves, Settled.BlockSettled, Settled.CanSettle, Settled.Settled}
use Rattle.dspec_cpu.specs.{Switching.buffers_of, Words.Outside.Record, Words.Outside.block, Words.Outside.Stored, Words.Outside.Speculation, Words.Outside.fits_principal, Words.Outside.contents}
use Rattle.dspec_cpu.specs.{Words.Outside.held, Words.Outside.known, Words.Outside.IsCaller, Words.Outside.Shape, Words.Outside.Batch, Words.Outside.Code, Words.Outside.Decided}
use Rattle.dspec_cpu.specs.{Words.Outside.Opening, Words.Outside.Served, Words.Outside.Config, Words.Outside.DecideFate, Words.Outside.Deed, Words.Outside.Doing, Words.Outside.CpuState}
use Rattle.dspec_cpu.specs.{declared.parts.CpuParts.CpuParts as Cpu}

-- by which lists each CPU has
module _ {S : Type 0} (has : Cpu S → List Deed → Type 0) where
  -- a decision was made, whose deed has this form
  abbrev pub DecidesBetween : (DecideFate → Deed) → Speculation → Decided → Cpu S → Cpu S → Type 0
  DecidesBetween of id a old new = Decides of id a (has old) (known (seat_of old)) (has new) (known (seat_of new))

  -- a speculation was asked for
  abbrev pub OpensBetween : Opening → Cpu S → Cpu S → Type 0
  OpensBetween a old new = Opens (config_of old) (number_in old) a (has old) (known (seat_of old)) (has new) (known (seat_of new))

  -- what was decided elsewhere was settled on each slot
  abbrev pub SettlesBetween : ℕ → Cpu S → Cpu S → Type 0
  SettlesBetween n old new = Settled (number_in old) (config_of old).nspec n (has old) (known (seat_of old)) (has new) (known (seat_of new))

  -- the CPU did what it owed
  abbrev pub ServesBetween : Served → Cpu S → Cpu S → Type 0
  ServesBetween a old new = Serves (config_of old) (number_in old) a (has old) (known (seat_of old)) (buffers_of old) (has new) (known (seat_of new)) (buffers_of new)

-- something is so of each list that a CPU shows, where the CPU is a caller of a speculation or isn't
abbrev pub OfCaller : {S : Type 0} → (Cpu S → List Deed → Type 0) → Cpu S → Speculation → Bool → (List Deed → Type 0) → Type 0
OfCaller shows cpu id mine holds = (p : List Deed) → shows cpu p → IsCaller cpu.cpu id mine p → holds p

-- whether the CPU's block of a speculation would fit its principal buffer, by a list
abbrev pub cpu_block_fits : {S : Type 0} → (ℕ → Option Shape) → Cpu S → Speculation → List Deed → Bool
cpu_block_fits shape cpu id p = fits_principal shape cpu.config cpu.cpu (block (contents (held cpu.cpu id p))) p

-- by what each schema has: a block that the CPU could settle was settled, and is shown so
module _ {S : Type 0} (shape_of : S → ℕ → Option Shape) (accepted : S → Record → Bool) (text : S → Record → List ℕ) where
  abbrev pub SettlesBlock : Config → Speculation → Code → Doing → CpuState Stored → CpuState Stored → Type 0
  SettlesBlock k id code doing old new = (s : S) (c : ℕ) (batches : List Batch) (p : List Deed)
      → CanSettle (shape_of s) (accepted s) (text s) k c old batches id code p → BlockSettled (shape_of s) (accepted s) (text s) k c new batches id code doing p
