-- Cited by calls. For how many slots a session waits for one CPU: those whose speculation is decided and that it hasn't acknowledged.
use Rattle.std.specs.Prelude.{ℕ, zero, suc, ◌≡◌, ◌<◌, ◌≤◌, ◌+◌, ◌*◌, Bool, true, false, nat_le, if◌then◌else◌}
use Rattle.dspec_session_core.specs.Consumers.{Consuming, set_up_of, view_of}
use Rattle.dspec_session_core.specs.Words.Outside.{SlotState, awaits, LookedWord, LoadedAck, View}

-- One slot: its word is loaded, and where that is decided and waits for every CPU, this CPU's acknowledgement, which is of an earlier
-- issue or of this one.
pub data AwaitedIn (cpu slot : ℕ) (v : View) : Bool → View → Type 0 where
  waits_for_none : {shown : SlotState} {w : View} → LookedWord slot v shown w → awaits shown.code ≡ false → AwaitedIn cpu slot v false w
  waits_for_all : {shown : SlotState} {a : ℕ} {u w : View} → LookedWord slot v shown u → awaits shown.code ≡ true → LoadedAck cpu slot u a w
      → AwaitedIn cpu slot v (nat_le a shown.issue) w

-- the slots up to the nth, from the first upwards, and how many of them wait for this CPU
abbrev pub AwaitedSlots : ℕ → View → ℕ → ℕ → View → Type 0
AwaitedSlots cpu v zero count w = (count ≡ 0) × (v ≡ w)
AwaitedSlots cpu v (suc n) count w =
    (before : ℕ) × (u : View) × (hit : Bool) × AwaitedSlots cpu v n before u × AwaitedIn cpu (suc n) u hit w × (count ≡ (if hit then before + 1 else before))

-- all slots, of which so many wait for this CPU: two steps a slot at most, and nothing is entered
pub record Awaited (cpu count : ℕ) (v w : View) : Type 0 where
  pub steps_made : AwaitedSlots cpu v v.config.nspec count w
  pub own : w.own ≡ v.own
  pub asks : w.asks ≡ v.asks
  pub few : w.steps ≤ v.steps + v.config.nspec * 2

-- there is such a CPU, and so many slots wait for it
abbrev pub AwaitedOf : Consuming → ℕ → ℕ → Consuming → Type 0
AwaitedOf old cpu count new = (cpu < (set_up_of old).cpus) × Awaited cpu count (view_of old) (view_of new)
