-- Cited by calls. What a clean does: which steps the consumer's seat makes, and which slots it releases.
use Rattle.std.specs.Prelude.{ℕ, zero, suc, ◌≡◌, ◌<◌, ◌≤◌, ◌+◌, ◌*◌, Bool, true, false, MatchBool, List, [], ◌∷◌, ◌++◌, length, map, if◌then◌else◌}
use Rattle.dspec_session_core.specs.Words.Outside.{SlotState, awaits, LookedWord, LoadedAck, ReapedWord, Config, Release, View}

-- the acknowledgements of the CPUs below n were loaded, from the first upwards, and each had acknowledged the issue
abbrev pub Acknowledged : ℕ → ℕ → View → ℕ → View → Type 0
Acknowledged slot issue v zero w = v ≡ w
Acknowledged slot issue v (suc n) w = (u : View) × (a : ℕ) × Acknowledged slot issue v n u × LoadedAck n slot u a w × (issue < a)

-- so were those below some CPU's, which had not acknowledged it
abbrev pub MissesOne : Config → ℕ → ℕ → View → View → Type 0
MissesOne k slot issue v w =
    (c : ℕ) × (a : ℕ) × (u : View) × (c < k.cpus) × Acknowledged slot issue v c u × LoadedAck c slot u a w × (a ≤ issue)

-- whether all have, by such loads
abbrev pub IsAcknowledgedBy : Bool → Config → ℕ → ℕ → View → View → Type 0
IsAcknowledgedBy all k slot issue v w = MatchBool all (Acknowledged slot issue v k.cpus w) (MissesOne k slot issue v w)

-- one slot: its word is loaded; where that is decided and waits for every CPU, the acknowledgements, up to the first that is
-- missing; and where none is, the exchange, which releases it
pub data CleanedSlot (k : Config) (slot : ℕ) (v : View) : Bool → View → Type 0 where
  waits_for_none : {shown : SlotState} {w : View} → LookedWord slot v shown w → awaits shown.code ≡ false → CleanedSlot k slot v false w
  waits_for_one : {shown : SlotState} {u w : View} → LookedWord slot v shown u → awaits shown.code ≡ true → MissesOne k slot shown.issue u w
      → CleanedSlot k slot v false w
  released : {shown : SlotState} {u x w : View} → LookedWord slot v shown u → awaits shown.code ≡ true → Acknowledged slot shown.issue u k.cpus x
      → ReapedWord slot x shown true w → CleanedSlot k slot v true w

-- the slots up to the nth, from the first upwards, and which of them were released, the last at the head
abbrev pub CleanedSlots : Config → View → ℕ → List ℕ → View → Type 0
CleanedSlots k v zero slots w = (slots ≡ []) × (v ≡ w)
CleanedSlots k v (suc n) slots w =
    (before : List ℕ) × (u : View) × (hit : Bool) × CleanedSlots k v n before u × CleanedSlot k (suc n) u hit w
    × (slots ≡ (if hit then suc n ∷ before else before))

-- a whole clean, which released so many slots: their Releases are all that it enters
pub record Cleaned (count : ℕ) (v w : View) : Type 0 where
  pub slots : List ℕ
  pub steps_made : CleanedSlots v.config v v.config.nspec slots w
  pub number : count ≡ length slots
  pub own : w.own ≡ map Release slots ++ v.own
  pub asks : w.asks ≡ v.asks
  pub few : w.steps ≤ v.steps + v.config.nspec * (v.config.cpus + 2)
