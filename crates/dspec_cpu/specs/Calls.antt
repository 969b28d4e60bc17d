-- Cited by calls. What the calls of a CPU did at the words, and the deeds of each by its answer.
use Rattle.std.specs.Prelude.{ℕ, ◌≡◌, Bool, true, false, List, [], ◌∷◌, ◌++◌, if◌then◌else◌, None}
use Rattle.dspec_cpu.specs.Words.Outside.{Record, Speculation, solo, Found, EnteredIn, Traced, Spoken, Decided, DecideFate, Deed, Trace, Speculate, Release, View}
use Rattle.dspec_deeds.specs.declared.calls.Traced.TheVariants as traced
use Rattle.dspec_deeds.specs.declared.calls.Spoken.TheVariants as spoken
use Rattle.dspec_deeds.specs.declared.calls.Decided.TheVariants as decided
use Rattle.dspec_deeds.specs.declared.deed.DecideFate.TheVariants as decide_fate
use Rattle.dspec_deeds.specs.declared.deed.SpeculateFate.TheVariants as speculate_fate
use Rattle.dspec_deeds.specs.declared.deed.TraceFate.TheVariants as trace_fate

-- steps of a seat, one after the other, that entered these deeds, the latest first: each found a legal list, of which the
-- seat's list was its part, and left a legal one; the deeds of a call, but for settlements and releases, after a load of activity of that
-- very call that was running, or with it
pub data Goes (v : View) : List Deed → View → Type 0 where
  rests : Goes v [] v
  steps : {u : View} {ds : List Deed} {place : ℕ} (w : View) (new all log : List Deed) → Goes v ds u → Found u log → EnteredIn place u log new w → all ≡ new ++ ds
      → Goes v all w

-- these deeds were done, and come in front of every list that the CPU had
pub record Does (ds : List Deed) (had : List Deed → Type 0) (v : View) (has : List Deed → Type 0) (w : View) : Type 0 where
  pub did : Goes v ds w
  pub list : (p : List Deed) → had p → has (ds ++ p)

-- the deeds of a call of trace that answered so
abbrev pub traced_deeds : ℕ → Record → Traced → List Deed
traced_deeds c r traced.Worn = []
traced_deeds c r traced.Kept = Trace c r trace_fate.Kept ∷ []
traced_deeds c r traced.Dropped = Trace c r trace_fate.Dropped ∷ []
traced_deeds c r traced.Stopped = Trace c r trace_fate.Stopped ∷ []

abbrev pub is_worn_trace : Traced → Bool
is_worn_trace traced.Worn = true
is_worn_trace a = false

-- the deeds of a call of speculate that answered so
abbrev pub spoken_deeds : ℕ → Speculation → Record → Spoken → List Deed
spoken_deeds c id r spoken.Worn = []
spoken_deeds c id r spoken.Kept = Speculate c id r speculate_fate.Kept ∷ []
spoken_deeds c id r spoken.Dropped = Speculate c id r speculate_fate.Dropped ∷ []
spoken_deeds c id r spoken.Void = Speculate c id r speculate_fate.Void ∷ []
spoken_deeds c id r spoken.Stopped = Speculate c id r speculate_fate.Stopped ∷ []

abbrev pub is_worn_spoken : Spoken → Bool
is_worn_spoken spoken.Worn = true
is_worn_spoken a = false

-- a decision, after which the CPU released the slot itself where it decided alone
abbrev pub decision : Bool → ℕ → Deed → List Deed
decision alone slot d = if alone then Release slot ∷ d ∷ [] else d ∷ []

-- the deeds of a call of commit or discard that answered so, of what deed a fate is of
abbrev pub decided_deeds : (DecideFate → Deed) → ℕ → Bool → Decided → List Deed
decided_deeds of slot alone decided.Worn = []
decided_deeds of slot alone decided.Stopped = of decide_fate.Stopped ∷ []
decided_deeds of slot alone decided.Void = of decide_fate.Void ∷ []
decided_deeds of slot alone (decided.Copied n) = decision alone slot (of (decide_fate.Copied n))
decided_deeds of slot alone (decided.Lost n) = decision alone slot (of (decide_fate.Lost n))
decided_deeds of slot alone (decided.Thrown n) = decision alone slot (of (decide_fate.Thrown n))

abbrev pub is_worn_decided : Decided → Bool
is_worn_decided decided.Worn = true
is_worn_decided a = false

-- the answer tells of a decision that was made
abbrev pub is_decision : Decided → Bool
is_decision (decided.Copied n) = true
is_decision (decided.Lost n) = true
is_decision (decided.Thrown n) = true
is_decision a = false

-- what a call of commit or discard did: where it decided and released nothing, others have to settle; and its deeds come in
-- front of every list that the CPU had
pub record Decides (of : DecideFate → Deed) (id : Speculation) (a : Decided) (had : List Deed → Type 0) (v : View) (has : List Deed → Type 0) (w : View) : Type 0 where
  pub alone : Bool
  pub did : Goes v (decided_deeds of id.slot alone a) w
  pub waits : is_decision a ≡ true → alone ≡ false → solo id w.seen ≡ None
  pub list : (p : List Deed) → had p → has (decided_deeds of id.slot alone a ++ p)
