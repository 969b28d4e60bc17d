-- Cited by calls. What holds between two steps of a play: the list is legal, and each call in flight stands where its deeds, and what it
-- was shown, have brought it.
use Rattle.std.specs.Prelude.{ℕ, ◌≡◌, ◌⊎◌, ◌+◌, ◌*◌, ◌-◌, ◌<◌, ◌≤◌, true, false, List, length, slice_index_or, Option, Some, None}
use Rattle.dspec_interleaving.specs.Words.Outside.{Shape, Act, Attempt, awaits, code_number, Speculation, SlotState, word_number, speculate_at, commit_at, discard_at, open_at, start_fault, is_fill}
use Rattle.dspec_interleaving.specs.Words.Outside.{committed, verdict, is_among, callers, in_range, issue, present, solo, scan, opened, opened_since, part, late, owed, settled, word_at, seals}
use Rattle.dspec_interleaving.specs.Words.Outside.{HasAuthors, IsAllowed, sealed_last, Config, Cpu, Deed}
use Rattle.dspec_interleaving.specs.declared.flight.{CallPlace.CallPlace, ConsumerFlight.ConsumerFlight, ConsumerProgress.ConsumerProgress, CpuProgress.CpuProgress, Spare.Spare}
use Rattle.dspec_interleaving.specs.declared.flight.ConsumerFlight.TheVariants as consumer
use Rattle.dspec_interleaving.specs.declared.flight.CallPlace.TheVariants as cpu
use Rattle.dspec_interleaving.specs.declared.flight.Spare.TheVariants as spare

abbrev pub IsSlot : Config → ℕ → Type 0
IsSlot k s = (1 ≤ s) × (s ≤ k.nspec)

-- a call on an identifier that was shown that the session runs
pub record OnItsWay (k : Config) (c : ℕ) (h : List Deed) (id : Speculation) : Type 0 where
  pub in_range : in_range k id ≡ true
  pub scans_not : scan k c h ≡ 0
  pub early : late c h ≡ false

-- the table attempts an exchange from the word that was shown, and words only rise
pub record Expects (act : Act) (from : SlotState) (id : Speculation) (h : List Deed) : Type 0 where
  pub to : SlotState
  pub attempts : act ≡ Attempt to
  pub rises : word_number from ≤ word_number (word_at id.slot h)

-- how many steps a call has made where it expects a word of that code
abbrev pub TriedBy : ℕ → SlotState → Type 0
TriedBy steps from = steps ≤ 1 + code_number from.code

abbrev pub StandsCpu : Config → ℕ → List Deed → CpuProgress → CallPlace → Type 0
StandsCpu k c h me (cpu.Begun o) = (scan k c h ≡ 0) × (me.steps ≡ 0)
StandsCpu k c h me (cpu.ScanLoad s) = IsSlot k s × (scan k c h ≡ s) × (me.steps ≤ 2 * s - 1)
StandsCpu k c h me (cpu.ScanTry s from) =
    IsSlot k s × (scan k c h ≡ s) × (me.steps ≤ 2 * s) × ((to : SlotState) × (open_at from k.max_issues ≡ Attempt to))
    × ((word_at s h ≡ from) ⊎ (opened_since c s h ≡ true))
StandsCpu k c h me (cpu.SpeculateLoad id r) = OnItsWay k c h id × (me.steps ≡ 1)
StandsCpu k c h me (cpu.SpeculateTry id r from) = OnItsWay k c h id × Expects (speculate_at from id (is_among c (callers id h))) from id h × TriedBy me.steps from
StandsCpu k c h me (cpu.CommitLoad id) = OnItsWay k c h id × (me.steps ≡ 1)
StandsCpu k c h me (cpu.CommitTry id from) = OnItsWay k c h id × Expects (commit_at from id (is_among c (callers id h))) from id h × TriedBy me.steps from
StandsCpu k c h me (cpu.CommitRelease id f) =
    IsSlot k id.slot × (scan k c h ≡ 0) × (verdict id h ≡ committed c) × (solo id h ≡ Some c) × (opened id h ≡ true) × (id.issue ≡ issue id.slot h)
    × (sealed_last (part (Cpu c) h) ≡ false) × (me.steps ≤ 4)
StandsCpu k c h me (cpu.DiscardLoad id) = OnItsWay k c h id × (me.steps ≡ 1)
StandsCpu k c h me (cpu.DiscardTry id from) = OnItsWay k c h id × Expects (discard_at from id (is_among c (callers id h))) from id h × TriedBy me.steps from
StandsCpu k c h me cpu.ServicePop = (scan k c h ≡ 0) × (me.steps ≡ 1) × (seals c h < k.max_calls) × (is_fill k.policy ≡ false)
StandsCpu k c h me cpu.ServicePush = (scan k c h ≡ 0) × (me.steps ≤ 2) × (me.spare ≡ spare.Sealed)
StandsCpu k c h me (cpu.ServiceLoad s sum) = IsSlot k s × (scan k c h ≡ 0) × (me.steps ≤ 1 + 2 * s) × (sum.settled < s)
StandsCpu k c h me (cpu.ServiceStore s w sum) =
    IsSlot k s × (scan k c h ≡ 0) × (me.steps ≤ 2 + 2 * s) × (sum.settled < s)
    × (word_at s h ≡ w) × (awaits w.code ≡ true) × (settled c (present s h) h ≡ false)

-- where no call is in flight
abbrev pub StandsProgress : Config → ℕ → List Deed → CpuProgress → Option CallPlace → Type 0
StandsProgress k c h me None = (scan k c h ≡ 0) × (me.steps ≡ 0)
StandsProgress k c h me (Some f) = StandsCpu k c h me f

-- the consumer's call in flight: what a decided slot waits for was seen of each CPU before
abbrev pub SettledBelow : ℕ → ℕ → SlotState → List Deed → Type 0
SettledBelow n s w h = (word_at s h ≡ w) × (awaits w.code ≡ true) × ((c : ℕ) → c < n → settled c (present s h) h ≡ true)

abbrev pub StandsConsumer : Config → List Deed → ConsumerProgress → ConsumerFlight → Type 0
StandsConsumer k h side (consumer.Begun o) = side.steps ≡ 0
StandsConsumer k h side (consumer.CleanLoad s n) = IsSlot k s × (n < s) × (side.steps ≤ (s - 1) * (k.cpus + 2))
StandsConsumer k h side (consumer.CleanAck s w c n) = IsSlot k s × (n < s) × (c < k.cpus) × SettledBelow c s w h × (side.steps ≤ (s - 1) * (k.cpus + 2) + 1 + c)
StandsConsumer k h side (consumer.CleanReap s w n) = IsSlot k s × (n < s) × SettledBelow k.cpus s w h × (side.steps ≤ (s - 1) * (k.cpus + 2) + 1 + k.cpus)

abbrev pub StandsState : Config → List Deed → ConsumerProgress → Option ConsumerFlight → Type 0
StandsState k h side None = side.steps ≡ 0
StandsState k h side (Some f) = StandsConsumer k h side f

-- the batches sealed and taken, by where the second buffer is
abbrev pub SpareCounts : ℕ → ℕ → Spare → Type 0
SpareCounts sealed takes spare.InHand = (sealed ≡ 0) × (takes ≡ 0)
SpareCounts sealed takes spare.Sealed = sealed ≡ takes + 1
SpareCounts sealed takes spare.Handed = sealed ≡ takes + 1
SpareCounts sealed takes spare.Out = sealed ≡ takes
SpareCounts sealed takes spare.GivenBack = sealed ≡ takes

-- a sealed buffer is pushed by the service that sealed it
abbrev pub PushesNext : Spare → Option CallPlace → Type 0
PushesNext spare.Sealed f = f ≡ Some cpu.ServicePush
PushesNext place f = Unit {0}

pub record ProgressStands (k : Config) (c : ℕ) (h : List Deed) (me : CpuProgress) : Type 0 where
  pub flight : StandsProgress k c h me me.flight
  pub counts : SpareCounts (seals c h) me.takes me.spare
  pub pushes : PushesNext me.spare me.flight
  pub want : me.want ≤ me.takes + 1

-- the progress of a CPU that has made no call
abbrev pub idle_progress : CpuProgress
idle_progress = record { flight = None; steps = 0; spare = spare.InHand; want = 0; takes = 0; worn = 0 }

abbrev pub progress_of : List CpuProgress → ℕ → CpuProgress
progress_of all c = slice_index_or all c idle_progress

-- a play's state: the list, each CPU's progress and the consumer's
pub record PlayState : Type 0 where
  pub config : Config
  pub deeds : List Deed
  pub progresses : List CpuProgress
  pub side : ConsumerProgress

pub record IsCoherent (shape : ℕ → Option Shape) (st : PlayState) : Type 0 where
  pub ranges : start_fault st.config ≡ None
  pub count : length st.progresses ≡ st.config.cpus
  pub legal : IsAllowed shape st.config st.deeds
  pub authors : HasAuthors st.config st.deeds
  pub rests : owed st.deeds ≡ 0
  pub stands : (c : ℕ) → c < st.config.cpus → ProgressStands st.config c st.deeds (progress_of st.progresses c)
  pub side : StandsState st.config st.deeds st.side st.side.flight
