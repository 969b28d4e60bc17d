-- Serves proofs. The deeds of a step of a play, and those of the same step of a seat at the words.
use Rattle.std.specs.Prelude.{ℕ, ◌≡◌, ◌≤◌, ◌<◌, ◌+◌, Bool, true, false, List, [], ◌∷◌, ◌++◌, Option, ◌⊎◌, if◌then◌else◌}
use Rattle.dspec_table.specs.{Acts.seen, Acts.deeds_at, Acts.at_stop, Asks.LoadedAsk, Asks.StoredAsk, Holders.number_of, Steps.LoadedActivity, Steps.LoadedWord, Steps.OpenedWord, Steps.TriedWord}
use Rattle.dspec_table.specs.{Steps.ReleasedWord, Steps.SettledWord, Steps.StoredActivity, Steps.LookedWord, Steps.LoadedAck, Steps.ReapedWord, Words.Outside.Shape, Words.Outside.Speculation}
use Rattle.dspec_table.specs.{Words.Outside.SlotState, Words.Outside.word_number, Words.Outside.halted, Words.Outside.is_among, Words.Outside.callers, Words.Outside.part, Words.Outside.word_at}
use Rattle.dspec_table.specs.{Words.Outside.IsSound, Words.Outside.mark, Words.Outside.bare, Words.Outside.Measured, Words.Outside.measured, Words.Outside.op_of, Words.Outside.same_word}
use Rattle.dspec_table.specs.{Words.Outside.cpu_step, Words.Outside.consumer_step, Words.Outside.is_told_worn, Words.Outside.Config, Words.Outside.Cpu, Words.Outside.Deed, Words.Outside.Release}
use Rattle.dspec_table.specs.{Words.Outside.CpuProgress, Words.Outside.ConsumerFlight, Words.Outside.ConsumerProgress, Words.Outside.CallPlace, declared.doing.Doing.Doing, declared.rule.View.View}
use Rattle.dspec_deeds.specs.declared.calls.CpuOp.TheVariants as cpu_op
use Rattle.dspec_interleaving.specs.declared.flight.ConsumerFlight.TheVariants as consumer
use Rattle.dspec_interleaving.specs.declared.flight.CallPlace.TheVariants as cpu
use Rattle.dspec_deeds.specs.declared.calls.ConsumerOp.TheVariants as consumer_op

-- what a seat's step measures where its words show that list
abbrev pub seat_reads : Doing → List Deed → Measured
seat_reads doing h = seen doing (halted h) (λ s. word_at s h) (λ s from. same_word (word_at s h) from)

-- a play's step at a place enters, Seals apart, what the seat's step enters there by the activity and the words that the list shows
abbrev pub EntersSame : (ℕ → Option Shape) → Config → ℕ → List Deed → CpuProgress → CallPlace → Doing → Type 0
EntersSame shape k c h me f doing = bare (cpu_step shape k c h me f).deeds ≡ deeds_at k c (seat_reads doing (bare h)) f

-- whether the CPU is a caller, where the identifier isn't older than the last speculation of the slot that was granted to it
abbrev pub IsMine : ℕ → List Deed → Speculation → Doing → Type 0
IsMine c h id doing = mark c id.slot h ≤ id.issue + 1 → doing.mine ≡ is_among c (callers id h)

-- by what was measured off a list, and the marks that it shows
module _ (m : Measured) (marks : ℕ → ℕ) where
  abbrev pub MeasuresBlock : Speculation → Doing → Type 0
  MeasuresBlock id doing = (doing.fits ≡ m.copies id) × (doing.count ≡ m.count id)

  abbrev pub MeasuresMine : Speculation → Doing → Type 0
  MeasuresMine id doing = marks id.slot ≤ id.issue + 1 → doing.mine ≡ m.mine id

  -- what was measured for the call is what the step measures there
  abbrev pub Measures : Doing → CallPlace → Type 0
  Measures doing (cpu.Begun (cpu_op.Trace r)) = doing.fits ≡ m.traces r
  Measures doing (cpu.SpeculateLoad id r) = (doing.fits ≡ m.keeps id r) × MeasuresMine id doing
  Measures doing (cpu.SpeculateTry id r from) = (doing.fits ≡ m.keeps id r) × MeasuresMine id doing
  Measures doing (cpu.CommitLoad id) = MeasuresMine id doing
  Measures doing (cpu.CommitTry id from) = MeasuresBlock id doing × MeasuresMine id doing
  Measures doing (cpu.DiscardLoad id) = MeasuresMine id doing
  Measures doing (cpu.DiscardTry id from) = (doing.count ≡ m.count id) × MeasuresMine id doing
  Measures doing (cpu.ServiceStore s w sum) = MeasuresBlock record { issue = w.issue; slot = s } doing
  Measures doing f = Unit {0}

-- a CPU's call in flight, which isn't worn, and what its seat has of it, measured by the CPU's own list
pub record IsSameCall (shape : ℕ → Option Shape) (k : Config) (c : ℕ) (h : List Deed) (me : CpuProgress) (f : CallPlace) (doing : Doing) : Type 0 where
  pub sound : IsSound k h
  pub worn : is_told_worn (cpu_step shape k c h me f).answer ≡ false
  pub op : doing.op ≡ op_of f
  pub measured : Measures (measured shape k c (part (Cpu c) h)) (λ s. mark c s (part (Cpu c) h)) doing f

-- the consumer's: the deeds that its seat enters, by the word that its step shows
abbrev pub slot_there : ConsumerFlight → ℕ
slot_there (consumer.CleanReap s w n) = s
slot_there f = 0

abbrev pub consumer_deeds : Bool → SlotState → ConsumerFlight → List Deed
consumer_deeds stopped shown (consumer.Begun consumer_op.Stop) = at_stop stopped
consumer_deeds stopped shown (consumer.CleanReap s w n) = if same_word shown w then Release s ∷ [] else []
consumer_deeds stopped shown f = []

-- those that it enters by the activity and the word that a list shows
abbrev pub deeds_cleaned : List Deed → ConsumerFlight → List Deed
deeds_cleaned h f = consumer_deeds (halted (bare h)) (word_at (slot_there f) (bare h)) f

-- an exchange, as the words' functions promise it: it hits at the word that it expected, or misses at a greater one, which it shows
abbrev pub Exchanges : (SlotState → Bool → Type 0) → SlotState → Type 0
Exchanges P from = P from true ⊎ ((shown : SlotState) × (word_number from < word_number shown) × P shown false)

-- the step on the words that a seat makes at each place of a call, as the words' functions promise it
abbrev pub SeatStep : Doing → View → CallPlace → View → Type 0
SeatStep doing v (cpu.Begun cpu_op.Service) w = ((shown : SlotState) × LoadedWord doing 1 v shown w) ⊎ ((n : ℕ) × LoadedAsk (number_of v.who) v n w)
SeatStep doing v (cpu.Begun o) w = (stopped : Bool) × LoadedActivity doing v stopped w
SeatStep doing v (cpu.ScanLoad s) w = (shown : SlotState) × LoadedWord doing s v shown w
SeatStep doing v (cpu.ScanTry s from) w = Exchanges (λ shown hit. OpenedWord s v shown hit w) from
SeatStep doing v (cpu.SpeculateLoad id r) w = (shown : SlotState) × LoadedWord doing id.slot v shown w
SeatStep doing v (cpu.SpeculateTry id r from) w = Exchanges (λ shown hit. TriedWord doing id.slot v shown hit w) from
SeatStep doing v (cpu.CommitLoad id) w = (shown : SlotState) × LoadedWord doing id.slot v shown w
SeatStep doing v (cpu.CommitTry id from) w = Exchanges (λ shown hit. TriedWord doing id.slot v shown hit w) from
SeatStep doing v (cpu.CommitRelease id f) w = ReleasedWord id.slot v w
SeatStep doing v (cpu.DiscardLoad id) w = (shown : SlotState) × LoadedWord doing id.slot v shown w
SeatStep doing v (cpu.DiscardTry id from) w = Exchanges (λ shown hit. TriedWord doing id.slot v shown hit w) from
SeatStep doing v cpu.ServicePop w = ⊥
SeatStep doing v cpu.ServicePush w = ⊥
SeatStep doing v (cpu.ServiceLoad s sum) w = (shown : SlotState) × LoadedWord doing s v shown w
SeatStep doing v (cpu.ServiceStore s from sum) w = (from ≡ word_at s v.seen) × SettledWord doing record { issue = from.issue; slot = s } (word_at s v.seen).code v w

abbrev pub ConsumerSeatStep : View → ConsumerFlight → View → Type 0
ConsumerSeatStep v (consumer.Begun (consumer_op.Ask c)) w = (n : ℕ) × StoredAsk c n v w
ConsumerSeatStep v (consumer.Begun (consumer_op.Take c)) w = ⊥
ConsumerSeatStep v (consumer.Begun (consumer_op.GiveBack c)) w = ⊥
ConsumerSeatStep v (consumer.Begun consumer_op.Clean) w = (shown : SlotState) × LookedWord 1 v shown w
ConsumerSeatStep v (consumer.Begun consumer_op.Stop) w = StoredActivity v w
ConsumerSeatStep v (consumer.CleanLoad s n) w = (shown : SlotState) × LookedWord s v shown w
ConsumerSeatStep v (consumer.CleanAck s from c n) w = (acked : ℕ) × LoadedAck c s v acked w
ConsumerSeatStep v (consumer.CleanReap s from n) w = ReapedWord s v from true w

-- after a step of the play, whose list is h: Seals apart, its deeds are the seat's latest, and the seat has seen the play's list
pub record IsStepOfPlay (ds h : List Deed) (v w : View) : Type 0 where
  pub own : w.own ≡ bare ds ++ v.own
  pub seen : w.seen ≡ bare (ds ++ h)

-- a CPU's step at the words, which found the list `log`, is the play's step at the same place, whatever list, Seals apart, is `log`
abbrev pub IsCpuStepFrom : List Deed → Doing → View → CallPlace → View → Type 0
IsCpuStepFrom log doing v f w = (shape : ℕ → Option Shape) (h : List Deed) (me : CpuProgress) → bare h ≡ log → IsSameCall shape v.config (number_of v.who) h me f doing
    → IsStepOfPlay (cpu_step shape v.config (number_of v.who) h me f).deeds h v w

-- the same of the consumer's step
abbrev pub IsConsumerStepFrom : List Deed → View → ConsumerFlight → View → Type 0
IsConsumerStepFrom log v f w = (h : List Deed) (side : ConsumerProgress) (all : List CpuProgress) → bare h ≡ log
    → IsStepOfPlay (consumer_step v.config h side all f).deeds h v w
