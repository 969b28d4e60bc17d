-- Cited by calls. The deeds that a seat's step enters, the latest first: those of the table of steps, by what was measured for the call in flight
-- and by what the step showed.
use Rattle.std.specs.Prelude.{ℕ, Bool, true, false, List, [], ◌∷◌}
use Rattle.dspec_table.specs.Words.Outside.{SlotState, Measured, call_step, idle_progress, Inactive, Config, CpuOp, Deed, Halt, CallPlace}
use Rattle.dspec_table.specs.declared.doing.Doing.{Doing}
use Rattle.dspec_deeds.specs.declared.calls.CpuOp.TheVariants as op
use Rattle.dspec_interleaving.specs.declared.flight.CallPlace.TheVariants as cpu

abbrev pub nothing : Doing
nothing = record { op = op.Service; fits = false; count = 0; mine = false }

-- what a step at the words measures: it is of a call that isn't worn, and seals nothing
abbrev pub seen : Doing → Bool → (ℕ → SlotState) → (ℕ → SlotState → Bool) → Measured
seen doing stopped word hits = record {
  worn = false;
  stopped = stopped;
  word = word;
  hits = hits;
  acked = λ s. 0;
  mine = λ id. doing.mine;
  traces = λ r. doing.fits;
  keeps = λ id r. doing.fits;
  copies = λ id. doing.fits;
  count = λ id. doing.count;
  missed_busy = λ s busy. busy;
  seals = 0;
}

-- of a step that showed this word, the one that it expected or another
abbrev pub shown : Doing → SlotState → Bool → Measured
shown doing w hit = seen doing false (λ s. w) (λ s from. hit)

abbrev pub deeds_at : Config → ℕ → Measured → CallPlace → List Deed
deeds_at k c m f = (call_step k c m idle_progress f).deeds

-- where a call is that loads a slot's word: one that isn't about a speculation looks at it as a service does
abbrev pub loading : ℕ → CpuOp → CallPlace
loading s op.Speculation = cpu.ScanLoad s
loading s (op.Speculate id r) = cpu.SpeculateLoad id r
loading s (op.Commit id) = cpu.CommitLoad id
loading s (op.Discard id) = cpu.DiscardLoad id
loading s o = cpu.ServiceLoad s record { sealed = false; settled = 0 }

-- and one that exchanges it
abbrev pub trying : ℕ → SlotState → CpuOp → CallPlace
trying s w op.Speculation = cpu.ScanTry s w
trying s w (op.Speculate id r) = cpu.SpeculateTry id r w
trying s w (op.Commit id) = cpu.CommitTry id w
trying s w (op.Discard id) = cpu.DiscardTry id w
trying s w o = loading s o

-- a load of activity
abbrev pub at_activity : Config → ℕ → Doing → CpuOp → Bool → List Deed
at_activity k c doing o stopped = deeds_at k c (seen doing stopped (λ s. record { issue = 0; code = Inactive }) (λ s from. false)) (cpu.Begun o)

-- a load of a slot's word
abbrev pub at_word : Config → ℕ → Doing → ℕ → SlotState → CpuOp → List Deed
at_word k c doing slot w o = deeds_at k c (shown doing w false) (loading slot o)

-- an exchange, which shows a word too: the one that it expected where it succeeded
abbrev pub at_exchange : Config → ℕ → Doing → ℕ → SlotState → Bool → CpuOp → List Deed
at_exchange k c doing slot w hit o = deeds_at k c (shown doing w hit) (trying slot w o)

-- the stop is a deed the first time
abbrev pub at_stop : Bool → List Deed
at_stop true = []
at_stop false = Halt ∷ []
