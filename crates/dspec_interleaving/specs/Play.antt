-- Cited by calls. A play: what each atomic step does, by the call in flight, what it was shown before, and the list of deeds so far.
-- Every word, acknowledgement and activity that a step is shown is read off the list.
use Rattle.std.specs.Prelude.{ℕ, ◌+◌, ◌==◌, nat_le, nat_lt, Bool, true, false, List, [], ◌∷◌, length, reverse, slice_index_or, slice_set, Option, Some, None, if◌then◌else◌}
use Rattle.dspec_interleaving.specs.Coherent.{progress_of}
use Rattle.dspec_interleaving.specs.Step.{Measured, CpuStep, same_word, call_step}
use Rattle.dspec_interleaving.specs.Words.Outside.{Shape, one, awaits, SlotState, halted, is_among, callers, word_at, ack, calls, seals, batches, taken, Sealing, empty_batch, fits_principal}
use Rattle.dspec_interleaving.specs.Words.Outside.{fits_speculative, missed_busy, fits_held, held, Config, Answer, ConsumerOp, Deed, Miss, Release, Halt}
use Rattle.dspec_interleaving.specs.declared.flight.{CallPlace.CallPlace, ConsumerFlight.ConsumerFlight, ConsumerProgress.ConsumerProgress, CpuProgress.CpuProgress, Spare.Spare}
use Rattle.dspec_deeds.specs.declared.calls.Answer.TheVariants as answer
use Rattle.dspec_deeds.specs.declared.calls.ConsumerOp.TheVariants as consumer_op
use Rattle.dspec_interleaving.specs.declared.flight.ConsumerFlight.TheVariants as consumer
use Rattle.dspec_interleaving.specs.declared.flight.Spare.TheVariants as spare

-- the CPU has entered as many calls as it may make: the next is worn
abbrev pub is_worn : Config → ℕ → List Deed → Bool
is_worn k c h = nat_le k.max_calls (calls c h)

-- what a step of the CPU measures off the list
abbrev pub measured : (ℕ → Option Shape) → Config → ℕ → List Deed → Measured
measured shape k c h = record {
  worn = is_worn k c h;
  stopped = halted h;
  word = λ s. word_at s h;
  hits = λ s from. same_word (word_at s h) from;
  acked = λ s. ack c s h;
  mine = λ id. is_among c (callers id h);
  traces = λ r. fits_principal shape k c (one r) h;
  keeps = λ id r. fits_speculative shape k c id r h;
  copies = λ id. fits_held shape k c h id;
  count = λ id. length (held c id h);
  missed_busy = λ s busy. missed_busy c (Miss c s busy ∷ h);
  seals = seals c h;
}

-- one step of a CPU's call in flight
abbrev pub cpu_step : (ℕ → Option Shape) → Config → ℕ → List Deed → CpuProgress → CallPlace → CpuStep
cpu_step shape k c h me f = call_step k c (measured shape k c h) me f

-- what a step of the consumer makes of its own progress and of a CPU's, the deeds that it enters, and the answer
pub record ConsumerStep : Type 0 where
  pub side : ConsumerProgress
  pub progresses : List CpuProgress
  pub deeds : List Deed
  pub answer : Option Answer

-- the batch that the consumer takes of the CPU next, once so many are taken
abbrev pub batch_at : ℕ → ℕ → List Deed → Sealing
batch_at c n h = slice_index_or (reverse (batches c h)) n empty_batch

abbrev pub took : ℕ → ℕ → List Deed → Answer
took n c h = answer.Took (batch_at c n h).drops (length (taken n c h)) (length (batch_at c n h).offers)

module _ (k : Config) (h : List Deed) (side : ConsumerProgress) (all : List CpuProgress) where
  abbrev pub keeps_on : List Deed → ConsumerFlight → ConsumerStep
  keeps_on ds f = record { side = record { flight = Some f; steps = side.steps + 1 }; progresses = all; deeds = ds; answer = None }

  abbrev pub stops : List Deed → Answer → ConsumerStep
  stops ds a = record { side = record { flight = None; steps = 0 }; progresses = all; deeds = ds; answer = Some a }

  -- the call is about one CPU's progress, which it changes
  abbrev pub changes : ℕ → CpuProgress → Answer → ConsumerStep
  changes c me a = record { side = record { flight = None; steps = 0 }; progresses = slice_set all c me; deeds = []; answer = Some a }

  -- a take finds what was pushed, and gives the next batch
  abbrev pub takes_at : ℕ → CpuProgress → Spare → ConsumerStep
  takes_at c me spare.Handed = changes c (record me { spare = spare.Out; takes = me.takes + 1 }) (took me.takes c h)
  takes_at c me place = stops [] answer.TookNone

  abbrev pub gives_at : ℕ → CpuProgress → Spare → ConsumerStep
  gives_at c me spare.Out = changes c (record me { spare = spare.GivenBack }) (answer.GaveBack true)
  gives_at c me place = stops [] (answer.GaveBack false)

  -- after a slot of a clean, of which so many were released: the next one, or the call has ended
  abbrev pub next_slot : ℕ → List Deed → ℕ → ConsumerStep
  next_slot s ds n = if s == k.nspec then stops ds (answer.Cleaned n) else keeps_on ds (consumer.CleanLoad (s + 1) n)

  abbrev pub loads_slot : ℕ → ℕ → ConsumerStep
  loads_slot s n = if awaits (word_at s h).code then keeps_on [] (consumer.CleanAck s (word_at s h) 0 n) else next_slot s [] n

  -- an acknowledgement: the next CPU's, or the exchange, or it is missing
  abbrev pub loads_ack : ℕ → SlotState → ℕ → ℕ → ConsumerStep
  loads_ack s w c n =
      if nat_lt w.issue (ack c s h) then
      (if c + 1 == k.cpus then keeps_on [] (consumer.CleanReap s w n) else keeps_on [] (consumer.CleanAck s w (c + 1) n))
      else next_slot s [] n

  abbrev pub reaps : ℕ → SlotState → ℕ → ConsumerStep
  reaps s w n = if same_word (word_at s h) w then next_slot s (Release s ∷ []) (n + 1) else next_slot s [] n

  abbrev pub consumer_begun : ConsumerOp → ConsumerStep
  consumer_begun (consumer_op.Ask c) = changes c (record (progress_of all c) { want = (progress_of all c).takes + 1 }) answer.AskDone
  consumer_begun (consumer_op.Take c) = takes_at c (progress_of all c) (progress_of all c).spare
  consumer_begun (consumer_op.GiveBack c) = gives_at c (progress_of all c) (progress_of all c).spare
  consumer_begun consumer_op.Clean = loads_slot 1 0
  consumer_begun consumer_op.Stop = if halted h then stops [] answer.StopDone else stops (Halt ∷ []) answer.StopDone

  -- one step of the consumer's call in flight
  abbrev pub consumer_step : ConsumerFlight → ConsumerStep
  consumer_step (consumer.Begun o) = consumer_begun o
  consumer_step (consumer.CleanLoad s n) = loads_slot s n
  consumer_step (consumer.CleanAck s w c n) = loads_ack s w c n
  consumer_step (consumer.CleanReap s w n) = reaps s w n
