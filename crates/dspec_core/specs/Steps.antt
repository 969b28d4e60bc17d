-- Serves proofs. What each atomic step of a call in flight makes of a machine: the play's step, by what the machine shows.
use Rattle.std.specs.Prelude.{ℕ, List, slice_set, Option}
use Rattle.dspec_core.specs.Machines.{ConsumerMakes, history, state_of}
use Rattle.dspec_core.specs.Words.Outside.{Piece, ConsumerStep, consumer_step, takes_at, PlayState, progress_of, Answer, CpuProgress, ConsumerFlight, Spare}
use Rattle.dspec_core.specs.declared.machine.Machine.{Machine}

module _ {S B : Type 0} (m : Machine S B) where
  -- a CPU's side of the play that the machine shows
  abbrev pub progress_at : ℕ → CpuProgress
  progress_at c = progress_of (state_of m).progresses c

  -- what a play knows of the machine once that CPU's progress is changed so
  abbrev pub state_with : ℕ → (CpuProgress → CpuProgress) → PlayState
  state_with c change = record (state_of m) { progresses = slice_set (state_of m).progresses c (change (progress_at c)) }

-- a take of a CPU's batch, by where its second buffer is
abbrev pub takes_batch : {S B : Type 0} → Machine S B → ℕ → Spare → ConsumerStep
takes_batch m c place = takes_at m.config (history m) m.consumer (state_of m).progresses c (progress_at m c) place

-- the step of the consumer whose call is at that place makes this of a machine, with that answer
abbrev pub ConsumerStepsAs : {S B : Type 0} → (B → S → List Piece → Type 0) → (B → ℕ) → Machine S B → Machine S B → ConsumerFlight → Option Answer → Type 0
ConsumerStepsAs has capacity m n f answer = ConsumerMakes has capacity m n (consumer_step m.config (history m) m.consumer (state_of m).progresses f) answer
