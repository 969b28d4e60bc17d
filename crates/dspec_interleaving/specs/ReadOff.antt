-- Serves proofs. What a call answers, read off the deeds that it entered, the latest first, and for the calls that move batches off what
-- its last step found.
use Rattle.std.specs.Prelude.{ℕ, ◌+◌, nat_lt, Bool, true, false, ◌||◌, List, [], ◌∷◌, if◌then◌else◌}
use Rattle.dspec_interleaving.specs.{Coherent.PlayState, Coherent.progress_of, Play.took, Whole.is_out, Words.Outside.Answer, Words.Outside.ConsumerOp, Words.Outside.CpuOp, Words.Outside.Deed}
use Rattle.dspec_interleaving.specs.{Words.Outside.Trace, Words.Outside.Scan, Words.Outside.Opened, Words.Outside.Miss, Words.Outside.Speculate, Words.Outside.Commit, Words.Outside.Discard}
use Rattle.dspec_interleaving.specs.{Words.Outside.Settle, Words.Outside.Seal, Words.Outside.Release, Words.Outside.SpeculateFate, Words.Outside.TraceFate, Words.Outside.answer_of}
use Rattle.dspec_interleaving.specs.{Words.Outside.seals, declared.flight.Spare.Spare}
use Rattle.dspec_deeds.specs.declared.calls.Answer.TheVariants as answer
use Rattle.dspec_deeds.specs.declared.calls.ConsumerOp.TheVariants as consumer_op
use Rattle.dspec_deeds.specs.declared.calls.CpuOp.TheVariants as cpu_op
use Rattle.dspec_deeds.specs.declared.calls.Decided.TheVariants as decided_answer
use Rattle.dspec_deeds.specs.declared.calls.Opening.TheVariants as opening
use Rattle.dspec_deeds.specs.declared.calls.Spoken.TheVariants as spoken_answer
use Rattle.dspec_deeds.specs.declared.calls.Traced.TheVariants as traced_answer
use Rattle.dspec_deeds.specs.declared.deed.SpeculateFate.TheVariants as spoken
use Rattle.dspec_deeds.specs.declared.deed.TraceFate.TheVariants as traced
use Rattle.dspec_interleaving.specs.declared.flight.Spare.TheVariants as spare

abbrev pub told_trace : TraceFate → Answer
told_trace traced.Kept = answer.Traced traced_answer.Kept
told_trace traced.Dropped = answer.Traced traced_answer.Dropped
told_trace traced.Stopped = answer.Traced traced_answer.Stopped

abbrev pub told_spoken : SpeculateFate → Answer
told_spoken spoken.Kept = answer.Spoken spoken_answer.Kept
told_spoken spoken.Dropped = answer.Spoken spoken_answer.Dropped
told_spoken spoken.Void = answer.Spoken spoken_answer.Void
told_spoken spoken.Stopped = answer.Spoken spoken_answer.Stopped

-- the fate of the call's one record
abbrev pub of_trace : List Deed → Answer
of_trace (Trace c r f ∷ ds) = told_trace f
of_trace ds = answer.Traced traced_answer.Worn

abbrev pub of_speculate : List Deed → Answer
of_speculate (Speculate c id r f ∷ ds) = told_spoken f
of_speculate ds = answer.Spoken spoken_answer.Worn

-- one of the slots that the call missed was decided
abbrev pub is_busy_among : List Deed → Bool
is_busy_among [] = false
is_busy_among (Miss c s busy ∷ ds) = busy || is_busy_among ds
is_busy_among (d ∷ ds) = is_busy_among ds

-- what was given out; after the Miss of the last slot, which of two ways the call failed
abbrev pub of_speculation : List Deed → Answer
of_speculation [] = answer.Opening opening.Worn
of_speculation (Opened c id ∷ ds) = answer.Opening (opening.Id id)
of_speculation (Scan c running ∷ ds) = answer.Opening opening.Stopped
of_speculation ds = answer.Opening (if is_busy_among ds then opening.Busy else opening.Unavailable)

-- the fate of the decision, with its Release or without
abbrev pub of_decision : List Deed → Answer
of_decision (Release s ∷ Commit c id f ∷ ds) = answer_of f
of_decision (Release s ∷ Discard c id f ∷ ds) = answer_of f
of_decision (Commit c id f ∷ ds) = answer_of f
of_decision (Discard c id f ∷ ds) = answer_of f
of_decision ds = answer.Decided decided_answer.Worn

abbrev pub has_seal : List Deed → Bool
has_seal [] = false
has_seal (Seal c ∷ ds) = true
has_seal (d ∷ ds) = has_seal ds

abbrev pub count_of_settlement : Deed → ℕ
count_of_settlement (Settle c id f) = 1
count_of_settlement d = 0

abbrev pub settle_count : List Deed → ℕ
settle_count [] = 0
settle_count (d ∷ ds) = settle_count ds + count_of_settlement d

abbrev pub count_of_release : Deed → ℕ
count_of_release (Release s) = 1
count_of_release d = 0

abbrev pub release_count : List Deed → ℕ
release_count [] = 0
release_count (d ∷ ds) = release_count ds + count_of_release d

-- the answer of a CPU's call that entered these deeds
abbrev pub answer_of_cpu : CpuOp → List Deed → Answer
answer_of_cpu (cpu_op.Trace r) ds = of_trace ds
answer_of_cpu cpu_op.Speculation ds = of_speculation ds
answer_of_cpu (cpu_op.Speculate id r) ds = of_speculate ds
answer_of_cpu (cpu_op.Commit id) ds = of_decision ds
answer_of_cpu (cpu_op.Discard id) ds = of_decision ds
answer_of_cpu cpu_op.Service ds = answer.Served record { sealed = has_seal ds; settled = settle_count ds }

-- a sealed batch is still to be pushed
abbrev pub is_unpushed : Spare → Bool
is_unpushed spare.Sealed = true
is_unpushed place = false

-- a take gives the next batch, and none exactly where each batch sealed is taken or still to be pushed
abbrev pub take_answer : ℕ → PlayState → Answer
take_answer c st =
    if is_unpushed (progress_of st.progresses c).spare then answer.TookNone
    else if nat_lt (progress_of st.progresses c).takes (seals c st.deeds) then took (progress_of st.progresses c).takes c st.deeds
    else answer.TookNone

-- the answer of the consumer's call that entered these deeds, and whose last step found this
abbrev pub answer_of_consumer : ConsumerOp → PlayState → List Deed → Answer
answer_of_consumer (consumer_op.Ask c) st ds = answer.AskDone
answer_of_consumer (consumer_op.Take c) st ds = take_answer c st
answer_of_consumer (consumer_op.GiveBack c) st ds = answer.GaveBack (is_out (progress_of st.progresses c).spare)
answer_of_consumer consumer_op.Clean st ds = answer.Cleaned (release_count ds)
answer_of_consumer consumer_op.Stop st ds = answer.StopDone
