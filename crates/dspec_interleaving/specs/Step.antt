-- Cited by calls. The one table of steps: what each atomic step of a CPU's call does, by the call in flight, what it was shown before,
-- and what the step measures. A play measures off its list of deeds; a CPU at the shared words by its own list and what its step shows.
use Rattle.std.specs.Prelude.{ℕ, ◌+◌, ◌==◌, ◌-◌, ◌^◌, nat_lt, min, Bool, true, false, ◌&&◌, List, [], ◌∷◌, if◌then◌else◌, Option, Some, None}
use Rattle.dspec_interleaving.specs.Words.Outside.{Record, is_inactive, is_decided, code_number, Speculation, SlotState, speculate_at, commit_at, discard_at, open_at, settle_at, is_fill, in_range}
use Rattle.dspec_interleaving.specs.Words.Outside.{committed_fate, settled_fate, answer_of, Act, Granted, Attempt, Config, Answer, CpuOp, Served, DecideFate, Deed, Trace, Scan, Opened, Miss}
use Rattle.dspec_interleaving.specs.Words.Outside.{Speculate, Commit, Discard, Settle, Seal, Release}
use Rattle.dspec_interleaving.specs.declared.flight.{CallPlace.CallPlace, CpuProgress.CpuProgress, Spare.Spare}
use Rattle.dspec_deeds.specs.declared.calls.Answer.TheVariants as answer
use Rattle.dspec_deeds.specs.declared.calls.CpuOp.TheVariants as cpu_op
use Rattle.dspec_deeds.specs.declared.calls.Decided.TheVariants as decided_answer
use Rattle.dspec_deeds.specs.declared.calls.Opening.TheVariants as opening
use Rattle.dspec_deeds.specs.declared.calls.Spoken.TheVariants as spoken_answer
use Rattle.dspec_deeds.specs.declared.calls.Traced.TheVariants as traced_answer
use Rattle.dspec_deeds.specs.declared.deed.DecideFate.TheVariants as decided
use Rattle.dspec_deeds.specs.declared.deed.SpeculateFate.TheVariants as spoken
use Rattle.dspec_deeds.specs.declared.deed.TraceFate.TheVariants as traced
use Rattle.dspec_interleaving.specs.declared.flight.CallPlace.TheVariants as cpu
use Rattle.dspec_interleaving.specs.declared.flight.Spare.TheVariants as spare

abbrev pub same_word : SlotState → SlotState → Bool
same_word v w = (v.issue == w.issue) && (code_number v.code == code_number w.code)

-- the exchange leads to a commit that waits for no other CPU
abbrev pub is_alone : Act → Bool
is_alone (Attempt to) = code_number to.code == 4
is_alone act = false

-- the exchange releases the slot
abbrev pub is_release : Act → Bool
is_release (Attempt to) = is_inactive to.code
is_release act = false

-- what a CPU's step may measure
pub record Measured : Type 0 where
  -- the CPU has entered as many calls as it may make: the next is worn
  pub worn : Bool
  -- the session is stopped
  pub stopped : Bool
  -- the word of a slot
  pub word : ℕ → SlotState
  -- the exchange of a slot's word finds the one that it expects
  pub hits : ℕ → SlotState → Bool
  -- the CPU's acknowledgement of a slot
  pub acked : ℕ → ℕ
  -- the CPU is a caller
  pub mine : Speculation → Bool
  -- a record fits the principal buffer
  pub traces : Record → Bool
  -- a record fits after what the CPU holds of the speculation
  pub keeps : Speculation → Record → Bool
  -- all that the CPU holds of the speculation fits the principal buffer
  pub copies : Speculation → Bool
  -- how many records the CPU holds of the speculation
  pub count : Speculation → ℕ
  -- with the slot that is missed now, which is decided or not, the call has missed one that is
  pub missed_busy : ℕ → Bool → Bool
  -- how many batches the CPU has sealed
  pub seals : ℕ

-- what a step of a CPU makes of its progress, the deeds that it enters, the latest first, and the answer where it is the
-- call's last
pub record CpuStep : Type 0 where
  pub progress : CpuProgress
  pub deeds : List Deed
  pub answer : Option Answer

module _ (me : CpuProgress) where
  -- the call goes on: the next step is at that place
  abbrev pub call_goes_on : List Deed → CallPlace → CpuStep
  call_goes_on ds f = record { progress = record me { flight = Some f; steps = me.steps + 1 }; deeds = ds; answer = None }

  abbrev pub ends : List Deed → Answer → CpuStep
  ends ds a = record { progress = record me { flight = None; steps = 0 }; deeds = ds; answer = Some a }

  -- a worn call ends and enters nothing; the count of such calls stays at the most that 64 bits hold
  abbrev pub wears : Answer → CpuStep
  wears a = record { progress = record me { flight = None; steps = 0; worn = min (me.worn + 1) (2 ^ 64 - 1) }; deeds = []; answer = Some a }

  -- the active buffer is sealed, and its push is next
  abbrev pub sealed_by : ℕ → CpuStep
  sealed_by c = record { progress = record me { flight = Some cpu.ServicePush; steps = me.steps + 1; spare = spare.Sealed }; deeds = Seal c ∷ []; answer = None }

  abbrev pub pushed : CpuStep
  pushed = record { progress = record me { flight = Some (cpu.ServiceLoad 1 record { sealed = true; settled = 0 }); steps = me.steps + 1; spare = spare.Handed }; deeds = []; answer = None }

module _ (k : Config) (c : ℕ) (m : Measured) (me : CpuProgress) where
  abbrev pub spoken_at : Speculation → Record → CpuStep
  spoken_at id r =
      if m.keeps id r then ends me (Speculate c id r spoken.Kept ∷ []) (answer.Spoken spoken_answer.Kept)
      else ends me (Speculate c id r spoken.Dropped ∷ []) (answer.Spoken spoken_answer.Dropped)

  -- what a word that was shown makes of a call, by the table: it ends, or the next step is an exchange that expects it
  abbrev pub shown_speculate : Speculation → Record → SlotState → Act → CpuStep
  shown_speculate id r w Granted = spoken_at id r
  shown_speculate id r w (Attempt to) = call_goes_on me [] (cpu.SpeculateTry id r w)
  shown_speculate id r w act = ends me (Speculate c id r spoken.Void ∷ []) (answer.Spoken spoken_answer.Void)

  abbrev pub shown_commit : Speculation → SlotState → Act → CpuStep
  shown_commit id w (Attempt to) = call_goes_on me [] (cpu.CommitTry id w)
  shown_commit id w act = ends me (Commit c id decided.Void ∷ []) (answer.Decided decided_answer.Void)

  abbrev pub shown_discard : Speculation → SlotState → Act → CpuStep
  shown_discard id w (Attempt to) = call_goes_on me [] (cpu.DiscardTry id w)
  shown_discard id w act = ends me (Discard c id decided.Void ∷ []) (answer.Decided decided_answer.Void)

  abbrev pub committing : Speculation → DecideFate
  committing id = committed_fate (m.copies id) (m.count id)

  -- an exchange that succeeds, by the word that the table attempts: a commit that waits for no other CPU releases next
  abbrev pub committed_by : Speculation → Act → CpuStep
  committed_by id act =
      if is_alone act then call_goes_on me (Commit c id (committing id) ∷ []) (cpu.CommitRelease id (committing id))
      else ends me (Commit c id (committing id) ∷ []) (answer_of (committing id))

  -- a discard by the one caller releases in the same step
  abbrev pub discarded_by : Speculation → Act → CpuStep
  discarded_by id act =
      if is_release act then ends me (Release id.slot ∷ Discard c id (decided.Thrown (m.count id)) ∷ []) (answer_of (decided.Thrown (m.count id)))
      else ends me (Discard c id (decided.Thrown (m.count id)) ∷ []) (answer_of (decided.Thrown (m.count id)))

  -- after the Miss of a slot: the next one, or the call has failed
  abbrev pub missed : ℕ → SlotState → CpuStep
  missed s w =
      if s == k.nspec then ends me (Miss c s (is_decided w.code) ∷ []) (answer.Opening (if m.missed_busy s (is_decided w.code) then opening.Busy else opening.Unavailable))
      else call_goes_on me (Miss c s (is_decided w.code) ∷ []) (cpu.ScanLoad (s + 1))

  abbrev pub shown_scan : ℕ → SlotState → Act → CpuStep
  shown_scan s w (Attempt to) = call_goes_on me [] (cpu.ScanTry s w)
  shown_scan s w act = missed s w

  -- the load of the ask, which seals where the CPU is asked and a spare is in hand
  abbrev pub asked : Bool → Spare → CpuStep
  asked false place = call_goes_on me [] (cpu.ServiceLoad 1 record { sealed = false; settled = 0 })
  asked true spare.InHand = sealed_by me c
  asked true place = call_goes_on me [] cpu.ServicePop

  -- the pop of a spare, which seals where one came
  abbrev pub popped : Spare → CpuStep
  popped spare.GivenBack = sealed_by me c
  popped place = call_goes_on me [] (cpu.ServiceLoad 1 record { sealed = false; settled = 0 })

  -- after a slot of a service: the next one, or the call has ended
  abbrev pub served : ℕ → List Deed → Served → CpuStep
  served s ds sum = if s == k.nspec then ends me ds (answer.Served sum) else call_goes_on me ds (cpu.ServiceLoad (s + 1) sum)

  abbrev pub shown_service : ℕ → Served → SlotState → Act → CpuStep
  shown_service s sum w Granted = call_goes_on me [] (cpu.ServiceStore s w sum)
  shown_service s sum w act = served s [] sum

  -- the load of a slot's word in a service
  abbrev pub loads_service : ℕ → Served → CpuStep
  loads_service s sum = shown_service s sum (m.word s) (settle_at (m.word s) (m.acked s))

  -- the load of activity; in a service that of the ask, or where a full buffer closes, that of the first slot's word
  abbrev pub begun : CpuOp → CpuStep
  begun (cpu_op.Trace r) =
      if m.worn then wears me (answer.Traced traced_answer.Worn)
      else if m.stopped then ends me (Trace c r traced.Stopped ∷ []) (answer.Traced traced_answer.Stopped)
      else if m.traces r then ends me (Trace c r traced.Kept ∷ []) (answer.Traced traced_answer.Kept)
      else ends me (Trace c r traced.Dropped ∷ []) (answer.Traced traced_answer.Dropped)
  begun cpu_op.Speculation =
      if m.worn then wears me (answer.Opening opening.Worn)
      else if m.stopped then ends me (Scan c false ∷ []) (answer.Opening opening.Stopped)
      else call_goes_on me (Scan c true ∷ []) (cpu.ScanLoad 1)
  begun (cpu_op.Speculate id r) =
      if m.worn then wears me (answer.Spoken spoken_answer.Worn)
      else if m.stopped then ends me (Speculate c id r spoken.Stopped ∷ []) (answer.Spoken spoken_answer.Stopped)
      else if in_range k id then call_goes_on me [] (cpu.SpeculateLoad id r)
      else ends me (Speculate c id r spoken.Void ∷ []) (answer.Spoken spoken_answer.Void)
  begun (cpu_op.Commit id) =
      if m.worn then wears me (answer.Decided decided_answer.Worn)
      else if m.stopped then ends me (Commit c id decided.Stopped ∷ []) (answer.Decided decided_answer.Stopped)
      else if in_range k id then call_goes_on me [] (cpu.CommitLoad id)
      else ends me (Commit c id decided.Void ∷ []) (answer.Decided decided_answer.Void)
  begun (cpu_op.Discard id) =
      if m.worn then wears me (answer.Decided decided_answer.Worn)
      else if m.stopped then ends me (Discard c id decided.Stopped ∷ []) (answer.Decided decided_answer.Stopped)
      else if in_range k id then call_goes_on me [] (cpu.DiscardLoad id)
      else ends me (Discard c id decided.Void ∷ []) (answer.Decided decided_answer.Void)
  begun cpu_op.Service =
      if is_fill k.policy then loads_service 1 record { sealed = false; settled = 0 }
      else asked (nat_lt m.seals me.want && nat_lt m.seals k.max_calls) me.spare

  -- one step of a CPU's call in flight
  abbrev pub call_step : CallPlace → CpuStep
  call_step (cpu.Begun o) = begun o
  call_step (cpu.ScanLoad s) = shown_scan s (m.word s) (open_at (m.word s) k.max_issues)
  call_step (cpu.ScanTry s from) =
      if m.hits s from then ends me (Opened c record { issue = from.issue; slot = s } ∷ []) (answer.Opening (opening.Id record { issue = from.issue; slot = s }))
      else missed s (m.word s)
  call_step (cpu.SpeculateLoad id r) = shown_speculate id r (m.word id.slot) (speculate_at (m.word id.slot) id (m.mine id))
  call_step (cpu.SpeculateTry id r from) =
      if m.hits id.slot from then spoken_at id r
      else shown_speculate id r (m.word id.slot) (speculate_at (m.word id.slot) id (m.mine id))
  call_step (cpu.CommitLoad id) = shown_commit id (m.word id.slot) (commit_at (m.word id.slot) id (m.mine id))
  call_step (cpu.CommitTry id from) =
      if m.hits id.slot from then committed_by id (commit_at from id (m.mine id))
      else shown_commit id (m.word id.slot) (commit_at (m.word id.slot) id (m.mine id))
  call_step (cpu.CommitRelease id f) = ends me (Release id.slot ∷ []) (answer_of f)
  call_step (cpu.DiscardLoad id) = shown_discard id (m.word id.slot) (discard_at (m.word id.slot) id (m.mine id))
  call_step (cpu.DiscardTry id from) =
      if m.hits id.slot from then discarded_by id (discard_at from id (m.mine id))
      else shown_discard id (m.word id.slot) (discard_at (m.word id.slot) id (m.mine id))
  call_step cpu.ServicePop = popped me.spare
  call_step cpu.ServicePush = pushed me
  call_step (cpu.ServiceLoad s sum) = loads_service s sum
  call_step (cpu.ServiceStore s w sum) =
      served s (Settle c record { issue = w.issue; slot = s }
      (settled_fate w.code (m.copies record { issue = w.issue; slot = s }) (m.count record { issue = w.issue; slot = s })) ∷ []) record { sealed = sum.sealed; settled = sum.settled + 1 }
