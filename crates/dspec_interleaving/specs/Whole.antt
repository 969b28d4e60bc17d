-- Cited by calls. Whole calls: what a call enters and answers where no other call overlaps it, said of the list that it finds.
use Prim.Native.Nat.{zero, suc}
use Rattle.std.specs.Prelude.{ℕ, ◌≡◌, ◌<◌, ◌⊎◌, ◌+◌, ◌-◌, ◌==◌, ◌^◌, nat_lt, min, Bool, true, false, not, ◌&&◌, ◌||◌, is_none, List, [], ◌∷◌, slice_set, if◌then◌else◌, Option, Some, None}
use Rattle.dspec_interleaving.specs.Coherent.{progress_of, PlayState}
use Rattle.dspec_interleaving.specs.Play.{is_worn, took}
use Rattle.dspec_interleaving.specs.Words.Outside.{Shape, one, Speculation, is_fill, halted, issue, present, Ruling, discarded, verdict, is_open, callers, is_sole, is_sole_or_none, solo, settled}
use Rattle.dspec_interleaving.specs.Words.Outside.{is_free, is_busy, seals, fits_principal, fits_speculative, commit_fate, discard_fate, answer_of, Config, Answer, ConsumerOp, CpuOp, DecideFate}
use Rattle.dspec_interleaving.specs.Words.Outside.{Deed, Trace, Scan, Opened, Miss, Speculate, Commit, Discard, Settle, Seal, Release, Halt}
use Rattle.dspec_interleaving.specs.declared.flight.{CpuProgress.CpuProgress, Spare.Spare}
use Rattle.dspec_deeds.specs.declared.calls.Answer.TheVariants as answer
use Rattle.dspec_deeds.specs.declared.calls.ConsumerOp.TheVariants as consumer_op
use Rattle.dspec_deeds.specs.declared.calls.CpuOp.TheVariants as cpu_op
use Rattle.dspec_deeds.specs.declared.calls.Decided.TheVariants as decided_answer
use Rattle.dspec_deeds.specs.declared.calls.Opening.TheVariants as opening
use Rattle.dspec_deeds.specs.declared.calls.Spoken.TheVariants as spoken_answer
use Rattle.dspec_deeds.specs.declared.calls.Traced.TheVariants as traced_answer
use Rattle.dspec_deeds.specs.declared.deed.DecideFate.TheVariants as decided
use Rattle.dspec_deeds.specs.declared.deed.SpeculateFate.TheVariants as spoken
use Rattle.dspec_deeds.specs.declared.deed.TraceFate.TheVariants as traced
use Rattle.dspec_interleaving.specs.declared.flight.Spare.TheVariants as spare

-- a batch that was taken is not given back
abbrev pub is_out : Spare → Bool
is_out spare.Out = true
is_out place = false

-- as many batches were given back as sealed: each was taken, and none is out
abbrev pub are_all_back : ℕ → CpuProgress → Bool
are_all_back sealed me = (sealed == me.takes) && not (is_out me.spare)

abbrev pub or_slot : Option ℕ → ℕ → Bool → Option ℕ
or_slot (Some s) n free = Some s
or_slot None n free = if free then Some n else None

-- what a whole call of a CPU leaves: the list, the CPU's own progress, and the answer
pub record WholeCpu : Type 0 where
  pub list : List Deed
  pub progress : CpuProgress
  pub answer : Answer

module _ (shape : ℕ → Option Shape) (k : Config) (c : ℕ) where
  -- the least free slot of the first n
  abbrev pub least_free : ℕ → List Deed → Option ℕ
  least_free zero h = None
  least_free (suc n) h = or_slot (least_free n h) (suc n) (is_free k (suc n) h)

  abbrev pub is_any_busy : ℕ → List Deed → Bool
  is_any_busy zero h = false
  is_any_busy (suc n) h = is_busy (suc n) h || is_any_busy n h

  -- the list once the first n slots are missed, upwards
  abbrev pub missed_up : ℕ → List Deed → List Deed
  missed_up zero h = h
  missed_up (suc n) h = Miss c (suc n) (is_busy (suc n) h) ∷ missed_up n h

  -- after its Scan a call opens the least free slot, or misses all
  abbrev pub gives : CpuProgress → List Deed → Option ℕ → WholeCpu
  gives me h (Some s) = record { list = Opened c (present s h) ∷ missed_up (s - 1) h; progress = me; answer = answer.Opening (opening.Id (present s h)) }
  gives me h None = record { list = missed_up k.nspec h; progress = me; answer = answer.Opening (if is_any_busy k.nspec h then opening.Busy else opening.Unavailable) }

  abbrev pub scans : CpuProgress → List Deed → WholeCpu
  scans me h = gives me h (least_free k.nspec h)

  -- the slot's speculation waits for the CPU's settlement
  abbrev pub owes : ℕ → List Deed → Bool
  owes s h = is_busy s h && (is_none (solo (present s h) h) && not (settled c (present s h) h))

  abbrev pub settles_as : Ruling → Speculation → List Deed → DecideFate
  settles_as (discarded a) id h = discard_fate shape k c h id
  settles_as v id h = commit_fate shape k c h id

  -- the list once the slot is settled, where it waits for that
  abbrev pub settled_at : ℕ → List Deed → List Deed
  settled_at s h = if owes s h then Settle c (present s h) (settles_as (verdict (present s h) h) (present s h) h) ∷ h else h

  -- the list once the first n slots are settled, upwards, and how many waited for that
  abbrev pub settled_up : ℕ → List Deed → List Deed
  settled_up zero h = h
  settled_up (suc n) h = settled_at (suc n) (settled_up n h)

  abbrev pub settlements_up_to : ℕ → List Deed → ℕ
  settlements_up_to zero h = 0
  settlements_up_to (suc n) h = settlements_up_to n h + (if owes (suc n) (settled_up n h) then 1 else 0)

  -- full buffers are switched, a batch is wanted, and all that were sealed before are given back
  abbrev pub is_sealing : CpuProgress → List Deed → Bool
  is_sealing me h = not (is_fill k.policy) && (nat_lt (seals c h) me.want && (are_all_back (seals c h) me && nat_lt (seals c h) k.max_calls))

  abbrev pub whole_service : CpuProgress → List Deed → Bool → WholeCpu
  whole_service me h sealed = record { list = settled_up k.nspec h; progress = me; answer = answer.Served record { sealed = sealed; settled = settlements_up_to k.nspec h } }

  -- a worn call is counted, and enters nothing
  abbrev pub wears_out : CpuProgress → List Deed → Answer → WholeCpu
  wears_out me h a = record { list = h; progress = record me { worn = min (me.worn + 1) (2 ^ 64 - 1) }; answer = a }

  abbrev pub enters : CpuProgress → List Deed → Answer → WholeCpu
  enters me h a = record { list = h; progress = me; answer = a }

  abbrev pub whole_cpu : CpuProgress → List Deed → CpuOp → WholeCpu
  whole_cpu me h (cpu_op.Trace r) =
      if is_worn k c h then wears_out me h (answer.Traced traced_answer.Worn)
      else if halted h then enters me (Trace c r traced.Stopped ∷ h) (answer.Traced traced_answer.Stopped)
      else if fits_principal shape k c (one r) h then enters me (Trace c r traced.Kept ∷ h) (answer.Traced traced_answer.Kept)
      else enters me (Trace c r traced.Dropped ∷ h) (answer.Traced traced_answer.Dropped)
  whole_cpu me h cpu_op.Speculation =
      if is_worn k c h then wears_out me h (answer.Opening opening.Worn)
      else if halted h then enters me (Scan c false ∷ h) (answer.Opening opening.Stopped)
      else scans me (Scan c true ∷ h)
  whole_cpu me h (cpu_op.Speculate id r) =
      if is_worn k c h then wears_out me h (answer.Spoken spoken_answer.Worn)
      else if halted h then enters me (Speculate c id r spoken.Stopped ∷ h) (answer.Spoken spoken_answer.Stopped)
      else if not (is_open id h) then enters me (Speculate c id r spoken.Void ∷ h) (answer.Spoken spoken_answer.Void)
      else if fits_speculative shape k c id r h then enters me (Speculate c id r spoken.Kept ∷ h) (answer.Spoken spoken_answer.Kept)
      else enters me (Speculate c id r spoken.Dropped ∷ h) (answer.Spoken spoken_answer.Dropped)
  whole_cpu me h (cpu_op.Commit id) =
      if is_worn k c h then wears_out me h (answer.Decided decided_answer.Worn)
      else if halted h then enters me (Commit c id decided.Stopped ∷ h) (answer.Decided decided_answer.Stopped)
      else if not (is_open id h) then enters me (Commit c id decided.Void ∷ h) (answer.Decided decided_answer.Void)
      else if is_sole_or_none c (callers id h) then enters me (Release id.slot ∷ Commit c id (commit_fate shape k c h id) ∷ h) (answer_of (commit_fate shape k c h id))
      else enters me (Commit c id (commit_fate shape k c h id) ∷ h) (answer_of (commit_fate shape k c h id))
  whole_cpu me h (cpu_op.Discard id) =
      if is_worn k c h then wears_out me h (answer.Decided decided_answer.Worn)
      else if halted h then enters me (Discard c id decided.Stopped ∷ h) (answer.Decided decided_answer.Stopped)
      else if not (is_open id h) then enters me (Discard c id decided.Void ∷ h) (answer.Decided decided_answer.Void)
      else if is_sole c (callers id h) then enters me (Release id.slot ∷ Discard c id (discard_fate shape k c h id) ∷ h) (answer_of (discard_fate shape k c h id))
      else enters me (Discard c id (discard_fate shape k c h id) ∷ h) (answer_of (discard_fate shape k c h id))
  whole_cpu me h cpu_op.Service =
      if is_sealing me h then whole_service (record me { spare = spare.Handed }) (Seal c ∷ h) true
      else whole_service me h false

-- what a whole call of the consumer leaves: the list, the CPUs' sides, and the answer
pub record WholeConsumer : Type 0 where
  pub list : List Deed
  pub progresses : List CpuProgress
  pub answer : Answer

module _ (k : Config) where
  -- each of the first n CPUs has settled the speculation
  abbrev pub all_settled : ℕ → Speculation → List Deed → Bool
  all_settled zero id h = true
  all_settled (suc n) id h = all_settled n id h && settled n id h

  -- the slot's speculation waits for its release by the consumer alone
  abbrev pub is_reapable : ℕ → List Deed → Bool
  is_reapable s h = is_busy s h && (is_none (solo (present s h) h) && all_settled k.cpus (present s h) h)

  -- the list once the slot is released, where it waits for that
  abbrev pub cleaned_at : ℕ → List Deed → List Deed
  cleaned_at s h = if is_reapable s h then Release s ∷ h else h

  -- the list once the first n slots are cleaned, upwards, and how many were released
  abbrev pub cleaned_up : ℕ → List Deed → List Deed
  cleaned_up zero h = h
  cleaned_up (suc n) h = cleaned_at (suc n) (cleaned_up n h)

  abbrev pub releases_up : ℕ → List Deed → ℕ
  releases_up zero h = 0
  releases_up (suc n) h = releases_up n h + (if is_reapable (suc n) (cleaned_up n h) then 1 else 0)

  abbrev pub whole_consumer : List CpuProgress → List Deed → ConsumerOp → WholeConsumer
  whole_consumer all h (consumer_op.Ask c) =
      record { list = h; progresses = slice_set all c (record (progress_of all c) { want = (progress_of all c).takes + 1 }); answer = answer.AskDone }
  whole_consumer all h (consumer_op.Take c) =
      if nat_lt (progress_of all c).takes (seals c h) then record {
        list = h;
        progresses = slice_set all c (record (progress_of all c) { spare = spare.Out; takes = (progress_of all c).takes + 1 });
        answer = took (progress_of all c).takes c h;
      }
      else record { list = h; progresses = all; answer = answer.TookNone }
  whole_consumer all h (consumer_op.GiveBack c) =
      if is_out (progress_of all c).spare
      then record { list = h; progresses = slice_set all c (record (progress_of all c) { spare = spare.GivenBack }); answer = answer.GaveBack true }
      else record { list = h; progresses = all; answer = answer.GaveBack false }
  whole_consumer all h consumer_op.Clean = record { list = cleaned_up k.nspec h; progresses = all; answer = answer.Cleaned (releases_up k.nspec h) }
  whole_consumer all h consumer_op.Stop = record { list = if halted h then h else Halt ∷ h; progresses = all; answer = answer.StopDone }

-- the state after a whole call
abbrev pub after_cpu : ℕ → WholeCpu → PlayState → PlayState
after_cpu c w st = record st { deeds = w.list; progresses = slice_set st.progresses c w.progress }

abbrev pub after_consumer : WholeConsumer → PlayState → PlayState
after_consumer w st = record st { deeds = w.list; progresses = w.progresses; side = record { flight = None; steps = 0 } }

-- a whole call, with its CPU
pub data Call : Type 0 where
  of_cpu : ℕ → CpuOp → Call
  of_consumer : ConsumerOp → Call

module _ (shape : ℕ → Option Shape) where
  abbrev pub cpu_call : ℕ → CpuOp → PlayState → WholeCpu
  cpu_call c o st = whole_cpu shape st.config c (progress_of st.progresses c) st.deeds o

  abbrev pub consumer_call : ConsumerOp → PlayState → WholeConsumer
  consumer_call o st = whole_consumer st.config st.progresses st.deeds o

  abbrev pub once_called : Call → PlayState → PlayState
  once_called (of_cpu c o) st = after_cpu c (cpu_call c o st) st
  once_called (of_consumer o) st = after_consumer (consumer_call o st) st

  -- after whole calls, the first at the head
  abbrev pub after_all : List Call → PlayState → PlayState
  after_all [] st = st
  after_all (x ∷ xs) st = after_all xs (once_called x st)

  abbrev pub whole_answer : Call → PlayState → Answer
  whole_answer (of_cpu c o) st = (cpu_call c o st).answer
  whole_answer (of_consumer o) st = (consumer_call o st).answer

-- the consumer's call takes no batch of a CPU that there isn't, or whose call is in flight
abbrev pub IsApart : ConsumerOp → PlayState → Type 0
IsApart (consumer_op.Take c) st = (c < st.config.cpus) × ((progress_of st.progresses c).flight ≡ None)
IsApart o st = Unit {0}

-- a call of a CPU that there is, or about one
abbrev pub IsCall : Config → Call → Type 0
IsCall k (of_cpu c o) = c < k.cpus
IsCall k (of_consumer (consumer_op.Ask c)) = c < k.cpus
IsCall k (of_consumer (consumer_op.Take c)) = c < k.cpus
IsCall k (of_consumer (consumer_op.GiveBack c)) = c < k.cpus
IsCall k (of_consumer o) = Unit {0}

-- every call is of a CPU that there is, or about one
abbrev pub AreCalls : Config → List Call → Type 0
AreCalls k [] = Unit {0}
AreCalls k (x ∷ xs) = IsCall k x × AreCalls k xs

-- the CPU's service is one of the calls
abbrev pub HasService : ℕ → List Call → Type 0
HasService c [] = ⊥
HasService c (x ∷ xs) = (x ≡ of_cpu c cpu_op.Service) ⊎ HasService c xs

-- the speculation's slot was released since
abbrev pub IsReleased : Speculation → List Deed → Type 0
IsReleased id h = id.issue < issue id.slot h
