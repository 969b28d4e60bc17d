-- What a step of a CPU's call makes of it: it ends the call, or the call goes on with one step more and the same bound; whether it tells
-- Worn, and what it adds to the calls; and the answer is read off what the call has entered.
use Rattle.std.proofs.Common.{◌*◌, ⊎_elim, inl, inr, ap, sym, ◌≡◌, not, ℕ, ◌+◌, Bool, true, false, ◌==◌, ◌&&◌, List, [], ◌∷◌, ◌++◌, Option, Some, None, if◌then◌else◌, refl, arith}
use Rattle.std.specs.Prelude.{nat_lt, nat_le}
use Rattle.dspec_interleaving.specs.Words.{Shape, Record, one, is_decided, Speculation, SlotState, commit_at, discard_at, open_at, settle_at, op_of, is_fill, halted, in_range, word_at, ack, calls}
use Rattle.dspec_interleaving.specs.Words.{seals, fits_principal, fits_speculative, missed_busy, commit_fate, discard_fate, CpuStep, same_word, is_alone, is_release, is_worn, ends, wears}
use Rattle.dspec_interleaving.specs.Words.{call_goes_on, spoken_at, shown_speculate, shown_commit, shown_discard, missed, shown_scan, asked, begun, popped, served, shown_service, cpu_step}
use Rattle.dspec_interleaving.specs.Words.{is_worn_answer, is_counted, is_first, is_told_worn, enters_call, measured, is_among, callers, flight_bound, sealed_by, answer_of_cpu, is_busy_among, Act}
use Rattle.dspec_interleaving.specs.Words.{Granted, Attempt, Config, Answer, CpuOp, Op, Served, Deed, Miss}
use Rattle.dspec_interleaving.specs.declared.flight.{CallPlace.CallPlace, CpuProgress.CpuProgress, Spare.Spare}
use Rattle.dspec_deeds.specs.declared.calls.Answer.TheVariants as answer
use Rattle.dspec_deeds.specs.declared.calls.CpuOp.TheVariants as cpu_op
use Rattle.dspec_deeds.specs.declared.calls.Op.TheVariants as op
use Rattle.dspec_deeds.specs.declared.calls.Opening.TheVariants as opening
use Rattle.dspec_interleaving.specs.declared.flight.CallPlace.TheVariants as cpu
use Rattle.dspec_interleaving.specs.declared.flight.Spare.TheVariants as spare
use Rattle.dspec_deeds.proofs.TestLemmas.{number_is_itself}
use Rattle.dspec_interleaving.proofs.OwnTelling.{HasServed, OwnDeeds, ReadsOff, busy_now, fails_unworn, told_unworn}
use Rattle.dspec_interleaving.proofs.StepEnds.{HasEnded, HasGoneOn, Advances}

-- how many deeds that count the call in flight has entered
abbrev pub ahead : Option CallPlace → ℕ
ahead (Some (cpu.ScanLoad s)) = 1
ahead (Some (cpu.ScanTry s w)) = 1
ahead (Some (cpu.CommitRelease id f)) = 1
ahead f = 0

-- how many the call has entered that ends so, if it does
abbrev pub enters : Op → Option Answer → ℕ
enters o None = 0
enters o (Some a) = if enters_call o a then 1 else 0

none_enters : (b : Bool) → ◌≡◌ {A = ℕ} (if b && false then 1 else 0) 0
none_enters true = refl
none_enters false = refl

-- what a step of a call makes that had entered so many deeds that count
pub record Wears (c : ℕ) (h : List Deed) (worn : Bool) (n : ℕ) (o : CpuOp) (m : CpuStep) : Type 0 where
  pub told : is_told_worn m.answer ≡ worn
  pub counts : calls c (m.deeds ++ h) + n ≡ (calls c h + ahead m.progress.flight) + enters (op.Cpu o) m.answer

module _ (shape : ℕ → Option Shape) (k : Config) (c : ℕ) (h : List Deed) (me : CpuProgress) where
  -- what a step makes of a call whose bound is most, and which had entered n deeds that count; where Q says so, its deeds were own
  abbrev Does : Type 0 → List Deed → ℕ → Bool → ℕ → CpuOp → CpuStep → Type 0
  Does Q own most worn n o m = Wears c h worn n o m × Advances k me most o m × (Q → ReadsOff c h me o own m)

  -- the call is worn, or not
  opens : {Q : Type 0} {own : List Deed} {most : ℕ} {o : CpuOp} (b : Bool) {x y : CpuStep} → Does Q own most true 0 o x → Does Q own most false 0 o y → Does Q own most b 0 o (if b then x else y)
  opens true p q = p
  opens false p q = q

  either : {Q : Type 0} {own : List Deed} {most n : ℕ} {o : CpuOp} (b : Bool) {x y : CpuStep} → Does Q own most false n o x → Does Q own most false n o y
      → Does Q own most false n o (if b then x else y)
  either true p q = p
  either false p q = q

  worn_out : {most : ℕ} {own : List Deed} {o : CpuOp} {a : Answer} → a ≡ answer_of_cpu o [] → is_worn_answer a ≡ true → Does (own ≡ []) own most true 0 o (wears me a)
  worn_out {o = o} {a = a} is worn = (
    record { told = worn; counts = rw (worn, none_enters (is_counted (op.Cpu o))) (omega arith) },
    inl record { told = a; answers = refl; idle = refl },
    λ e. record { holds = tt; reads = rw e is; wears = rw worn refl },
  )

  -- a call ends, unworn
  done : {Q : Type 0} {own : List Deed} {most n : ℕ} {o : CpuOp} {ds : List Deed} {a : Answer} → is_worn_answer a ≡ false
      → calls c (ds ++ h) + n ≡ calls c h + (if is_counted (op.Cpu o) && not false then 1 else 0) → (Q → a ≡ answer_of_cpu o (ds ++ own)) → Does Q own most false n o (ends me ds a)
  done {a = a} unworn e is = (
    record { told = unworn; counts = rw unworn (omega arith) },
    inl record { told = a; answers = refl; idle = refl },
    λ q. record { holds = tt; reads = is q; wears = rw unworn refl },
  )

  -- a call goes on
  on : {Q : Type 0} {own : List Deed} {n : ℕ} {ds : List Deed} (f : CallPlace) → calls c (ds ++ h) + n ≡ calls c h + ahead (Some f) → (Q → OwnDeeds c (ds ++ h) f (ds ++ own))
      → Does Q own (flight_bound k f) false n (op_of f) (call_goes_on me ds f)
  on f e owns = (
    record { told = refl; counts = omega arith },
    inr record { next = f; call = refl; answers = refl; flight = refl; bound = refl; counted = refl },
    λ q. record { holds = owns q; reads = tt; wears = refl },
  )

  -- the seal and the push of a batch
  seals_on : {own : List Deed} → Does (own ≡ []) own (3 + 2 * k.nspec) false 0 cpu_op.Service (sealed_by me c)
  seals_on = (
    record { told = refl; counts = omega arith },
    inr record { next = cpu.ServicePush; call = refl; answers = refl; flight = refl; bound = refl; counted = refl },
    λ e. record { holds = rw e refl; reads = tt; wears = refl },
  )

  -- a deed that counts is entered now, or was before
  now : (calls c h + (if c == c then 1 else 0)) + 0 ≡ calls c h + 1
  now = rw (number_is_itself c) (omega arith)

  before : (calls c h + 0) + 1 ≡ calls c h + 1
  before = omega arith

  -- a call that counts begins
  begins : {own : List Deed} {o : CpuOp} {a b : Answer} (ds : List Deed) {x : CpuStep} → a ≡ answer_of_cpu o [] → is_worn_answer a ≡ true
      → is_worn_answer b ≡ false → calls c (ds ++ h) + 0 ≡ calls c h + (if is_counted (op.Cpu o) && not false then 1 else 0) → b ≡ answer_of_cpu o (ds ++ [])
      → Does (own ≡ []) own (flight_bound k (cpu.Begun o)) false 0 o x
      → Does (own ≡ []) own (flight_bound k (cpu.Begun o)) (is_worn k c h) 0 o (if is_worn k c h then wears me a else if halted h then ends me ds b else x)
  begins ds worn is unworn e stops rest = opens (is_worn k c h) (worn_out worn is) (either (halted h) (done unworn e (λ q. rw q stops)) rest)

  spoken_does : {own : List Deed} (id : Speculation) (r : Record) → Does (own ≡ []) own 4 false 0 (cpu_op.Speculate id r) (spoken_at k c (measured shape k c h) me id r)
  spoken_does id r = either (fits_speculative shape k c id r h) (done refl now (λ e. refl)) (done refl now (λ e. refl))

  speculate_does : {own : List Deed} (id : Speculation) (r : Record) (w : SlotState) (a : Act)
      → Does (own ≡ []) own 4 false 0 (cpu_op.Speculate id r) (shown_speculate k c (measured shape k c h) me id r w a)
  speculate_does id r w Granted = spoken_does id r
  speculate_does id r w (Attempt to) = on (cpu.SpeculateTry id r w) refl (λ e. e)
  speculate_does id r w act = done refl now (λ e. refl)

  commit_does : {own : List Deed} (id : Speculation) (w : SlotState) (a : Act) → Does (own ≡ []) own 5 false 0 (cpu_op.Commit id) (shown_commit k c (measured shape k c h) me id w a)
  commit_does id w (Attempt to) = on (cpu.CommitTry id w) refl (λ e. e)
  commit_does id w act = done refl now (λ e. refl)

  discard_does : {own : List Deed} (id : Speculation) (w : SlotState) (a : Act) → Does (own ≡ []) own 5 false 0 (cpu_op.Discard id) (shown_discard k c (measured shape k c h) me id w a)
  discard_does id w (Attempt to) = on (cpu.DiscardTry id w) refl (λ e. e)
  discard_does id w act = done refl now (λ e. refl)

  missed_does : {own : List Deed} (s : ℕ) (w : SlotState)
      → Does (is_busy_among own ≡ missed_busy c h) own (1 + 2 * k.nspec) false 1 cpu_op.Speculation (missed k c (measured shape k c h) me s w)
  missed_does {own = own} s w = either (s == k.nspec)
      (done (fails_unworn (missed_busy c (Miss c s (is_decided w.code) ∷ h))) before
      (λ e. ap (λ (b : Bool). answer.Opening (if b then opening.Busy else opening.Unavailable)) (sym (busy_now c s (is_decided w.code) h own e))))
      (on (cpu.ScanLoad (s + 1)) before (busy_now c s (is_decided w.code) h own))

  scan_does : {own : List Deed} (s : ℕ) (w : SlotState) (a : Act)
      → Does (is_busy_among own ≡ missed_busy c h) own (1 + 2 * k.nspec) false 1 cpu_op.Speculation (shown_scan k c (measured shape k c h) me s w a)
  scan_does s w (Attempt to) = on (cpu.ScanTry s w) refl (λ e. e)
  scan_does s w act = missed_does s w

  asked_does : {own : List Deed} (b : Bool) (p : Spare) → Does (own ≡ []) own (3 + 2 * k.nspec) false 0 cpu_op.Service (asked k c (measured shape k c h) me b p)
  asked_does false p = on (cpu.ServiceLoad 1 record { sealed = false; settled = 0 }) refl (λ e. rw e (refl, refl))
  asked_does true spare.InHand = seals_on
  asked_does true place = on cpu.ServicePop refl (λ e. e)

  popped_does : {own : List Deed} (p : Spare) → Does (own ≡ []) own (3 + 2 * k.nspec) false 0 cpu_op.Service (popped k c (measured shape k c h) me p)
  popped_does spare.GivenBack = seals_on
  popped_does place = on (cpu.ServiceLoad 1 record { sealed = false; settled = 0 }) refl (λ e. rw e (refl, refl))

  served_does : {Q : Type 0} {own : List Deed} (s : ℕ) (ds : List Deed) (sum : Served) → calls c (ds ++ h) ≡ calls c h → (Q → HasServed sum (ds ++ own))
      → Does Q own (3 + 2 * k.nspec) false 0 cpu_op.Service (served k c (measured shape k c h) me s ds sum)
  served_does s ds sum same has = either (s == k.nspec)
      (done refl (omega arith) (λ q i. answer.Served record { sealed = sym (has q).0 i; settled = sym (has q).1 i }))
      (on (cpu.ServiceLoad (s + 1) sum) (omega arith) has)

  service_does : {Q : Type 0} {own : List Deed} (s : ℕ) (sum : Served) (w : SlotState) (a : Act) → (Q → HasServed sum own)
      → Does Q own (3 + 2 * k.nspec) false 0 cpu_op.Service (shown_service k c (measured shape k c h) me s sum w a)
  service_does s sum w Granted has = on (cpu.ServiceStore s w sum) refl has
  service_does s sum w act has = served_does s [] sum refl has

  -- the first step of a call
  begun_does : {own : List Deed} (o : CpuOp) → Does (own ≡ []) own (flight_bound k (cpu.Begun o)) (is_counted (op.Cpu o) && nat_le k.max_calls (calls c h)) 0 o (begun k c (measured shape k c h) me o)
  begun_does (cpu_op.Trace r) = begins _ refl refl refl now refl (either (fits_principal shape k c (one r) h) (done refl now (λ e. refl)) (done refl now (λ e. refl)))
  begun_does cpu_op.Speculation = begins _ refl refl refl now refl (on (cpu.ScanLoad 1) now (λ e. rw (e, number_is_itself c) refl))
  begun_does (cpu_op.Speculate id r) = begins _ refl refl refl now refl (either (in_range k id) (on (cpu.SpeculateLoad id r) refl (λ e. e)) (done refl now (λ e. refl)))
  begun_does (cpu_op.Commit id) = begins _ refl refl refl now refl (either (in_range k id) (on (cpu.CommitLoad id) refl (λ e. e)) (done refl now (λ e. refl)))
  begun_does (cpu_op.Discard id) = begins _ refl refl refl now refl (either (in_range k id) (on (cpu.DiscardLoad id) refl (λ e. e)) (done refl now (λ e. refl)))
  begun_does cpu_op.Service = either (is_fill k.policy)
      (service_does 1 record { sealed = false; settled = 0 } (word_at 1 h) (settle_at (word_at 1 h) (ack c 1 h)) (λ e. rw e (refl, refl)))
      (asked_does (nat_lt (seals c h) me.want && nat_lt (seals c h) k.max_calls) me.spare)

  -- a step of a CPU's call in flight
  cpu_step_does : (f : CallPlace) (own : List Deed)
      → Does (OwnDeeds c h f own) own (flight_bound k f) (is_first (Some f) && nat_le k.max_calls (calls c h)) (ahead (Some f)) (op_of f) (cpu_step shape k c h me f)
  cpu_step_does (cpu.Begun o) own = begun_does o
  cpu_step_does (cpu.ScanLoad s) own = scan_does s (word_at s h) (open_at (word_at s h) k.max_issues)
  cpu_step_does (cpu.ScanTry s w) own = either (same_word (word_at s h) w) (done refl before (λ e. refl)) (missed_does s (word_at s h))
  cpu_step_does (cpu.SpeculateLoad id r) own = speculate_does id r (word_at id.slot h) _
  cpu_step_does (cpu.SpeculateTry id r w) own = either (same_word (word_at id.slot h) w) (spoken_does id r) (speculate_does id r (word_at id.slot h) _)
  cpu_step_does (cpu.CommitLoad id) own = commit_does id (word_at id.slot h) _
  cpu_step_does (cpu.CommitTry id w) own = either (same_word (word_at id.slot h) w)
      (either (is_alone (commit_at w id (is_among c (callers id h)))) (on (cpu.CommitRelease id _) now (λ e. rw e refl)) (done (told_unworn (commit_fate shape k c h id)) now (λ e. refl)))
      (commit_does id (word_at id.slot h) _)
  cpu_step_does (cpu.CommitRelease id f) own = done (told_unworn f) before (λ e. rw e refl)
  cpu_step_does (cpu.DiscardLoad id) own = discard_does id (word_at id.slot h) _
  cpu_step_does (cpu.DiscardTry id w) own = either (same_word (word_at id.slot h) w)
      (either (is_release (discard_at w id (is_among c (callers id h)))) (done (told_unworn (discard_fate shape k c h id)) (rw (number_is_itself c) (omega arith)) (λ e. refl))
      (done (told_unworn (discard_fate shape k c h id)) now (λ e. refl)))
      (discard_does id (word_at id.slot h) _)
  cpu_step_does cpu.ServicePop own = popped_does me.spare
  cpu_step_does cpu.ServicePush own = (
    record { told = refl; counts = omega arith },
    inr record { next = cpu.ServiceLoad 1 record { sealed = true; settled = 0 }; call = refl; answers = refl; flight = refl; bound = refl; counted = refl },
    λ e. record { holds = rw e (refl, refl); reads = tt; wears = refl },
  )
  cpu_step_does (cpu.ServiceLoad s sum) own = service_does s sum (word_at s h) _ (λ e. e)
  cpu_step_does (cpu.ServiceStore s w sum) own = served_does s _ _ (omega arith) (λ e. (e.0, ap (λ n. n + 1) e.1))

  pub cpu_step_wears : (f : CallPlace) → Wears c h (is_first (Some f) && nat_le k.max_calls (calls c h)) (ahead (Some f)) (op_of f) (cpu_step shape k c h me f)
  cpu_step_wears f = (cpu_step_does f []).0

  -- a step of a CPU ends its call, or the call goes on
  pub cpu_advances : (f : CallPlace) → Advances k me (flight_bound k f) (op_of f) (cpu_step shape k c h me f)
  cpu_advances f = (cpu_step_does f []).1

  -- a step of a CPU's call in flight goes on so, and its answer is read off what the call entered
  pub cpu_step_reads : (f : CallPlace) (own : List Deed) → OwnDeeds c h f own → ReadsOff c h me (op_of f) own (cpu_step shape k c h me f)
  cpu_step_reads f own was = (cpu_step_does f own).2 was

  -- a step after which its call is in flight has no answer
  pub goes_untold : (f next : CallPlace) → (cpu_step shape k c h me f).progress.flight ≡ Some next → (cpu_step shape k c h me f).answer ≡ None
  goes_untold f next is = ⊎_elim
      (λ (ended : HasEnded (cpu_step shape k c h me f)). let idle = ended.idle in absurd (cc (idle, is)))
      (λ (on : HasGoneOn k me (flight_bound k f) (op_of f) (cpu_step shape k c h me f)). on.answers)
      (cpu_advances f)
