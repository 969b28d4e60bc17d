-- The steps of a CPU's calls: each goes on legally, and leaves its own side in place.
use Rattle.std.proofs.Common.{◌≡◌, ◌≢◌, ◌⊎◌, ◌≤◌, ◌+◌, ◌*◌, ◌==◌, ℕ, Bool, true, false, not, List, [], ◌∷◌, Option, Some, None, if◌then◌else◌, refl, sym, ap, ◌∙◌, subst, ⊎_elim, inl, inr, arith}
use Rattle.dspec_interleaving.specs.Words.{Shape, Record, one, is_decided, Speculation, SlotState, speculate_at, open_at, start_fault, scan, is_among, owed, callers, word_at, is_open, late, is_free}
use Rattle.dspec_interleaving.specs.Words.{opened_since, fits_principal, fits_speculative, IsAllowed, begun, ends, spoken_at, shown_speculate, missed, shown_scan, same_word, cpu_step, IsSlot}
use Rattle.dspec_interleaving.specs.Words.{OnItsWay, StandsCpu, StandsProgress, ProgressStands, measured, Act, Void, Granted, Attempt, Idle, Config, Deed, Trace, Scan, Opened, Miss, Speculate}
use Rattle.dspec_interleaving.specs.declared.flight.{CallPlace.CallPlace, CpuProgress.CpuProgress}
use Rattle.dspec_deeds.specs.declared.calls.Answer.TheVariants as answer
use Rattle.dspec_deeds.specs.declared.calls.CpuOp.TheVariants as cpu_op
use Rattle.dspec_deeds.specs.declared.calls.Spoken.TheVariants as spoken_answer
use Rattle.dspec_deeds.specs.declared.deed.SpeculateFate.TheVariants as spoken
use Rattle.dspec_deeds.specs.declared.deed.TraceFate.TheVariants as traced
use Rattle.dspec_interleaving.specs.declared.flight.CallPlace.TheVariants as cpu
use Rattle.dspec_deeds.proofs.{SetUp.set_up, TestLemmas.number_is_itself, TestLemmas.numbers_differ, TestLemmas.off, WordActs.speculate_void, WordActs.speculate_granted, WordActs.speculate_attempt}
use Rattle.dspec_deeds.proofs.{WordCodes.busy_is, WordCodes.open_void, WordCodes.open_attempt}
use Rattle.dspec_interleaving.proofs.StepsDecide.{commit_begins, commit_loads, commit_tries, commit_releases, discard_begins, discard_loads, discard_tries}
use Rattle.dspec_interleaving.proofs.StepsParts.{asks_stand, IsEarly, load_early, try_stands, IsUnderWay, StepStands, either_stands, goes_by_none, goes_by, ends_by, begins_stand, pushes_not}
use Rattle.dspec_interleaving.proofs.StepsService.{service_begins, service_pops, service_pushes, service_loads, service_stores}
use Rattle.dspec_interleaving.proofs.StepsWords.{word_is_itself, same_word_tells, speculate_tells, speculate_not_idle, open_plain, not_plain}

-- where a call of speculation is after its own deeds
scan_begun : (k : Config) (c : ℕ) (running : Bool) (h : List Deed) → scan k c (Scan c running ∷ h) ≡ (if running then 1 else 0)
scan_begun k c running h = let own = number_is_itself c in rw own refl

scan_opened : (k : Config) (c : ℕ) (id : Speculation) (h : List Deed) → scan k c (Opened c id ∷ h) ≡ 0
scan_opened k c id h = let own = number_is_itself c in rw own refl

scan_missed : (k : Config) (c s : ℕ) (busy : Bool) (h : List Deed) → scan k c h ≡ s → scan k c (Miss c s busy ∷ h) ≡ (if s == k.nspec then 0 else s + 1)
scan_missed k c s busy h at = let own = number_is_itself c in rw (own, at) refl

module _ {shape : ℕ → Option Shape} {k : Config} {c : ℕ} {h : List Deed} {me : CpuProgress} (play : IsUnderWay shape k c h me) where
  -- trace
  trace_begins : (r : Record) → scan k c h ≡ 0 → StepStands shape k c h (begun k c (measured shape k c h) me (cpu_op.Trace r))
  trace_begins r idle = begins_stand play _ _ _ _ idle (λ t. ends_by play (Trace c r traced.Stopped) _ play.rests (idle, sym t) tt refl tt refl idle)
      (λ f. either_stands (fits_principal shape k c (one r) h)
      (λ fits. ends_by play (Trace c r traced.Kept) _ play.rests (idle, sym f) (sym fits) refl tt refl idle)
      (λ full. ends_by play (Trace c r traced.Dropped) _ play.rests (idle, sym f) (sym full) refl tt refl idle))

  -- speculation: the Miss of a slot that can't be opened, or was given out since
  missed_stands : (s : ℕ) → IsSlot k s → scan k c h ≡ s → me.steps ≤ 2 * s → (is_free k s h ≡ false) ⊎ (opened_since c s h ≡ true)
      → StepStands shape k c h (missed k c (measured shape k c h) me s (word_at s h))
  missed_stands s slot at steps why =
      let busy = is_decided (word_at s h).code in
      let after = scan_missed k c s busy h at in
      either_stands (s == k.nspec)
      (λ e. ends_by play (Miss c s busy) _ play.rests (at, slot.0, why, busy_is k h s play.legal.0) tt refl tt refl (after ∙ ap (λ (b : Bool). if b then 0 else s + 1) e))
      (λ e.
      let apart = numbers_differ s k.nspec e in
      let most = slot.1 in
      goes_by play (Miss c s busy) (cpu.ScanLoad (s + 1)) play.rests (at, slot.0, why, busy_is k h s play.legal.0) tt refl tt refl
      ((omega arith, omega arith), after ∙ ap (λ (b : Bool). if b then 0 else s + 1) e, omega arith))

  scan_begins : scan k c h ≡ 0 → me.steps ≡ 0 → StepStands shape k c h (begun k c (measured shape k c h) me cpu_op.Speculation)
  scan_begins idle first = begins_stand play _ _ _ _ idle (λ t. ends_by play (Scan c false) _ play.rests (idle, sym (ap not t)) tt refl tt refl (scan_begun k c false h))
      (λ f. goes_by play (Scan c true) (cpu.ScanLoad 1) play.rests (idle, sym (ap not f)) tt refl tt refl ((omega arith, (set_up k play.ranges).1), scan_begun k c true h, omega arith))

  scan_loads : (s : ℕ) → StandsCpu k c h me (cpu.ScanLoad s) → StepStands shape k c h (cpu_step shape k c h me (cpu.ScanLoad s))
  scan_loads s at = go (open_at (word_at s h) k.max_issues) refl
    where
      go : (act : Act) → open_at (word_at s h) k.max_issues ≡ act → StepStands shape k c h (shown_scan k c (measured shape k c h) me s (word_at s h) act)
      go Void e = let few = at.2 in missed_stands s at.0 at.1 (omega arith) (inl (open_void k h s e))
      go (Attempt to) e = let one = at.0.0 in let few = at.2 in goes_by_none play (cpu.ScanTry s (word_at s h)) (at.0, at.1, omega arith, (to, e), inl refl)
      go act e = not_plain (open_at (word_at s h) k.max_issues) act (open_plain (word_at s h) k.max_issues) e refl

  scan_tries : (s : ℕ) (from : SlotState) → StandsCpu k c h me (cpu.ScanTry s from) → StepStands shape k c h (cpu_step shape k c h me (cpu.ScanTry s from))
  scan_tries s from at = either_stands (same_word (word_at s h) from)
      (λ e.
      let is = same_word_tells (word_at s h) from e in
      let attempts : open_at (word_at s h) k.max_issues ≡ Attempt at.3.0 = subst (λ w. open_at w k.max_issues ≡ Attempt at.3.0) (sym is) at.3.1 in
      ends_by play (Opened c record { issue = from.issue; slot = s }) _ play.rests
      (at.1, at.0.0, (open_attempt k h s at.3.0 attempts).0, ap (λ (w : SlotState). w.issue) (sym is)) tt refl tt refl (scan_opened k c record { issue = from.issue; slot = s } h))
      (λ e. missed_stands s at.0 at.1 at.2 (inr (⊎_elim
      (λ (is : word_at s h ≡ from). off (same_word (word_at s h) from) (subst (λ w. same_word (word_at s h) w ≡ true) is (word_is_itself (word_at s h))) e)
      (λ (since : opened_since c s h ≡ true). since)
      at.4)))

  module _ (id : Speculation) (r : Record) where
    -- speculate: a record of an identifier that isn't open, and of one that is
    unspoken_stands : scan k c h ≡ 0 → late c h ≡ false → is_open id h ≡ false → StepStands shape k c h (ends me (Speculate c id r spoken.Void ∷ []) (answer.Spoken spoken_answer.Void))
    unspoken_stands idle early shut = ends_by play (Speculate c id r spoken.Void) _ play.rests (idle, (early, sym shut)) tt refl tt refl idle

    spoken_stands : OnItsWay k c h id → is_open id h ≡ true → StepStands shape k c h (spoken_at k c (measured shape k c h) me id r)
    spoken_stands way now = either_stands (fits_speculative shape k c id r h)
        (λ e. ends_by play (Speculate c id r spoken.Kept) _ play.rests (way.scans_not, (way.early, sym now)) (sym e) refl tt refl way.scans_not)
        (λ e. ends_by play (Speculate c id r spoken.Dropped) _ play.rests (way.scans_not, (way.early, sym now)) (sym e) refl tt refl way.scans_not)

    speculate_begins : scan k c h ≡ 0 → me.steps ≡ 0 → StepStands shape k c h (begun k c (measured shape k c h) me (cpu_op.Speculate id r))
    speculate_begins idle first = asks_stand play id (cpu.SpeculateLoad id r) _ _ _ _ idle
        (λ t. ends_by play (Speculate c id r spoken.Stopped) _ play.rests (idle, t) tt refl tt refl idle) (λ way. (way, omega arith)) (unspoken_stands idle)

    speculate_shown : OnItsWay k c h id → IsEarly play speculate_at id → (act : Act) → speculate_at (word_at id.slot h) id (is_among c (callers id h)) ≡ act
        → StepStands shape k c h (shown_speculate k c (measured shape k c h) me id r (word_at id.slot h) act)
    speculate_shown way tried Void e = unspoken_stands way.scans_not way.early (speculate_void k h id (is_among c (callers id h)) play.legal.0 e)
    speculate_shown way tried Granted e = spoken_stands way (speculate_granted k h id c play.legal.0 e).0
    speculate_shown way tried (Attempt to) e =
        let least = tried to e in
        goes_by_none play (cpu.SpeculateTry id r (word_at id.slot h)) (way, record { to = to; attempts = e; rises = omega arith }, omega arith)
    speculate_shown way tried Idle e = absurd (speculate_not_idle (word_at id.slot h) id (is_among c (callers id h)) e)

    speculate_loads : StandsCpu k c h me (cpu.SpeculateLoad id r) → StepStands shape k c h (cpu_step shape k c h me (cpu.SpeculateLoad id r))
    speculate_loads at = speculate_shown at.0 (load_early play speculate_at speculate_tells id at.1) _ refl

    speculate_tries : (from : SlotState) → StandsCpu k c h me (cpu.SpeculateTry id r from) → StepStands shape k c h (cpu_step shape k c h me (cpu.SpeculateTry id r from))
    speculate_tries from at = try_stands play speculate_at speculate_tells id from _ _ (at.1, at.2)
        (λ to was now. spoken_stands at.0 (speculate_attempt k h id c to play.legal.0 now).1)
        (λ tried. speculate_shown at.0 tried _ refl)

module _ (shape : ℕ → Option Shape) (k : Config) (c : ℕ) (h : List Deed) (me : CpuProgress) (ranges : start_fault k ≡ None) (legal : IsAllowed shape k h) (rests : owed h ≡ 0)
    (stands : ProgressStands k c h me) where
  -- the deeds that a CPU's step enters are legal and its own, and its side stands after them
  pub cpu_step_stands : (f : CallPlace) → me.flight ≡ Some f → StepStands shape k c h (cpu_step shape k c h me f)
  cpu_step_stands f is = go f (subst (λ o. StandsProgress k c h me o) is stands.flight)
      (λ other. record { ranges = ranges; legal = legal; rests = rests; counts = stands.counts; pushes = pushes_not me.spare f me.flight is other stands.pushes; want = stands.want })
    where
      -- at each step but the push, no sealed batch waits for its push
      go : (f : CallPlace) → StandsCpu k c h me f → (f ≢ cpu.ServicePush → IsUnderWay shape k c h me) → StepStands shape k c h (cpu_step shape k c h me f)
      go (cpu.Begun (cpu_op.Trace r)) at play = trace_begins (play (λ e. cc (e))) r at.0
      go (cpu.Begun cpu_op.Speculation) at play = scan_begins (play (λ e. cc (e))) at.0 at.1
      go (cpu.Begun (cpu_op.Speculate id r)) at play = speculate_begins (play (λ e. cc (e))) id r at.0 at.1
      go (cpu.Begun (cpu_op.Commit id)) at play = commit_begins (play (λ e. cc (e))) id at.0 at.1
      go (cpu.Begun (cpu_op.Discard id)) at play = discard_begins (play (λ e. cc (e))) id at.0 at.1
      go (cpu.Begun cpu_op.Service) at play = service_begins (play (λ e. cc (e))) at.0 at.1
      go (cpu.ScanLoad s) at play = scan_loads (play (λ e. cc (e))) s at
      go (cpu.ScanTry s w) at play = scan_tries (play (λ e. cc (e))) s w at
      go (cpu.SpeculateLoad id r) at play = speculate_loads (play (λ e. cc (e))) id r at
      go (cpu.SpeculateTry id r w) at play = speculate_tries (play (λ e. cc (e))) id r w at
      go (cpu.CommitLoad id) at play = commit_loads (play (λ e. cc (e))) id at
      go (cpu.CommitTry id w) at play = commit_tries (play (λ e. cc (e))) id w at
      go (cpu.CommitRelease id f) at play = commit_releases (play (λ e. cc (e))) id f at
      go (cpu.DiscardLoad id) at play = discard_loads (play (λ e. cc (e))) id at
      go (cpu.DiscardTry id w) at play = discard_tries (play (λ e. cc (e))) id w at
      go cpu.ServicePop at play = service_pops (play (λ e. cc (e))) at
      go cpu.ServicePush at play = service_pushes shape k c h me ranges legal rests stands.counts stands.want at
      go (cpu.ServiceLoad s sum) at play = service_loads (play (λ e. cc (e))) s sum at
      go (cpu.ServiceStore s w sum) at play = service_stores (play (λ e. cc (e))) s w sum at
