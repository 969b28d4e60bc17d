-- A call of speculation that runs alone.
use Prim.Native.Nat.{zero, suc}
use Rattle.std.proofs.Common.{◌≡◌, ◌+◌, ◌-◌, ℕ, Bool, true, false, not, ◌&&◌, ◌||◌, ◌==◌, List, [], ◌∷◌, Option, Some, None, if◌then◌else◌, refl, sym, ap, ◌∙◌, subst, arith}
use Rattle.std.proofs.lemmas.Bool.Decides.{nat_tests}
use Rattle.dspec_interleaving.specs.Words.{Shape, SlotState, is_decided, open_at, attempt, halted, issue, present, is_free, is_busy, owed, scan, word_at, IsSound, is_worn, cpu_step, shown_scan}
use Rattle.dspec_interleaving.specs.Words.{missed, same_word, ends, call_goes_on, missed_busy, WholeCpu, whole_cpu, enters, least_free, is_any_busy, missed_up, gives, or_slot, measured, Void}
use Rattle.dspec_interleaving.specs.Words.{Active, Config, Deed, Scan, Opened, Miss}
use Rattle.dspec_interleaving.specs.declared.flight.CpuProgress.{CpuProgress}
use Rattle.dspec_deeds.specs.declared.calls.Answer.TheVariants as answer
use Rattle.dspec_deeds.specs.declared.calls.CpuOp.TheVariants as cpu_op
use Rattle.dspec_deeds.specs.declared.calls.Opening.TheVariants as opening
use Rattle.dspec_interleaving.specs.declared.flight.CallPlace.TheVariants as cpu
use Rattle.dspec_deeds.proofs.{TestLemmas.number_is_itself, WordCodes.busy_is, WordCodes.free_is}
use Rattle.dspec_interleaving.proofs.StepsWords.{word_is_itself}
use Rattle.dspec_interleaving.proofs.WholeLeads.{begins, later, idle, Leads, ended, worn, goes, starts, both, on_true, on_false, RunsTo}

-- h is the list after the call's Scan
module _ (shape : ℕ → Option Shape) (k : Config) (c : ℕ) (h : List Deed) (sound : IsSound k h) (fresh : missed_busy c h ≡ false) where
  -- misses move no word
  missed_word : (s n : ℕ) → word_at s (missed_up shape k c n h) ≡ word_at s h
  missed_word s zero = refl
  missed_word s (suc n) = missed_word s n

  missed_any : (n : ℕ) → missed_busy c (missed_up shape k c n h) ≡ is_any_busy shape k c n h
  missed_any zero = fresh
  missed_any (suc n) = rw (number_is_itself c) (and_true (is_busy (suc n) h) (missed_any n))
    where
      and_true : (b : Bool) {x y : Bool} → x ≡ y → ((b && true) || x) ≡ (b || y)
      and_true true e = refl
      and_true false e = e

  -- the least free slot stays the least of more slots
  least_stays : (s n j : ℕ) → least_free shape k c n h ≡ Some s → least_free shape k c (n + j) h ≡ Some s
  least_stays s n zero e = let same : n + 0 ≡ n = omega arith in ap (λ m. least_free shape k c m h) same ∙ e
  least_stays s n (suc j) e =
      let up : n + suc j ≡ suc (n + j) = omega arith in
      ap (λ m. least_free shape k c m h) up ∙ ap (λ x. or_slot x (suc (n + j)) (is_free k (suc (n + j)) h)) (least_stays s n j e)

  least_here : (n : ℕ) (b : Bool) → least_free shape k c n h ≡ None → is_free k (suc n) h ≡ b → least_free shape k c (suc n) h ≡ (if b then Some (suc n) else None)
  least_here n b none e = λ i. or_slot (none i) (suc n) (e i)

  -- the Miss of the last slot
  missed_last : (n : ℕ) (me : CpuProgress) → suc n ≡ k.nspec → least_free shape k c (suc n) h ≡ None
      → Leads shape k c (missed_up shape k c n h) (missed k c (measured shape k c (missed_up shape k c n h)) me (suc n) (word_at (suc n) h))
      (gives shape k c (idle me) h (least_free shape k c k.nspec h))
  missed_last n me last none =
      let busy : is_decided (word_at (suc n) h).code ≡ is_busy (suc n) h = busy_is k h (suc n) sound in
      let list : (Miss c (suc n) (is_decided (word_at (suc n) h).code) ∷ missed_up shape k c n h) ≡ missed_up shape k c k.nspec h =
      ap (λ b. Miss c (suc n) b ∷ missed_up shape k c n h) busy ∙ ap (λ m. missed_up shape k c m h) last in
      let any : missed_busy c (Miss c (suc n) (is_decided (word_at (suc n) h).code) ∷ missed_up shape k c n h) ≡ is_any_busy shape k c k.nspec h =
      ap (λ b. missed_busy c (Miss c (suc n) b ∷ missed_up shape k c n h)) busy ∙ (missed_any (suc n) ∙ ap (λ m. is_any_busy shape k c m h) last) in
      let left : enters shape k c (idle me) (Miss c (suc n) (is_decided (word_at (suc n) h).code) ∷ missed_up shape k c n h)
      (answer.Opening (if missed_busy c (Miss c (suc n) (is_decided (word_at (suc n) h).code) ∷ missed_up shape k c n h) then opening.Busy else opening.Unavailable))
      ≡ gives shape k c (idle me) h None = λ i. record { list = list i; progress = idle me; answer = answer.Opening (if any i then opening.Busy else opening.Unavailable) } in
      on_true (suc n == k.nspec) _ (subst (λ m. (suc n == m) ≡ true) last (number_is_itself (suc n)))
      (subst (λ (w : WholeCpu). Leads shape k c (missed_up shape k c n h)
      (ends me (Miss c (suc n) (is_decided (word_at (suc n) h).code) ∷ [])
      (answer.Opening (if missed_busy c (Miss c (suc n) (is_decided (word_at (suc n) h).code) ∷ missed_up shape k c n h) then opening.Busy else opening.Unavailable))) w)
      (left ∙ ap (gives shape k c (idle me) h) (sym none ∙ ap (λ m. least_free shape k c m h) last))
      (ended me))

  -- a free slot is opened
  opened_here : (n j : ℕ) (me : CpuProgress) → suc (n + j) ≡ k.nspec → least_free shape k c (suc n) h ≡ Some (suc n)
      → Leads shape k c (missed_up shape k c n h) (cpu_step shape k c (missed_up shape k c n h) me (cpu.ScanTry (suc n) (word_at (suc n) h)))
      (gives shape k c (idle me) h (least_free shape k c k.nspec h))
  opened_here n j me last least =
      let slots : suc n + j ≡ k.nspec = omega arith in
      let before : n ≡ suc n - 1 = omega arith in
      let chosen : least_free shape k c k.nspec h ≡ Some (suc n) = ap (λ m. least_free shape k c m h) (sym slots) ∙ least_stays (suc n) (suc n) j least in
      let left : enters shape k c (idle me) (Opened c (present (suc n) h) ∷ missed_up shape k c n h) (answer.Opening (opening.Id (present (suc n) h))) ≡ gives shape k c (idle me) h (Some (suc n)) =
      ap (λ (m : ℕ). enters shape k c (idle me) (Opened c (present (suc n) h) ∷ missed_up shape k c m h) (answer.Opening (opening.Id (present (suc n) h)))) before in
      on_true (same_word (word_at (suc n) (missed_up shape k c n h)) (word_at (suc n) h)) _
      (subst (λ (w : SlotState). same_word w (word_at (suc n) h) ≡ true) (sym (missed_word (suc n) n)) (word_is_itself (word_at (suc n) h)))
      (subst (λ (w : WholeCpu). Leads shape k c (missed_up shape k c n h)
      (ends me (Opened c (present (suc n) h) ∷ []) (answer.Opening (opening.Id (present (suc n) h)))) w)
      (left ∙ ap (gives shape k c (idle me) h) (sym chosen))
      (ended me))

  -- the load of a slot's word goes by whether the slot is free
  load_leads : (n : ℕ) (me : CpuProgress) (w : WholeCpu)
      → (is_free k (suc n) h ≡ true → Leads shape k c (missed_up shape k c n h) (call_goes_on me [] (cpu.ScanTry (suc n) (word_at (suc n) h))) w)
      → (is_free k (suc n) h ≡ false → Leads shape k c (missed_up shape k c n h) (missed k c (measured shape k c (missed_up shape k c n h)) me (suc n) (word_at (suc n) h)) w)
      → Leads shape k c (missed_up shape k c n h) (cpu_step shape k c (missed_up shape k c n h) me (cpu.ScanLoad (suc n))) w
  load_leads n me w free taken =
      subst (λ (x : SlotState). Leads shape k c (missed_up shape k c n h) (shown_scan k c (measured shape k c (missed_up shape k c n h)) me (suc n) x (open_at x k.max_issues)) w)
      (sym (missed_word (suc n) n))
      (subst (λ (b : Bool). Leads shape k c (missed_up shape k c n h)
      (shown_scan k c (measured shape k c (missed_up shape k c n h)) me (suc n) (word_at (suc n) h) (if b then attempt (issue (suc n) h) Active else Void)) w)
      (sym (free_is k h (suc n)))
      (go (is_free k (suc n) h) refl))
    where
      go : (b : Bool) → is_free k (suc n) h ≡ b
          → Leads shape k c (missed_up shape k c n h)
          (shown_scan k c (measured shape k c (missed_up shape k c n h)) me (suc n) (word_at (suc n) h) (if b then attempt (issue (suc n) h) Active else Void)) w
      go true e = free e
      go false e = taken e

  tries : (n j : ℕ) (me : CpuProgress) → suc (n + j) ≡ k.nspec → least_free shape k c n h ≡ None → is_free k (suc n) h ≡ true
      → Leads shape k c (missed_up shape k c n h) (call_goes_on me [] (cpu.ScanTry (suc n) (word_at (suc n) h)))
      (gives shape k c (idle me) h (least_free shape k c k.nspec h))
  tries n j me last none e = goes me (opened_here n j (later me (cpu.ScanTry (suc n) (word_at (suc n) h))) last (least_here n true none e))

  -- after the Misses of the slots below
  scan_leads : (j n : ℕ) (me : CpuProgress) → suc (n + j) ≡ k.nspec → least_free shape k c n h ≡ None
      → Leads shape k c (missed_up shape k c n h) (cpu_step shape k c (missed_up shape k c n h) me (cpu.ScanLoad (suc n)))
      (gives shape k c (idle me) h (least_free shape k c k.nspec h))
  scan_leads zero n me last none = load_leads n me _ (tries n zero me last none) (λ e. let at : suc n ≡ k.nspec = omega arith in missed_last n me at (least_here n false none e))
  scan_leads (suc j) n me last none = load_leads n me _ (tries n (suc j) me last none) (λ e.
      let more : suc (suc n + j) ≡ k.nspec = omega arith in
      let other : (suc n == k.nspec) ≡ false = grind (arith, nat_tests) in
      let next : suc (suc n) ≡ suc n + 1 = omega arith in
      let busy : is_busy (suc n) h ≡ is_decided (word_at (suc n) h).code = sym (busy_is k h (suc n) sound) in
      on_false (suc n == k.nspec) _ other
      (goes me
      (subst (λ (p : ℕ × Bool). Leads shape k c (Miss c (suc n) p.1 ∷ missed_up shape k c n h)
      (cpu_step shape k c (Miss c (suc n) p.1 ∷ missed_up shape k c n h) (later me (cpu.ScanLoad p.0)) (cpu.ScanLoad p.0)) (gives shape k c (idle me) h (least_free shape k c k.nspec h)))
      (λ i. (next i, busy i))
      ((scan_leads j (suc n) (later me (cpu.ScanLoad (suc (suc n)))) more (least_here n false none e))))))

module _ (shape : ℕ → Option Shape) (k : Config) (c : ℕ) (h : List Deed) (sound : IsSound k h) (rests : owed h ≡ 0) (still : scan k c h ≡ 0) where
  fresh : missed_busy c (Scan c true ∷ h) ≡ false
  fresh = rw (number_is_itself c) refl

  pub speculation_alone : (j : ℕ) (me : CpuProgress) → suc j ≡ k.nspec → RunsTo shape k c h (begins me cpu_op.Speculation) (whole_cpu shape k c (idle me) h cpu_op.Speculation)
  speculation_alone j me last = starts me cpu_op.Speculation
      (both (is_worn k c h) (λ t. worn me) (λ f.
      both (halted h) (λ t. ended me) (λ g.
      let running : true ≡ not (halted h) = sym (ap not g) in
      let first : suc (zero + j) ≡ k.nspec = omega arith in
      goes (begins me cpu_op.Speculation)
      (scan_leads shape k c (Scan c true ∷ h) (sound, (rests, (still, running))) fresh j zero (later (begins me cpu_op.Speculation) (cpu.ScanLoad 1)) first refl))))
