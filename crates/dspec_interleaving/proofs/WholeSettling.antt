-- What a service settles, slot by slot, in a session at rest.
use Prim.Native.Nat.{zero, suc}
use Rattle.std.proofs.Common.{◌≡◌, ◌<◌, ◌+◌, ℕ, Bool, true, false, not, ◌&&◌, ◌==◌, List, [], ◌∷◌, ◌++◌, Option, None, is_none, if◌then◌else◌, refl, sym, ap, ◌∙◌, subst, arith, true≢false}
use Rattle.std.proofs.lemmas.Bool.Decides.{nat_tests}
use Rattle.std.specs.Prelude.{nat_le}
use Rattle.dspec_interleaving.specs.Words.{Shape, Granted, Idle, Inactive, Committing, CommittingMany, awaits, is_commit, issue, present, opened, Ruling, undecided, committed, discarded, verdict}
use Rattle.dspec_interleaving.specs.Words.{is_undecided, callers, standing, is_sole_or_none, solo, settled, is_busy, owed, scan, ack, word_at, IsSound, SettlesAs, cpu_step, shown_service, served}
use Rattle.dspec_interleaving.specs.Words.{call_goes_on, ends, commit_fate, settle_fate, WholeCpu, enters, owes, settles_as, settled_at, settled_up, settlements_up_to, whole_service, measured}
use Rattle.dspec_interleaving.specs.Words.{Config, Served, DecideFate, Deed, Settle}
use Rattle.dspec_interleaving.specs.declared.flight.CpuProgress.{CpuProgress}
use Rattle.dspec_deeds.specs.declared.calls.Answer.TheVariants as answer
use Rattle.dspec_interleaving.specs.declared.flight.CallPlace.TheVariants as cpu
use Rattle.dspec_deeds.proofs.{Acked.ack_tells, Awaiting.awaits_is, PresentIds.decided_given, TestLemmas.and_tells, TestLemmas.number_is_itself}
use Rattle.dspec_interleaving.proofs.Tests.{is_nothing, not_tells}
use Rattle.dspec_interleaving.proofs.WholeLeads.{later, idle, Leads, ended, goes, on_true, on_false}

-- between two calls of the CPU
pub record IsAtRest (k : Config) (c : ℕ) (h : List Deed) : Type 0 where
  pub sound : IsSound k h
  pub rests : owed h ≡ 0
  pub still : scan k c h ≡ 0

module _ (shape : ℕ → Option Shape) (k : Config) (c : ℕ) where
  -- the table of a service settles exactly what waits for the CPU
  owes_is : (s : ℕ) (h : List Deed) → IsAtRest k c h → (awaits (word_at s h).code && nat_le (ack c s h) (issue s h)) ≡ owes shape k c s h
  owes_is s h at = (λ i. awaits_is k s h at.sound at.rests i && ack_tells k c s h at.sound i) ∙ assoc (is_busy s h) (is_none (solo (present s h) h)) (not (settled c (present s h) h))
    where
      assoc : (x y z : Bool) → ((x && y) && z) ≡ (x && (y && z))
      assoc true y z = refl
      assoc false y z = refl

  -- a slot that waits was decided, by no CPU alone, and isn't settled by the CPU
  pub record Owes (s : ℕ) (h : List Deed) : Type 0 where
    pub ruled : is_undecided (verdict (present s h) h) ≡ false
    pub shared : solo (present s h) h ≡ None
    pub unsettled : settled c (present s h) h ≡ false

  pub owes_tells : (s : ℕ) (h : List Deed) → owes shape k c s h ≡ true → Owes s h
  owes_tells s h e =
      let a = and_tells (is_busy s h) _ e in
      let b = and_tells (is_none (solo (present s h) h)) _ a.1 in
      record { ruled = not_tells (is_undecided (verdict (present s h) h)) a.0; shared = is_nothing (solo (present s h) h) b.0; unsettled = not_tells (settled c (present s h) h) b.1 }

  -- the fate of a settlement goes by the decision
  fate_is : (h : List Deed) (me : CpuProgress) (s : ℕ) → opened (present s h) h ≡ true → is_undecided (verdict (present s h) h) ≡ false
      → settle_fate shape k c h (present s h) (word_at s h).code ≡ settles_as shape k c (verdict (present s h) h) (present s h) h
  fate_is h me s o v = go (opened (present s h) h) (verdict (present s h) h) (callers (present s h) h) o v
    where
      commits : (b : Bool) → settle_fate shape k c h (present s h) (if b then Committing else CommittingMany) ≡ commit_fate shape k c h (present s h)
      commits true = refl
      commits false = refl

      go : (o : Bool) (v : Ruling) (cs : List ℕ) → o ≡ true → is_undecided v ≡ false
          → settle_fate shape k c h (present s h) (if o then standing v cs else Inactive) ≡ settles_as shape k c v (present s h) h
      go false v cs e u = absurd (true≢false (sym e))
      go true undecided cs e u = absurd (true≢false u)
      go true (committed a) cs e u = commits (is_sole_or_none a cs)
      go true (discarded a) cs e u = refl

  -- a settlement may come, and leaves the CPU between two calls
  settle_rests : (s : ℕ) (h : List Deed) → IsAtRest k c h → Owes s h → IsAtRest k c (Settle c (present s h) (settles_as shape k c (verdict (present s h) h) (present s h) h) ∷ h)
  settle_rests s h at o = record { sound = (at.sound, (at.rests, (at.still, (refl, may (verdict (present s h) h) o.ruled, o.shared, o.unsettled)))); rests = refl; still = at.still }
    where
      is_commit_if : (b : Bool) (n : ℕ) → is_commit
          (if b then Rattle.dspec_deeds.specs.declared.deed.DecideFate.TheVariants.Copied n else Rattle.dspec_deeds.specs.declared.deed.DecideFate.TheVariants.Lost n) ≡ true
      is_commit_if true n = refl
      is_commit_if false n = refl

      may : (v : Ruling) → is_undecided v ≡ false → SettlesAs v (settles_as shape k c v (present s h) h)
      may undecided e = absurd (true≢false e)
      may (committed a) e = is_commit_if _ _
      may (discarded a) e = refl

  pub settled_at_rests : (s : ℕ) (h : List Deed) → IsAtRest k c h → IsAtRest k c (settled_at shape k c s h)
  settled_at_rests s h at = go (owes shape k c s h) refl
    where
      go : (b : Bool) → owes shape k c s h ≡ b → IsAtRest k c (if b then Settle c (present s h) (settles_as shape k c (verdict (present s h) h) (present s h) h) ∷ h else h)
      go true e = settle_rests s h at (owes_tells s h e)
      go false e = at

  pub settled_up_rests : (n : ℕ) (h : List Deed) → IsAtRest k c h → IsAtRest k c (settled_up shape k c n h)
  settled_up_rests zero h at = at
  settled_up_rests (suc n) h at = settled_at_rests (suc n) (settled_up shape k c n h) (settled_up_rests n h at)

  -- how a service's answer stands after so many slots
  abbrev pub sum_at : Bool → ℕ → List Deed → Served
  sum_at b n h = record { sealed = b; settled = settlements_up_to shape k c n h }

  module _ (h : List Deed) (at : IsAtRest k c h) (b : Bool) where
    -- after the last slot
    serves_last : (n : ℕ) (me : CpuProgress) (ds : List Deed) (sum : Served) → suc n ≡ k.nspec → (ds ++ settled_up shape k c n h) ≡ settled_up shape k c (suc n) h → sum ≡ sum_at b (suc n) h
        → Leads shape k c (settled_up shape k c n h) (served k c (measured shape k c (settled_up shape k c n h)) me (suc n) ds sum) (whole_service shape k c (idle me) h b)
    serves_last n me ds sum last list is =
        let list' : (ds ++ settled_up shape k c n h) ≡ settled_up shape k c k.nspec h = list ∙ ap (λ m. settled_up shape k c m h) last in
        let is' : sum ≡ sum_at b k.nspec h = is ∙ ap (λ m. sum_at b m h) last in
        let left : enters shape k c (idle me) (ds ++ settled_up shape k c n h) (answer.Served sum) ≡ whole_service shape k c (idle me) h b =
        λ i. record { list = list' i; progress = idle me; answer = answer.Served (is' i) } in
        on_true (suc n == k.nspec) _ (subst (λ m. (suc n == m) ≡ true) last (number_is_itself (suc n)))
        (subst (λ (w : WholeCpu). Leads shape k c (settled_up shape k c n h) (ends me ds (answer.Served sum)) w) left
        (ended me))

    -- after another slot
    serves_next : (n : ℕ) (me : CpuProgress) (ds : List Deed) (sum : Served) → suc n < k.nspec → (ds ++ settled_up shape k c n h) ≡ settled_up shape k c (suc n) h → sum ≡ sum_at b (suc n) h
        → Leads shape k c (settled_up shape k c (suc n) h)
        (cpu_step shape k c (settled_up shape k c (suc n) h) (later me (cpu.ServiceLoad (suc (suc n)) (sum_at b (suc n) h)))
        (cpu.ServiceLoad (suc (suc n)) (sum_at b (suc n) h))) (whole_service shape k c (idle me) h b)
        → Leads shape k c (settled_up shape k c n h) (served k c (measured shape k c (settled_up shape k c n h)) me (suc n) ds sum) (whole_service shape k c (idle me) h b)
    serves_next n me ds sum more list is l =
        let other : (suc n == k.nspec) ≡ false = grind (arith, nat_tests) in
        let next : suc (suc n) ≡ suc n + 1 = omega arith in
        on_false (suc n == k.nspec) _ other
        (goes me
        (subst (λ (p : List Deed × ℕ × Served). Leads shape k c p.0 (cpu_step shape k c p.0 (later me (cpu.ServiceLoad p.1 p.2)) (cpu.ServiceLoad p.1 p.2)) (whole_service shape k c (idle me) h b))
        (λ i. (sym list i, next i, sym is i)) l))

    -- the load of a slot's word goes by whether the slot waits for the CPU
    load_serves : (n : ℕ) (me : CpuProgress) (sum : Served) (w : WholeCpu)
        → (owes shape k c (suc n) (settled_up shape k c n h) ≡ true
        → Leads shape k c (settled_up shape k c n h) (call_goes_on me [] (cpu.ServiceStore (suc n) (word_at (suc n) (settled_up shape k c n h)) sum)) w)
        → (owes shape k c (suc n) (settled_up shape k c n h) ≡ false → Leads shape k c (settled_up shape k c n h) (served k c (measured shape k c (settled_up shape k c n h)) me (suc n) [] sum) w)
        → Leads shape k c (settled_up shape k c n h) (cpu_step shape k c (settled_up shape k c n h) me (cpu.ServiceLoad (suc n) sum)) w
    load_serves n me sum w waits goes_by =
        subst (λ (t : Bool). Leads shape k c (settled_up shape k c n h)
        (shown_service k c (measured shape k c (settled_up shape k c n h)) me (suc n) sum (word_at (suc n) (settled_up shape k c n h)) (if t then Granted else Idle)) w)
        (sym (owes_is (suc n) (settled_up shape k c n h) (settled_up_rests n h at)))
        (go (owes shape k c (suc n) (settled_up shape k c n h)) refl)
      where
        go : (t : Bool) → owes shape k c (suc n) (settled_up shape k c n h) ≡ t
            → Leads shape k c (settled_up shape k c n h)
            (shown_service k c (measured shape k c (settled_up shape k c n h)) me (suc n) sum (word_at (suc n) (settled_up shape k c n h)) (if t then Granted else Idle)) w
        go true e = waits e
        go false e = goes_by e

    -- a settlement enters what the list once the slot is settled has
    settles_here : (n : ℕ) (me : CpuProgress) → owes shape k c (suc n) (settled_up shape k c n h) ≡ true
        → (Settle c (present (suc n) (settled_up shape k c n h))
        (settle_fate shape k c (settled_up shape k c n h) (present (suc n) (settled_up shape k c n h)) (word_at (suc n) (settled_up shape k c n h)).code) ∷ settled_up
        shape k c n h) ≡ settled_up shape k c (suc n) h
    settles_here n me e =
        let l : List Deed = settled_up shape k c n h in
        let o : Owes (suc n) l = owes_tells (suc n) l e in
        let given : opened (present (suc n) l) l ≡ true = decided_given k l (present (suc n) l) (settled_up_rests n h at).sound o.ruled in
        let fate = fate_is l me (suc n) given o.ruled in
        let here : settled_up shape k c (suc n) h ≡ (Settle c (present (suc n) l) (settles_as shape k c (verdict (present (suc n) l) l) (present (suc n) l) l) ∷ l) =
        ap (λ (t : Bool). if t then Settle c (present (suc n) l) (settles_as shape k c (verdict (present (suc n) l) l) (present (suc n) l) l) ∷ l else l) e in
        ap (λ (f : DecideFate). Settle c (present (suc n) l) f ∷ l) fate ∙ sym here

    passes_here : (n : ℕ) → owes shape k c (suc n) (settled_up shape k c n h) ≡ false → settled_up shape k c n h ≡ settled_up shape k c (suc n) h
    passes_here n e =
        let l : List Deed = settled_up shape k c n h in
        sym (ap (λ (t : Bool). if t then Settle c (present (suc n) l) (settles_as shape k c (verdict (present (suc n) l) l) (present (suc n) l) l) ∷ l else l) e)

    sum_more : (n : ℕ) (t : Bool) → owes shape k c (suc n) (settled_up shape k c n h) ≡ t → record { sealed = b; settled = settlements_up_to shape k c n h + (if t then 1 else 0) } ≡ sum_at b (suc n) h
    sum_more n t e = λ i. record { sealed = b; settled = settlements_up_to shape k c n h + (if sym e i then 1 else 0) }

    sum_same : (n : ℕ) → owes shape k c (suc n) (settled_up shape k c n h) ≡ false → sum_at b n h ≡ sum_at b (suc n) h
    sum_same n e = let none : settlements_up_to shape k c n h ≡ settlements_up_to shape k c n h + 0 = omega arith in (λ i. record { sealed = b; settled = none i }) ∙ sum_more n false e

    -- the slots from one to the last
    pub serve_leads : (j n : ℕ) (me : CpuProgress) → suc (n + j) ≡ k.nspec
        → Leads shape k c (settled_up shape k c n h) (cpu_step shape k c (settled_up shape k c n h) me (cpu.ServiceLoad (suc n) (sum_at b n h)))
        (whole_service shape k c (idle me) h b)
    serve_leads zero n me last =
        let at_last : suc n ≡ k.nspec = omega arith in
        load_serves n me (sum_at b n h) _
        (λ e. let stored : CpuProgress = later me (cpu.ServiceStore (suc n) (word_at (suc n) (settled_up shape k c n h)) (sum_at b n h)) in
        goes me (serves_last n stored _ _ at_last (settles_here n stored e) (sum_more n true e)))
        (λ e. serves_last n me [] _ at_last (passes_here n e) (sum_same n e))
    serve_leads (suc j) n me last =
        let more : suc n < k.nspec = omega arith in
        let rest : suc (suc n + j) ≡ k.nspec = omega arith in
        let l : List Deed = settled_up shape k c n h in
        load_serves n me (sum_at b n h) _
        (λ e. let stored : CpuProgress = later me (cpu.ServiceStore (suc n) (word_at (suc n) (settled_up shape k c n h)) (sum_at b n h)) in
        goes me
        (serves_next n stored _ _ more (settles_here n stored e) (sum_more n true e)
        (serve_leads j (suc n) (later stored (cpu.ServiceLoad (suc (suc n)) (sum_at b (suc n) h))) rest)))
        (λ e. serves_next n me [] _ more (passes_here n e) (sum_same n e)
        ((serve_leads j (suc n) (later me (cpu.ServiceLoad (suc (suc n)) (sum_at b (suc n) h))) rest)))
